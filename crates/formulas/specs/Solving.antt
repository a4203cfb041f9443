-- Solving: rounds until one is equal to the one before it.
use Rattle.std.specs.Prelude.{◌≡◌, ℕ, zero, suc, ◌+◌, ◌<◌, ◌≤◌, Bool, true, if◌then◌else◌, ◌&&◌, List, Some, None, Ok, Err, Option, Result, ◌≢◌, nat_le, nat_lt}
use mathlib.Core.List.{Memᴰ}
use Rattle.std.specs.Cmp.Lexicographic.{pointwise}
use Rattle.std.specs.List.{slice_get, list_all}
use Rattle.std.specs.Str.{bytes_eq}
use Rattle.rules.specs.Tables.{Table}
use Rattle.formulas.specs.declared.fault.SolveFault.{SolveFault}
use Rattle.formulas.specs.declared.fault.SolveFault.TheVariants.{Allowance, UnknownCommand, TooManyClauses, Unsettled}
use Rattle.formulas.specs.declared.symbol.Symbol.{Symbol}
use Rattle.formulas.specs.declared.symbol.Symbol.TheVariants.{Command, Procedure}
use Rattle.formulas.specs.Equations.{LeastSolution, FirstSettled}
use Rattle.formulas.specs.Rounds.{first_round, next_round, round}
use Rattle.formulas.specs.Searches.{first_bad}
use Rattle.formulas.specs.Symbols.{Entry}

-- ---- by computing

-- a round that is equal to the one before it, with its number
pub record Settled : Type 0 where
  pub number : ℕ
  pub formulas : List (List ℕ)

abbrev pub same_rounds : List (List ℕ) → List (List ℕ) → Bool
same_rounds = pointwise bytes_eq

-- the round after round k, which is L: the answer if the two are equal, else on to the next one
abbrev pub settle_on : Result (List (List ℕ)) ℕ → List (List ℕ) → ℕ → (List (List ℕ) → Result Settled SolveFault) → Result Settled SolveFault
settle_on (Err x) L k on = Err (TooManyClauses x)
settle_on (Ok M) L k on = if same_rounds M L then Ok (record { number = k + 1; formulas = M }) else on M

-- a command of a rule with n commands, or a procedure
abbrev pub known : ℕ → Symbol → Bool
known n (Command c) = nat_lt c n
known n (Procedure x) = true

abbrev pub known_body : ℕ → Entry → Bool
known_body n r = list_all (known n) r.body

-- refused at the first record with a command that the rule lacks
abbrev pub unless_lacking : Option ℕ → Result Settled SolveFault → Result Settled SolveFault
unless_lacking None r = r
unless_lacking (Some i) r = Err (UnknownCommand i)

module _ (rs : List Entry) (t : Table) where
  -- at most n more rounds after round k, which is L
  abbrev pub settle : ℕ → ℕ → List (List ℕ) → Result Settled SolveFault
  settle zero k L = Err (Unsettled k)
  settle (suc n) k L = settle_on (next_round 64 rs t L) L k (settle n (k + 1))

  abbrev pub solved : ℕ → Result Settled SolveFault
  solved allowance =
      if nat_lt 0 allowance && nat_le allowance 1000
      then unless_lacking (first_bad (known_body t.commands) 0 rs) (settle allowance 0 first_round)
      else Err Allowance

  -- ---- in words

  abbrev pub Allowed : ℕ → Type 0
  Allowed allowance = (0 < allowance) × (allowance ≤ 1000)

  -- the body of record n has a command that the rule lacks
  pub record Foreign (n : ℕ) : Type 0 where
    pub here : Entry
    pub stands : slice_get rs n ≡ Some here
    pub command : ℕ
    pub named : Memᴰ (Command command) here.body
    pub lacking : t.commands ≤ command

  abbrev pub NoneForeign : Type 0
  NoneForeign = (n : ℕ) → Foreign n → ⊥

  -- there is a round k, and up to it none is equal to the one before it
  pub record UnsettledUntil (k : ℕ) (L : List (List ℕ)) : Type 0 where
    pub is : round 64 rs t k ≡ Ok L
    pub apart : (j : ℕ) → j < k → round 64 rs t (suc j) ≢ round 64 rs t j

  -- What an answer says. An accepted one is the least solution, at the first round equal to the one before it. The refusals, each where none before it holds: a bad allowance; a command that the rule lacks, at the first such record;
  -- a 65th clause, at the first procedure of the first such round; no settled round within the allowance.
  abbrev pub Solved : ℕ → Result Settled SolveFault → Type 0
  Solved allowance (Ok s) = Allowed allowance × NoneForeign × (s.number ≤ allowance) × FirstSettled rs t 64 s.number s.formulas × LeastSolution rs t s.formulas
  Solved allowance (Err Allowance) = Allowed allowance → ⊥
  Solved allowance (Err (UnknownCommand n)) = Allowed allowance × Foreign n × ((i : ℕ) → i < n → Foreign i → ⊥)
  Solved allowance (Err (TooManyClauses x)) = Allowed allowance × NoneForeign × ((k : ℕ) × (L : List (List ℕ)) × (k < allowance) × UnsettledUntil k L × (next_round 64 rs t L ≡ Err x))
  Solved allowance (Err (Unsettled n)) = Allowed allowance × NoneForeign × (n ≡ allowance) × ((L : List (List ℕ)) × UnsettledUntil allowance L)
