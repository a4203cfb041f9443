-- Formulas: lists of clauses, each a set of effect numbers. Each clause is a choice of the station, each number in it one of the field.
-- A formula meets a set A if every clause has a member in A. At most `limit` clauses may stand; where one more would, there is no result.
-- `then` is a word of this file, so choices are written by `cond` here and not by if, then and else.
use Rattle.std.specs.Prelude.{◌≡◌, ℕ, ◌^◌, ◌<◌, Bool, true, cond, not, ◌&&◌, List, [], ◌∷◌, ◌++◌, map, length, Some, None, filter, Option, bit_or, nat_lt}
use mathlib.Core.List.{Memᴰ}
use Rattle.std.specs.List.Sorted.{IsStrictlyIncreasing}
use Rattle.std.specs.List.{AllByRecursion, list_any, list_all}
use Rattle.foundation.specs.Sets.{within, members, gathered, hits}
use Rattle.rules.specs.Tables.{Table, join_of}
use Rattle.formulas.specs.Steps.{bind}

abbrev pub meets : (ℕ → Bool) → List ℕ → Bool
meets A F = list_all (hits A) F

-- the formula that meets no set: the one clause without members
abbrev pub impossible : List ℕ
impossible = 0 ∷ []

-- the formula that meets the sets with the number 0, the neutral effect's
abbrev pub neutral : List ℕ
neutral = 1 ∷ []

-- ---- smallest clauses, in rising order

-- the clauses rise, and none lies within another
pub record Normal (F : List ℕ) : Type 0 where
  pub rising : IsStrictlyIncreasing F
  pub apart : (K L : ℕ) → Memᴰ K F → Memᴰ L F → within K L ≡ true → K ≡ L

-- as a test: no clause lies within a later one. Where clauses rise, no other can.
abbrev pub none_within : List ℕ → Bool
none_within [] = true
none_within (K ∷ F) = not (list_any (within K) F) && none_within F

-- every clause has only numbers below w
abbrev pub BelowWidth : ℕ → List ℕ → Type 0
BelowWidth w F = AllByRecursion (λ K. K < 2 ^ w) F

-- ---- offering

-- the clauses that do not contain C
abbrev pub outside : ℕ → List ℕ → List ℕ
outside C F = filter (λ K. not (within C K)) F

-- C at its place in the rising order
abbrev pub placed : ℕ → List ℕ → List ℕ
placed C [] = C ∷ []
placed C (K ∷ F) = cond (nat_lt C K) (C ∷ K ∷ F) (K ∷ placed C F)

module _ (limit : ℕ) where
  -- nothing happens if a clause lies within C; else the clauses that contain C leave, and C enters
  unfoldable pub offer : ℕ → List ℕ → Option (List ℕ)
  offer C F = cond (list_any (λ K. within K C) F) (Some F) (cond (nat_lt (length (outside C F)) limit) (Some (placed C (outside C F))) None)

  -- each of a list of clauses offered in order
  abbrev pub offers : List ℕ → List ℕ → Option (List ℕ)
  offers F [] = Some F
  offers F (C ∷ Cs) = bind (offer C F) (λ R. offers R Cs)

-- ---- the union of each clause of the one with each of the other, in order
abbrev pub unions : List ℕ → List ℕ → List ℕ
unions [] G = []
unions (K ∷ F) G = map (bit_or K) G ++ unions F G

-- ---- by the joins of a table; a number that is none of its effects counts as absent

-- the effects k that lead into A after e
abbrev pub leading : Table → (ℕ → Bool) → ℕ → ℕ → Bool
leading t A e k = nat_lt e t.count && (nat_lt k t.count && A (join_of t e k))

-- the effects e after which G leads into A
abbrev pub going_on : Table → (ℕ → Bool) → List ℕ → ℕ → Bool
going_on t A G e = nat_lt e t.count && meets (leading t A e) G

-- the joins of e with each of ks
abbrev pub joins : Table → ℕ → List ℕ → List ℕ
joins t e [] = []
joins t e (k ∷ ks) = cond (nat_lt e t.count && nat_lt k t.count) (join_of t e k ∷ joins t e ks) (joins t e ks)

-- the set of the joins of e with the members of K
abbrev pub joined : Table → ℕ → ℕ → ℕ
joined t e K = gathered (joins t e (members K))

module _ (limit : ℕ) where
  abbrev pub both : List ℕ → List ℕ → Option (List ℕ)
  both F G = offers limit F G

  abbrev pub either : List ℕ → List ℕ → Option (List ℕ)
  either F G = offers limit [] (unions F G)

  module _ (t : Table) where
    abbrev pub shift : ℕ → List ℕ → Option (List ℕ)
    shift e F = offers limit [] (map (joined t e) F)

    -- T, or G after one of the effects
    abbrev pub or_after : List ℕ → List ℕ → List ℕ → Option (List ℕ)
    or_after G T [] = Some T
    or_after G T (e ∷ es) = cond (nat_lt e t.count) (bind (shift e G) (λ S. bind (either T S) (λ U. or_after G U es))) (or_after G T es)

    -- R, and for each clause of F: G after one of its effects
    abbrev pub and_after : List ℕ → List ℕ → List ℕ → Option (List ℕ)
    and_after G R [] = Some R
    and_after G R (K ∷ F) = bind (or_after G impossible (members K)) (λ T. bind (both R T) (λ S. and_after G S F))

    abbrev pub then : List ℕ → List ℕ → Option (List ℕ)
    then F G = and_after G [] F
