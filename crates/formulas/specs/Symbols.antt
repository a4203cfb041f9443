-- Procedure sets as lists of records.
use Rattle.std.specs.Prelude.{◌≡◌, ℕ, ◌<◌, ◌≤◌, Bool, if◌then◌else◌, List, [], ◌∷◌, length, Some, None, Option, ◌==◌, nat_lt}
use mathlib.Core.List.{Memᴰ}
use Rattle.std.specs.List.{AllByRecursion}
use Rattle.formulas.specs.declared.symbol.Owner.{Owner}
use Rattle.formulas.specs.declared.symbol.Symbol.{Symbol}
use Rattle.formulas.specs.declared.symbol.Symbol.TheVariants.{Command, Procedure}

-- a command 0 to 15, or a procedure 0 to 31
abbrev pub Proper : Symbol → Type 0
Proper (Command c) = c < 16
Proper (Procedure x) = x < 32

-- the same as a test
abbrev pub proper : Symbol → Bool
proper (Command c) = nat_lt c 16
proper (Procedure x) = nat_lt x 32

-- a record: one body of a procedure, and the side that the procedure belongs to
pub record Entry : Type 0 where
  pub procedure : ℕ
  pub owner : Owner
  pub body : List Symbol

-- the procedure, the length of the body and its symbols are in range
pub record InRange (r : Entry) : Type 0 where
  pub known : r.procedure < 32
  pub short : length r.body ≤ 9
  pub symbols : AllByRecursion Proper r.body

-- r is one of the records, and of the procedure x
pub record Of (rs : List Entry) (x : ℕ) (r : Entry) : Type 0 where
  pub stands : Memᴰ r rs
  pub names : r.procedure ≡ x

-- x is a procedure of the side o
abbrev pub Belongs : List Entry → Owner → ℕ → Type 0
Belongs rs o x = (r : Entry) × Of rs x r × (r.owner ≡ o)

-- records of one procedure name one side
abbrev pub Agree : List Entry → Type 0
Agree rs = (x : ℕ) (r s : Entry) → Of rs x r → Of rs x s → r.owner ≡ s.owner

-- each procedure that a body names has a record
abbrev pub Named : List Entry → Type 0
Named rs = (r : Entry) (x : ℕ) → Memᴰ r rs → Memᴰ (Procedure x) r.body → (s : Entry) × Of rs x s

-- the bodies of x, by the number of their records
abbrev pub bodies : List Entry → ℕ → List (List Symbol)
bodies [] x = []
bodies (r ∷ rs) x = if r.procedure == x then r.body ∷ bodies rs x else bodies rs x

-- the side of x, by its first record; None where it has no record
abbrev pub owner_of : List Entry → ℕ → Option Owner
owner_of [] x = None
owner_of (r ∷ rs) x = if r.procedure == x then Some r.owner else owner_of rs x
