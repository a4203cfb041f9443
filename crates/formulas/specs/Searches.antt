-- The first of a list that fails a test.
use Rattle.std.specs.Prelude.{ℕ, Bool, not, List, Option}
use Rattle.std.specs.List.{position_from}

-- its number, where the list is numbered from i on; None where all pass
abbrev pub first_bad : {X : Type 0} → (X → Bool) → ℕ → List X → Option ℕ
first_bad good i xs = position_from (λ x. not (good x)) i xs
