-- Formulas that the code holds, by their clauses, and what its operations answer.
use Rattle.std.specs.Prelude.{◌≡◌, ℕ, ◌^◌, ◌<◌, Bool, ◌&&◌, ◌||◌, List, Some, None, Ok, Err, Decides, Option, Result, ◌≤◌, length}
use Rattle.foundation.specs.Bits.{has}
use Rattle.rules.specs.Tables.{Table}
use Rattle.formulas.specs.declared.clauses.Clauses.{Clauses}
use Rattle.formulas.specs.declared.fault.Overflow.{Overflow}
use Rattle.formulas.specs.Clauses.{clause_list}
use Rattle.formulas.specs.Formulas.{meets, BelowWidth, leading, going_on}

-- a formula as contracts see it
pub record FormulaSeen : Type 0 where
  pub clauses : Clauses
  pub some : 1 ≤ length (clause_list clauses)

abbrev pub formula_list : FormulaSeen → List ℕ
formula_list f = clause_list f.clauses

-- the formula, or None where a clause too many would have stood
abbrev pub found : Result FormulaSeen Overflow → Option (List ℕ)
found (Ok f) = Some (formula_list f)
found (Err e) = None

-- ---- what a result means

-- R meets the sets that both meet
abbrev pub And : List ℕ → List ℕ → List ℕ → Type 0
And F G R = (A : ℕ → Bool) → meets A R ≡ (meets A F && meets A G)

-- R meets the sets that one of the two meets
abbrev pub Or : List ℕ → List ℕ → List ℕ → Type 0
Or F G R = (A : ℕ → Bool) → meets A R ≡ (meets A F || meets A G)

-- R meets A where F meets what leads into A after e
abbrev pub After : Table → ℕ → List ℕ → List ℕ → Type 0
After t e F R = (A : ℕ → Bool) → meets A R ≡ meets (leading t A e) F

-- R meets A where F meets the effects after which G leads into A
abbrev pub Composed : Table → List ℕ → List ℕ → List ℕ → Type 0
Composed t F G R = (A : ℕ → Bool) → meets A R ≡ meets (going_on t A G) F

-- r tells whether F and G are equal, which they are exactly where they meet the same sets of numbers below w, whatever the width w of both is
pub record ToldApart (F G : List ℕ) (r : Bool) : Type 0 where
  pub equal : Decides r (F ≡ G)
  pub alike : (w : ℕ) → BelowWidth w F → BelowWidth w G → Decides r ((S : ℕ) → S < 2 ^ w → meets (has S) F ≡ meets (has S) G)
