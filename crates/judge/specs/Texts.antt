-- A report and its rows as text.
use Rattle.std.specs.Prelude.{ℕ, List, ◌++◌, codes, decimal}
use Rattle.formulas.specs.declared.symbol.Owner.{Owner}
use Rattle.formulas.specs.declared.symbol.Owner.TheVariants.{Station, Field}

abbrev pub owner_letter : Owner → List ℕ
owner_letter Station = codes "S"
owner_letter Field = codes "F"

-- the procedure, its owner and the number of its clauses
abbrev pub row_text : ℕ → Owner → ℕ → List ℕ
row_text x o n = decimal x ++ (codes " " ++ (owner_letter o ++ (codes " " ++ decimal n)))

abbrev pub report_text : ℕ → ℕ → List ℕ
report_text effects rounds = codes "effects " ++ (decimal effects ++ (codes " rounds " ++ decimal rounds))
