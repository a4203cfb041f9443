-- Rounds that the code holds, by their formulas.
use Rattle.std.specs.Prelude.{ℕ, List, map, Result}
use Rattle.std.specs.Result.{result_map_both as by_cases}
use Rattle.formulas.specs.declared.fault.SolveFault.{SolveFault}
use Rattle.formulas.specs.declared.fault.SolveFault.TheVariants.{TooManyClauses}
use Rattle.formulas.specs.declared.round.Round.{Round}
use Rattle.formulas.specs.FormulaViews.{formula_list}

abbrev pub formulas_of : Round → List (List ℕ)
formulas_of r = map formula_list r.formulas

abbrev pub round_viewed : Result Round SolveFault → Result (List (List ℕ)) SolveFault
round_viewed = by_cases formulas_of (λ f. f)

-- a round, refused where a clause too many would have stood
abbrev pub round_answer : Result (List (List ℕ)) ℕ → Result (List (List ℕ)) SolveFault
round_answer = by_cases (λ L. L) TooManyClauses
