-- A solution that the code holds: the settled round and its number.
use Rattle.std.specs.Result.{result_map_both as by_cases}
use Rattle.std.specs.Prelude.{ℕ, Result}
use Rattle.formulas.specs.declared.fault.SolveFault.{SolveFault}
use Rattle.formulas.specs.declared.round.Round.{Round}
use Rattle.formulas.specs.RoundViews.{formulas_of}
use Rattle.formulas.specs.Solving.{Settled}

-- a solution as contracts see it
pub record SolutionSeen : Type 0 where
  pub round : Round
  pub number : ℕ

abbrev pub settled_of : SolutionSeen → Settled
settled_of s = record { number = s.number; formulas = formulas_of s.round }

abbrev pub solution_viewed : Result SolutionSeen SolveFault → Result Settled SolveFault
solution_viewed = by_cases settled_of (λ f. f)
