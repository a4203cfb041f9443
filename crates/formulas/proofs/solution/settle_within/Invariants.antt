use Rattle.std.proofs.Common.{◌≡◌, ◌-◌}
use Rattle.rules.specs.Surveys.{view}
use Rattle.formulas.specs.Records.{entries}
use Rattle.formulas.specs.RoundViews.{formulas_of}
use Rattle.formulas.specs.Rounds.{first_round}
use Rattle.formulas.specs.Solving.{settle}
use Rattle.formulas.proofs.solution.settle_within.Given as goal

abbrev pub invariant-loop-done : goal.invariant-loop-done
invariant-loop-done l = settle (entries l.problem.set.now) (view l.problem.table.now) (l.allowance - l.done) l.done (formulas_of l.round) ≡ settle (entries l.problem.set.now) (view l.problem.table.now) l.allowance 0 first_round
