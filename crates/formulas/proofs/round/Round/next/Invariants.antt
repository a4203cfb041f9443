use Rattle.std.proofs.Common.{◌≡◌, length}
use Rattle.rules.specs.Surveys.{view}
use Rattle.formulas.specs.Records.{entries}
use Rattle.formulas.specs.RoundViews.{formulas_of}
use Rattle.formulas.proofs.Nexts.{Gathering}
use Rattle.formulas.proofs.round.Round.next.Given as goal

abbrev pub invariant-loop-p : goal.invariant-loop-p
invariant-loop-p l = (length l.formula-items ≡ 32) × Gathering (view l.problem.table.now) (entries l.problem.set.now) (formulas_of l.self) l.formula-items l.p
