use Rattle.std.proofs.Common.{◌≡◌}
use Rattle.foundation.specs.Bounds.{items}
use Rattle.formulas.specs.Records.{entries}
use Rattle.formulas.specs.Solutions.{settled_of}
use Rattle.judge.specs.Rows.{rows_below}
use Rattle.judge.proofs.report.rows.Given as goal

abbrev pub invariant-loop-procedure : goal.invariant-loop-procedure
invariant-loop-procedure l = items l.told ≡ rows_below (entries l.set) (settled_of l.solution).formulas l.procedure
