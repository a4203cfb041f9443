use Rattle.std.proofs.Common.{◌≡◌, length, ap, ◌∙◌, arith}
use Rattle.formulas.specs.Records.{entries}
use Rattle.formulas.specs.Rounds.{procedures}
use Rattle.formulas.specs.Solutions.{settled_of}
use Rattle.formulas.proofs.Nexts.{procedures_are}
use Rattle.judge.specs.Rows.{rows_below}
use Rattle.judge.proofs.Telling.{rows_few}
use Rattle.judge.proofs.report.rows.Goals as goal

pub unwrap-requires : goal.unwrap-requires
unwrap-requires c =
    let few = rows_few (entries c.args.set.now) (settled_of c.args.solution.now).formulas c.loop-procedure.procedure in
    c.push.ensures.room.1 (omega (arith, ap length c.loop-procedure.invariant, few, c.loop-procedure-test.true))

pub returns : goal.returns
returns c =
    let all : c.loop-procedure.procedure ≡ procedures = omega (arith, procedures_are, c.loop-procedure-test.false) in
    c.loop-procedure.invariant ∙ ap (rows_below (entries c.args.set.now) (settled_of c.args.solution.now).formulas) all
