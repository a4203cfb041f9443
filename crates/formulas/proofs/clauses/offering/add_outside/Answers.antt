use Rattle.std.proofs.Common.{sym}
use Rattle.formulas.proofs.Offering.{no_room, adding_full}
use Rattle.formulas.proofs.Offers.{on_err}
use Rattle.formulas.proofs.clauses.offering.add_outside.Goals as goal

pub returns-in_err-push-clause-err : goal.returns-in_err-push-clause-err
returns-in_err-push-clause-err c =
    on_err c.from_residual.result
    (adding_full c.args.c c.args.next.now c.loop-clause.next c.args.rest.now c.loop-clause.clause-index c.loop-clause-test.true c.clause-item.result c.clause-item.is
    c.loop-clause.invariant (sym c.if-not-is_within.ensures.value) (no_room c.in_err-push.ensures.room.1))
