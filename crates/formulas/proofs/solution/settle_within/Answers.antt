use Rattle.std.proofs.Common.{◌≡◌, ◌-◌, Err, sym, ap, ◌∙◌, ap₂, arith}
use Rattle.std.proofs.lemmas.Result.{err_from_is_err_and}
use Rattle.rules.specs.Surveys.{view}
use Rattle.formulas.specs.Records.{entries}
use Rattle.formulas.specs.RoundViews.{formulas_of}
use Rattle.formulas.specs.Solutions.{solution_viewed}
use Rattle.formulas.specs.Solving.{settle}
use Rattle.formulas.proofs.Settling.{tested_rounds, settle_off, settle_here, settle_more, settle_none}
use Rattle.formulas.proofs.solution.settle_within.Goals as goal

pub loop-done-init : goal.loop-done-init
loop-done-init c =
    let n : c.args.allowance - 0 ≡ c.args.allowance = omega arith in
    ap₂ (λ n L. settle (entries c.args.problem.now.set.now) (view c.args.problem.now.table.now) n 0 L) n c.first-round.ensures

pub returns-in_err-next : goal.returns-in_err-next
returns-in_err-next c =
    let p = err_from_is_err_and c.from_residual.result c.from_residual.ensures.1 in
    ap solution_viewed (p.1 ∙ ap Err p.2)
    ∙ sym (sym c.loop-done.invariant ∙ settle_off (entries c.args.problem.now.set.now) (view c.args.problem.now.table.now) c.args.allowance c.loop-done.done (formulas_of c.loop-done.round) c.loop-done-test.true
    c.in_err-next.field-0.0 c.in_err-next.ensures)

pub returns-then-eq : goal.returns-then-eq
returns-then-eq c =
    sym (sym c.loop-done.invariant ∙ settle_here (entries c.args.problem.now.set.now) (view c.args.problem.now.table.now) c.args.allowance c.loop-done.done (formulas_of c.loop-done.round) c.loop-done-test.true
    (formulas_of c.in_ok-next.next) c.in_ok-next.ensures (c.if-eq.ensures ∙ tested_rounds c.in_ok-next.next c.loop-done.round))

pub loop-done-preserved : goal.loop-done-preserved
loop-done-preserved c =
    sym (settle_more (entries c.args.problem.now.set.now) (view c.args.problem.now.table.now) c.args.allowance c.loop-done.done (formulas_of c.loop-done.round) c.loop-done-test.true
    (formulas_of c.in_ok-next.next) c.in_ok-next.ensures (c.if-eq.ensures ∙ tested_rounds c.in_ok-next.next c.loop-done.round)) ∙ c.loop-done.invariant

pub returns : goal.returns
returns c =
    sym (sym c.loop-done.invariant ∙ settle_none (entries c.args.problem.now.set.now) (view c.args.problem.now.table.now) c.args.allowance c.loop-done.done (formulas_of c.loop-done.round) (omega (arith, c.loop-done-test.false)))
