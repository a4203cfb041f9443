use Rattle.std.proofs.Common.{Some, None, sym, ap, ◌∙◌, arith}
use Rattle.foundation.specs.Sets.{members}
use Rattle.rules.specs.Surveys.{view}
use Rattle.formulas.specs.Formulas.{or_after, impossible}
use Rattle.formulas.specs.FormulaViews.{formula_list}
use Rattle.formulas.proofs.Shifting.{or_absent, or_present, or_more, or_end, err_found}
use Rattle.formulas.proofs.formula.Formula.after_one_of.Goals as goal

pub loop-e-init : goal.loop-e-init
loop-e-init c =
    let t = view c.args.table.now in
    let G = formula_list c.args.self.now in
    ap (λ T. or_after 64 t G T (members c.into_iter-e-iterator.result)) c.impossible-after.ensures
    ∙ ap (λ K. or_after 64 t G impossible (members K)) c.into_iter-e-iterator.ensures.into_iter_gives.0

pub returns-in_err-shifted : goal.returns-in_err-shifted
returns-in_err-shifted c =
    err_found c.from_residual.result c.from_residual.ensures.0
    ∙ sym (sym c.loop-e.invariant
    ∙ or_present 64 (view c.args.table.now) (formula_list c.args.self.now) (formula_list c.loop-e.after) c.in-Some.e _ (members c.next.new.self) c.in-Some.ensures.steps
    (omega (arith, c.if-from-effects.true, c.from.ensures, c.effects.ensures)) None (sym c.in_err-shifted.ensures.value))

pub returns-in_err-after : goal.returns-in_err-after
returns-in_err-after c =
    err_found c.from_residual-in_err-after.result c.from_residual-in_err-after.ensures.0
    ∙ sym (sym c.loop-e.invariant
    ∙ or_more 64 (view c.args.table.now) (formula_list c.args.self.now) (formula_list c.loop-e.after) c.in-Some.e _ (members c.next.new.self) c.in-Some.ensures.steps
    (omega (arith, c.if-from-effects.true, c.from.ensures, c.effects.ensures)) (formula_list c.in_ok-shifted.shifted) (sym c.in_ok-shifted.ensures.value) None (sym c.in_err-after.ensures.value))

pub loop-e-preserved : goal.loop-e-preserved
loop-e-preserved c =
    sym (or_absent 64 (view c.args.table.now) (formula_list c.args.self.now) (formula_list c.loop-e.after) c.in-Some.e _ (members c.next.new.self) c.in-Some.ensures.steps
    (omega (arith, c.if-from-effects.false, c.from.ensures, c.effects.ensures)))
    ∙ c.loop-e.invariant

pub loop-e-preserved-then-from-effects : goal.loop-e-preserved-then-from-effects
loop-e-preserved-then-from-effects c =
    sym (or_more 64 (view c.args.table.now) (formula_list c.args.self.now) (formula_list c.loop-e.after) c.in-Some.e _ (members c.next.new.self) c.in-Some.ensures.steps
    (omega (arith, c.if-from-effects.true, c.from.ensures, c.effects.ensures)) (formula_list c.in_ok-shifted.shifted) (sym c.in_ok-shifted.ensures.value)
    (Some (formula_list c.in_ok-after.after)) (sym c.in_ok-after.ensures.value))
    ∙ c.loop-e.invariant

pub returns : goal.returns
returns c = sym (sym c.loop-e.invariant ∙ or_end 64 (view c.args.table.now) (formula_list c.args.self.now) (formula_list c.loop-e.after) _ c.in-None.ensures.steps.0)
