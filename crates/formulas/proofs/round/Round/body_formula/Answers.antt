use Rattle.std.proofs.Common.{◌≡◌, sym, ◌∙◌}
use Rattle.std.specs.Iterator.Adapters.{rev_source}
use Rattle.std.specs.Slice.Iter.{iter_rest}
use Rattle.rules.specs.Surveys.{view}
use Rattle.formulas.specs.FormulaViews.{formula_list}
use Rattle.formulas.specs.RoundViews.{formulas_of}
use Rattle.formulas.proofs.Bodies.{behind_start, behind_more, behind_none, behind_all}
use Rattle.formulas.proofs.Shifting.{err_found}
use Rattle.formulas.proofs.round.Round.body_formula.Goals as goal

pub loop-symbol-init : goal.loop-symbol-init
loop-symbol-init c =
    let whole : iter_rest (rev_source c.into_iter-symbol-iterator.result) ≡ c.args.body.now = cc in
    behind_start 64 (view c.args.table.now) (formulas_of c.args.self.now) c.args.body.now _ (formula_list c.neutral-formula.result) whole c.neutral-formula.ensures

pub returns-in_err-formula : goal.returns-in_err-formula
returns-in_err-formula c =
    err_found c.from_residual.result c.from_residual.ensures.0
    ∙ sym (behind_none 64 (view c.args.table.now) (formulas_of c.args.self.now) c.args.body.now _ (iter_rest (rev_source c.next.new.self)) c.in-Some.symbol.now
    (formula_list c.loop-symbol.formula) c.in-Some.ensures.steps c.loop-symbol.invariant (sym c.in_err-formula.ensures))

pub loop-symbol-preserved : goal.loop-symbol-preserved
loop-symbol-preserved c =
    behind_more 64 (view c.args.table.now) (formulas_of c.args.self.now) c.args.body.now _ (iter_rest (rev_source c.next.new.self)) c.in-Some.symbol.now
    (formula_list c.loop-symbol.formula) c.in-Some.ensures.steps c.loop-symbol.invariant (formula_list c.in_ok-formula.formula) (sym c.in_ok-formula.ensures)

pub returns : goal.returns
returns c = sym (behind_all 64 (view c.args.table.now) (formulas_of c.args.self.now) c.args.body.now _ (formula_list c.loop-symbol.formula) c.in-None.ensures.steps.0 c.loop-symbol.invariant)
