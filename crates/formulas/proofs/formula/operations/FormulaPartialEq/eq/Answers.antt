use Rattle.std.proofs.Common.{◌≡◌, sym, subst, ap₂, ◌∙◌}
use Rattle.std.specs.Cmp.Lexicographic.{pointwise}
use Rattle.std.specs.Ordering.{on}
use Rattle.std.specs.Prelude.{nat_eq}
use Rattle.formulas.specs.FormulaViews.{formula_list, ToldApart}
use Rattle.formulas.proofs.Equalities.{formulas_told}
use Rattle.formulas.proofs.formula.operations.FormulaPartialEq.eq.Goals as goal

pub returns : goal.returns
returns c =
    let a = c.args.self.now in
    let b = c.args.other.now in
    let value : c.eq.result ≡ on formula_list (pointwise nat_eq) a b = c.eq.ensures ∙ ap₂ (pointwise nat_eq) c.clauses.ensures c.clauses-2.ensures in
    record { value = value; told = subst (ToldApart (formula_list a) (formula_list b)) (sym value) (formulas_told a b) }
