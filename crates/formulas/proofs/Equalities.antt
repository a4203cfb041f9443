-- Equality of formulas, as the code tests it.
use Rattle.std.proofs.Common.{ap}
use Rattle.std.specs.Cmp.Lexicographic.{pointwise, bytes_decides}
use Rattle.std.specs.Ordering.{on}
use Rattle.std.specs.Prelude.{nat_eq}
use Rattle.foundation.specs.Bits.{has}
use Rattle.formulas.specs.Formulas.{meets}
use Rattle.formulas.specs.FormulaViews.{FormulaSeen, formula_list, ToldApart}
use Rattle.formulas.proofs.Normals.{test_normal, same_formula}

-- the test of two formulas' clauses, which `==` answers and `!=` negates, tells them apart
pub formulas_told : (a b : FormulaSeen) → ToldApart (formula_list a) (formula_list b) (on formula_list (pointwise nat_eq) a b)
formulas_told a b =
    let F = formula_list a in
    let G = formula_list b in
    let d = bytes_decides F G in
    let f = test_normal F a.clauses.rising a.clauses.apart in
    let g = test_normal G b.clauses.rising b.clauses.apart in
    record { equal = d; alike = λ w k l. (λ e S h. ap (meets (has S)) (d.0 e), λ h. d.1 (same_formula w F G f g k l h)) }
