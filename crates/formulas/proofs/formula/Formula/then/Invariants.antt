use Rattle.std.proofs.Common.{◌≡◌, ◌≤◌, [], length, drop}
use Rattle.rules.specs.Surveys.{view}
use Rattle.formulas.specs.Clauses.{clause_list}
use Rattle.formulas.specs.Formulas.{and_after}
use Rattle.formulas.specs.FormulaViews.{formula_list}
use Rattle.formulas.proofs.formula.Formula.then.Given as goal

abbrev pub invariant-loop-effects : goal.invariant-loop-effects
invariant-loop-effects l =
    (and_after 64 (view l.table) (formula_list l.next) (clause_list l.clauses) (drop l.effects-index l.effects-items)
    ≡ and_after 64 (view l.table) (formula_list l.next) [] l.effects-items)
    × (1 ≤ l.effects-index → 1 ≤ length (clause_list l.clauses))
