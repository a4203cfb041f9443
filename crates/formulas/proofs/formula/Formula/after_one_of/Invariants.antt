use Rattle.std.proofs.Common.{◌≡◌}
use Rattle.foundation.specs.Sets.{members}
use Rattle.rules.specs.Surveys.{view}
use Rattle.formulas.specs.Formulas.{or_after, impossible}
use Rattle.formulas.specs.FormulaViews.{formula_list}
use Rattle.formulas.proofs.formula.Formula.after_one_of.Given as goal

abbrev pub invariant-loop-e : goal.invariant-loop-e
invariant-loop-e l =
    or_after 64 (view l.table) (formula_list l.self) (formula_list l.after) (members l.e-iterator)
    ≡ or_after 64 (view l.table) (formula_list l.self) impossible (members l.fn.effects)
