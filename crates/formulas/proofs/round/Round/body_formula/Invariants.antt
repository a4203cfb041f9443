use Rattle.std.specs.Iterator.Adapters.{rev_source}
use Rattle.std.specs.Slice.Iter.{iter_rest}
use Rattle.rules.specs.Surveys.{view}
use Rattle.formulas.specs.FormulaViews.{formula_list}
use Rattle.formulas.specs.RoundViews.{formulas_of}
use Rattle.formulas.proofs.Bodies.{Behind}
use Rattle.formulas.proofs.round.Round.body_formula.Given as goal

abbrev pub invariant-loop-symbol : goal.invariant-loop-symbol
invariant-loop-symbol l = Behind 64 (view l.table) (formulas_of l.self) l.body (iter_rest (rev_source l.symbol-iterator)) (formula_list l.formula)
