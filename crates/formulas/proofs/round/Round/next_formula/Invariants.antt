use Rattle.std.specs.Option.{option_map}
use Rattle.rules.specs.Surveys.{view}
use Rattle.formulas.specs.FormulaViews.{formula_list}
use Rattle.formulas.specs.Records.{entries}
use Rattle.formulas.specs.RoundViews.{formulas_of}
use Rattle.formulas.proofs.CombiningOn.{Combining}
use Rattle.formulas.proofs.round.Round.next_formula.Given as goal

abbrev pub invariant-loop-record : goal.invariant-loop-record
invariant-loop-record l = Combining 64 (view l.problem.table.now) (formulas_of l.self) (entries l.problem.set.now) l.p l.owner (option_map formula_list l.so_far) l.record-index
