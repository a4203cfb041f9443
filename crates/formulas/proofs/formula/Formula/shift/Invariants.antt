use Rattle.std.proofs.Common.{◌≡◌, [], map, drop}
use Rattle.rules.specs.Surveys.{view}
use Rattle.formulas.specs.Clauses.{clause_list}
use Rattle.formulas.specs.Formulas.{offers, joined}
use Rattle.formulas.proofs.formula.Formula.shift.Given as goal

abbrev pub invariant-loop-clause : goal.invariant-loop-clause
invariant-loop-clause l =
    offers 64 (clause_list l.clauses) (map (joined (view l.table) l.e) (drop l.clause-index l.clause-items)) ≡ offers 64 [] (map (joined (view l.table) l.e) l.clause-items)
