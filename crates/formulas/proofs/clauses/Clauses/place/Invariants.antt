use Rattle.formulas.specs.Clauses.{clause_list}
use Rattle.formulas.proofs.Offering.{Passed}
use Rattle.formulas.proofs.clauses.Clauses.place.Given as goal

abbrev pub invariant-loop-i : goal.invariant-loop-i
invariant-loop-i l = Passed l.c (clause_list l.self) l.i
