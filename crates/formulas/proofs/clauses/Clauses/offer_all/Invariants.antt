use Rattle.std.proofs.Common.{◌≡◌, drop}
use Rattle.formulas.specs.Clauses.{clause_list}
use Rattle.formulas.specs.Formulas.{offers}
use Rattle.formulas.proofs.clauses.Clauses.offer_all.Given as goal

abbrev pub invariant-loop-clause : goal.invariant-loop-clause
invariant-loop-clause l = offers 64 (clause_list l.self) (drop l.clause-index l.list) ≡ offers 64 (clause_list l.initial.self) l.list
