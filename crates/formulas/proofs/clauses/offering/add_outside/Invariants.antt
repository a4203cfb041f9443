use Rattle.std.proofs.Common.{◌≡◌, ◌++◌, take}
use Rattle.foundation.specs.Bounds.{items}
use Rattle.formulas.specs.Formulas.{outside}
use Rattle.formulas.proofs.clauses.offering.add_outside.Given as goal

abbrev pub invariant-loop-clause : goal.invariant-loop-clause
invariant-loop-clause l = items l.next ≡ items l.initial.next ++ outside l.c (take l.clause-index l.rest)
