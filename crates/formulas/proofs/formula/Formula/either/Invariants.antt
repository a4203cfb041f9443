use Rattle.std.proofs.Common.{◌≡◌, [], map, drop}
use lib.Bits.{bit_or}
use Rattle.formulas.specs.Clauses.{clause_list}
use Rattle.formulas.specs.Formulas.{offers, unions}
use Rattle.formulas.specs.FormulaViews.{formula_list}
use Rattle.formulas.proofs.formula.Formula.either.Given as goal

abbrev pub invariant-loop-l : goal.invariant-loop-l
invariant-loop-l l =
    offers 64 (clause_list l.clauses) (map (bit_or l.k) (drop l.l-index l.l-items)) ≡ offers 64 (clause_list l.initial.clauses) (map (bit_or l.k) l.l-items)

abbrev pub invariant-loop-k : goal.invariant-loop-k
invariant-loop-k l =
    offers 64 (clause_list l.clauses) (unions (drop l.k-index l.k-items) (formula_list l.other)) ≡ offers 64 [] (unions l.k-items (formula_list l.other))
