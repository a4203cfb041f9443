use Rattle.std.proofs.Common.{◌≡◌, ◌≤◌, ◌||◌, [], map, length, Some, None, sym, ap, ◌∙◌, arith}
use Rattle.std.proofs.lemmas.List.{drop_all}
use lib.Bits.{bit_or}
use Rattle.formulas.specs.Clauses.{clause_list}
use Rattle.formulas.specs.Formulas.{meets, offer, offers, unions}
use Rattle.formulas.specs.FormulaViews.{formula_list}
use Rattle.formulas.proofs.Given.{given_some}
use Rattle.formulas.proofs.Meets.{either_meets}
use Rattle.formulas.proofs.Offers.{drop_item, row_from, row_end, unions_from, unions_end, offers_some, unions-some}
use Rattle.formulas.proofs.formula.Formula.either.Goals as goal
use Rattle.formulas.proofs.formula.Formula.either.Goals.{After-loop-k}

pub loop-l-preserved : goal.loop-l-preserved
loop-l-preserved c =
    let old = clause_list c.loop-l.clauses in
    sym (row_from 64 old c.k-item.result _ _ c.l-item.result (Some (clause_list c.offer.new.self))
    (drop_item c.clauses-l-items.result.now c.loop-l.l-index c.l-item.result c.loop-l-test.true c.l-item.is)
    (ap (λ C. offer 64 C old) (sym c.union.ensures.value) ∙ c.in_default.ensures.value))
    ∙ c.loop-l.invariant

-- what was offered for one clause of the first formula, once the other's clauses are all done
pub loop-k-preserved : goal.loop-k-preserved
loop-k-preserved c =
    let G = formula_list c.args.other.now in
    let ys = c.clauses-l-items.result.now in
    let new = clause_list c.loop-l.clauses in
    let row : offers 64 (clause_list c.loop-k.clauses) (map (bit_or c.k-item.result) G) ≡ Some new =
    ap (λ l. offers 64 (clause_list c.loop-k.clauses) (map (bit_or c.k-item.result) l)) (sym c.clauses-l-items.ensures)
    ∙ sym c.loop-l.invariant ∙ row_end 64 new c.k-item.result _ (drop_all c.loop-l.l-index ys c.loop-l-test.false) in
    sym (unions_from 64 (clause_list c.loop-k.clauses) _ _ G c.k-item.result (Some new) (drop_item c.clauses-k-items.result.now c.loop-k.k-index c.k-item.result c.loop-k-test.true c.k-item.is) row)
    ∙ c.loop-k.invariant

-- all unions were offered
made : (c : goal.After-loop-k) → offers 64 [] (unions (formula_list c.args.self.now) (formula_list c.args.other.now)) ≡ Some (clause_list c.loop-k.clauses)
made c =
    let G = formula_list c.args.other.now in
    ap (λ F. offers 64 [] (unions F G)) (sym c.clauses-k-items.ensures)
    ∙ sym c.loop-k.invariant ∙ unions_end 64 (clause_list c.loop-k.clauses) _ G (drop_all c.loop-k.k-index c.clauses-k-items.result.now c.loop-k-test.false)

pub invariant_of-result : goal.invariant_of-result
invariant_of-result c =
    let F = formula_list c.args.self.now in
    let G = formula_list c.args.other.now in
    (given_some (offers 64 [] (unions F G)) (λ R. 1 ≤ length R) (clause_list c.loop-k.clauses) (offers_some 64 [] (unions F G) (omega (arith, unions-some F G c.args.self.now.some c.args.other.now.some))) (made c), tt)

pub returns-in-Err-clause-value : goal.returns-in-Err-clause-value
returns-in-Err-clause-value c =
    let G = formula_list c.args.other.now in
    let K = c.k-item.result in
    let ys = c.clauses-l-items.result.now in
    let old = clause_list c.loop-l.clauses in
    let row : offers 64 (clause_list c.loop-k.clauses) (map (bit_or K) G) ≡ None =
    ap (λ l. offers 64 (clause_list c.loop-k.clauses) (map (bit_or K) l)) (sym c.clauses-l-items.ensures)
    ∙ sym c.loop-l.invariant
    ∙ row_from 64 old K _ _ c.l-item.result None (drop_item ys c.loop-l.l-index c.l-item.result c.loop-l-test.true c.l-item.is)
    (ap (λ C. offer 64 C old) (sym c.union.ensures.value) ∙ c.in-Err.ensures.value.0) in
    sym (ap (λ F. offers 64 [] (unions F G)) (sym c.clauses-k-items.ensures)
    ∙ sym c.loop-k.invariant
    ∙ unions_from 64 (clause_list c.loop-k.clauses) _ _ G K None (drop_item c.clauses-k-items.result.now c.loop-k.k-index K c.loop-k-test.true c.k-item.is) row)

pub returns-after-loop-k : goal.returns-after-loop-k
returns-after-loop-k c =
    let F = formula_list c.args.self.now in
    let G = formula_list c.args.other.now in
    let e = made (goal.at.returns-after-loop-k c).After-loop-k in
    record { value = sym e; means = λ A. given_some (offers 64 [] (unions F G)) (λ R. meets A R ≡ (meets A F || meets A G)) (clause_list c.loop-k.clauses) (either_meets A 64 F G) e }
