use Rattle.std.proofs.Common.{◌≡◌, ◌≤◌, [], map, length, Some, None, sym, ap, ◌∙◌, arith}
use Rattle.std.proofs.lemmas.List.{length-map, drop_all}
use Rattle.rules.specs.Surveys.{view}
use Rattle.formulas.specs.Clauses.{clause_list}
use Rattle.formulas.specs.Formulas.{meets, leading, offer, offers, joined}
use Rattle.formulas.specs.FormulaViews.{formula_list}
use Rattle.formulas.proofs.Given.{given_some}
use Rattle.formulas.proofs.Meets.{shift-meets}
use Rattle.formulas.proofs.Offers.{drop_item, offers_end, offers_some}
use Rattle.formulas.proofs.Shifting.{shift_from, err_found, err_means}
use Rattle.formulas.proofs.formula.Formula.shift.Goals as goal
use Rattle.formulas.proofs.formula.Formula.shift.Goals.{After-loop-clause}

pub returns-in_err-offer : goal.returns-in_err-offer
returns-in_err-offer c =
    let t = view c.args.table.now in
    let e = c.args.e in
    let old = clause_list c.loop-clause.clauses in
    let bad = c.from_residual.ensures.0 in
    record {
      value = err_found c.from_residual.result bad
          ∙ sym (ap (λ F. offers 64 [] (map (joined t e) F)) (sym c.clauses-clause-items.ensures) ∙ sym c.loop-clause.invariant
          ∙ shift_from 64 t [] e old _ _ c.clause-item.result None (drop_item c.clauses-clause-items.result.now c.loop-clause.clause-index c.clause-item.result c.loop-clause-test.true c.clause-item.is) (ap (λ C. offer 64 C old) (sym c.joins.ensures) ∙ c.in_err-offer.ensures.value.0));
      means = err_means c.from_residual.result _ bad;
    }

pub loop-clause-preserved : goal.loop-clause-preserved
loop-clause-preserved c =
    let t = view c.args.table.now in
    let old = clause_list c.loop-clause.clauses in
    sym (shift_from 64 t [] c.args.e old _ _ c.clause-item.result (Some (clause_list c.offer.new.self)) (drop_item c.clauses-clause-items.result.now c.loop-clause.clause-index c.clause-item.result c.loop-clause-test.true c.clause-item.is)
    (ap (λ C. offer 64 C old) (sym c.joins.ensures) ∙ c.in_ok-offer.ensures.value)) ∙ c.loop-clause.invariant

made : (c : goal.After-loop-clause) → offers 64 [] (map (joined (view c.args.table.now) c.args.e) (formula_list c.args.self.now)) ≡ Some (clause_list c.loop-clause.clauses)
made c =
    let t = view c.args.table.now in
    ap (λ F. offers 64 [] (map (joined t c.args.e) F)) (sym c.clauses-clause-items.ensures) ∙ sym c.loop-clause.invariant
    ∙ offers_end 64 (clause_list c.loop-clause.clauses) _ (ap (map (joined t c.args.e)) (drop_all c.loop-clause.clause-index c.clauses-clause-items.result.now c.loop-clause-test.false))

pub invariant_of-result : goal.invariant_of-result
invariant_of-result c =
    let F = formula_list c.args.self.now in
    let Cs = map (joined (view c.args.table.now) c.args.e) F in
    (given_some (offers 64 [] Cs) (λ R. 1 ≤ length R) (clause_list c.loop-clause.clauses) (offers_some 64 [] Cs (omega (arith, length-map F (joined (view c.args.table.now) c.args.e), c.args.self.now.some))) (made c), tt)

pub returns : goal.returns
returns c =
    let t = view c.args.table.now in
    let F = formula_list c.args.self.now in
    let q = made (goal.at.returns c).After-loop-clause in
    record { value = sym q; means = λ A. given_some (offers 64 [] (map (joined t c.args.e) F)) (λ R. meets A R ≡ meets (leading t A c.args.e) F) (clause_list c.loop-clause.clauses) (shift-meets t A 64 c.args.e F) q }
