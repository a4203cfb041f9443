use Rattle.std.proofs.Common.{◌≡◌, ◌≤◌, [], length, Some, None, sym, ap, ◌∙◌, arith}
use Rattle.std.proofs.lemmas.List.{drop_all}
use Rattle.rules.specs.Surveys.{view}
use Rattle.formulas.specs.Clauses.{clause_list}
use Rattle.formulas.specs.Formulas.{meets, going_on, offers, and_after, then}
use Rattle.formulas.specs.FormulaViews.{formula_list}
use Rattle.formulas.proofs.Given.{given_some}
use Rattle.formulas.proofs.Meets.{then-meets}
use Rattle.formulas.proofs.Offers.{drop_item, offers_some}
use Rattle.formulas.proofs.Shifting.{and_from, and_more, and_end, err_found, err_means}
use Rattle.formulas.proofs.formula.Formula.then.Goals as goal
use Rattle.formulas.proofs.formula.Formula.then.Goals.{After-loop-effects}

pub returns-in_err-after : goal.returns-in_err-after
returns-in_err-after c =
    let t = view c.args.table.now in
    let G = formula_list c.args.next.now in
    let bad = c.from_residual.ensures.0 in
    record {
      value = err_found c.from_residual.result bad
          ∙ sym (ap (and_after 64 t G []) (sym c.clauses-effects-items.ensures) ∙ sym c.loop-effects.invariant.0
          ∙ and_from 64 t G (clause_list c.loop-effects.clauses) _ _ c.effects-item.result (drop_item c.clauses-effects-items.result.now c.loop-effects.effects-index c.effects-item.result c.loop-effects-test.true c.effects-item.is) None (sym c.in_err-after.ensures));
      means = err_means c.from_residual.result _ bad;
    }

pub returns-in_err-offer_all : goal.returns-in_err-offer_all
returns-in_err-offer_all c =
    let t = view c.args.table.now in
    let G = formula_list c.args.next.now in
    let bad = c.from_residual-in_err-offer_all.ensures.0 in
    let R = clause_list c.loop-effects.clauses in
    record {
      value = err_found c.from_residual-in_err-offer_all.result bad
          ∙ sym (ap (and_after 64 t G []) (sym c.clauses-effects-items.ensures) ∙ sym c.loop-effects.invariant.0
          ∙ and_more 64 t G R _ _ c.effects-item.result (drop_item c.clauses-effects-items.result.now c.loop-effects.effects-index c.effects-item.result c.loop-effects-test.true c.effects-item.is) (formula_list c.in_ok-after.after) (sym c.in_ok-after.ensures) None
          (ap (offers 64 R) (sym c.clauses.ensures) ∙ c.in_err-offer_all.ensures));
      means = err_means c.from_residual-in_err-offer_all.result _ bad;
    }

pub loop-effects-preserved : goal.loop-effects-preserved
loop-effects-preserved c =
    let t = view c.args.table.now in
    let G = formula_list c.args.next.now in
    let R = clause_list c.loop-effects.clauses in
    let T = formula_list c.in_ok-after.after in
    let made : offers 64 R T ≡ Some (clause_list c.offer_all.new.self) = ap (offers 64 R) (sym c.clauses.ensures) ∙ c.in_ok-offer_all.ensures in (
      sym (and_more 64 t G R _ _ c.effects-item.result (drop_item c.clauses-effects-items.result.now c.loop-effects.effects-index c.effects-item.result c.loop-effects-test.true c.effects-item.is) T (sym c.in_ok-after.ensures) (Some (clause_list c.offer_all.new.self)) made)
          ∙ c.loop-effects.invariant.0,
      λ _. given_some (offers 64 R T) (λ S. 1 ≤ length S) (clause_list c.offer_all.new.self) (offers_some 64 R T (omega (arith, c.in_ok-after.after.some))) made,
    )

made : (c : goal.After-loop-effects) → then 64 (view c.args.table.now) (formula_list c.args.self.now) (formula_list c.args.next.now) ≡ Some (clause_list c.loop-effects.clauses)
made c =
    let t = view c.args.table.now in
    let G = formula_list c.args.next.now in
    ap (and_after 64 t G []) (sym c.clauses-effects-items.ensures) ∙ sym c.loop-effects.invariant.0
    ∙ and_end 64 t G (clause_list c.loop-effects.clauses) _ (drop_all c.loop-effects.effects-index c.clauses-effects-items.result.now c.loop-effects-test.false)

pub invariant_of-result : goal.invariant_of-result
invariant_of-result c =
    (c.loop-effects.invariant.1 (omega (arith, c.loop-effects-test.false, ap length c.clauses-effects-items.ensures, c.args.self.now.some)), tt)

pub returns : goal.returns
returns c =
    let t = view c.args.table.now in
    let F = formula_list c.args.self.now in
    let G = formula_list c.args.next.now in
    let q = made (goal.at.returns c).After-loop-effects in
    record { value = sym q; means = λ A. given_some (then 64 t F G) (λ R. meets A R ≡ meets (going_on t A G) F) (clause_list c.loop-effects.clauses) (then-meets t A 64 F G) q }
