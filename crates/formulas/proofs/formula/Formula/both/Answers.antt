use Rattle.std.proofs.Common.{◌≡◌, ◌≤◌, ◌&&◌, length, Some, sym, ap, ◌∙◌, arith}
use Rattle.formulas.specs.Clauses.{clause_list}
use Rattle.formulas.specs.Formulas.{meets, offers}
use Rattle.formulas.specs.FormulaViews.{formula_list}
use Rattle.formulas.proofs.Given.{given_some}
use Rattle.formulas.proofs.Meets.{offers-meet}
use Rattle.formulas.proofs.Offers.{offers_some}
use Rattle.formulas.proofs.formula.Formula.both.Goals as goal
use Rattle.formulas.proofs.formula.Formula.both.Goals.{In_ok-offer_all}

-- what was offered gave the result
made : (c : goal.In_ok-offer_all) → offers 64 (formula_list c.args.self.now) (formula_list c.args.other.now) ≡ Some (clause_list c.offer_all.new.self)
made c = rw (← c.self.view_is) (ap (offers 64 (clause_list c.self.inside.clauses)) (sym c.clauses.ensures) ∙ c.in_ok-offer_all.ensures)

pub invariant_of-result : goal.invariant_of-result
invariant_of-result c =
    let F = formula_list c.args.self.now in
    let G = formula_list c.args.other.now in
    (given_some (offers 64 F G) (λ R. 1 ≤ length R) (clause_list c.offer_all.new.self) (offers_some 64 F G (omega (arith, c.args.self.now.some))) (made c), tt)

pub returns : goal.returns
returns c =
    let F = formula_list c.args.self.now in
    let G = formula_list c.args.other.now in
    let e = made (goal.at.returns c).In_ok-offer_all in
    record { value = sym e; means = λ A. given_some (offers 64 F G) (λ R. meets A R ≡ (meets A F && meets A G)) (clause_list c.offer_all.new.self) (offers-meet A 64 F G) e }
