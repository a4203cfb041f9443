use Rattle.std.proofs.Common.{Some, None, sym, ◌∙◌}
use Rattle.std.proofs.lemmas.List.{drop_all}
use Rattle.formulas.specs.Clauses.{clause_list}
use Rattle.formulas.proofs.Offers.{drop_item, offers_from, offers_end, offered_err}
use Rattle.formulas.proofs.clauses.Clauses.offer_all.Goals as goal

pub returns-in_err-offer : goal.returns-in_err-offer
returns-in_err-offer c =
    let xs = c.args.list.now in
    let i = c.loop-clause.clause-index in
    offered_err (clause_list c.args.self.now) xs (clause_list c.offer.new.self) c.from_residual.result c.from_residual.ensures.0
    (sym c.loop-clause.invariant
    ∙ offers_from 64 (clause_list c.loop-clause.self) _ _ c.clause-item.result None (drop_item xs i c.clause-item.result c.loop-clause-test.true c.clause-item.is) c.in_err-offer.ensures.value.0)

pub loop-clause-preserved : goal.loop-clause-preserved
loop-clause-preserved c =
    let xs = c.args.list.now in
    let i = c.loop-clause.clause-index in
    sym (offers_from 64 (clause_list c.loop-clause.self) _ _ c.clause-item.result (Some (clause_list c.offer.new.self)) (drop_item xs i c.clause-item.result c.loop-clause-test.true c.clause-item.is) c.in_ok-offer.ensures.value)
    ∙ c.loop-clause.invariant

pub returns : goal.returns
returns c = sym c.loop-clause.invariant ∙ offers_end 64 (clause_list c.loop-clause.self) _ (drop_all c.loop-clause.clause-index c.args.list.now c.loop-clause-test.false)
