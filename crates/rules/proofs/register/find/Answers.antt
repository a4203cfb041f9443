use Rattle.std.proofs.Common.{rules, tests}
use Rattle.std.proofs.lemmas.Iterator.{IsFirst-from_position, YieldsList-from_slice}
use Rattle.rules.proofs.Surveying.{Same, Other, place_found}
use Rattle.rules.proofs.register.find.Goals as goal

pub returns-clause-place : goal.returns-clause-place
returns-clause-place g c =
    let m = g.R.OrderRule.meaning c.args.rule.now in
    let law = g.met.R.OrderRule.lawful c.args.rule.now in
    let e = c.args.e in
    place_found m law c.args.met.now e _ c.requires.met
    (IsFirst-from_position _ _ _ (Same m law e) (Other m law e) c.position.ensures.ran (YieldsList-from_slice c.args.met.now cc) (λ x q k. search (rules, tests)) (λ x q k. search (rules, tests)))
