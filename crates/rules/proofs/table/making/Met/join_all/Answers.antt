use Rattle.std.proofs.Common.{◌≡◌, length, ap, ◌∙◌, arith, length-take-le}
use Rattle.std.proofs.lemmas.List.{length-map}
use Rattle.foundation.specs.Bounds.{items}
use Rattle.rules.proofs.Tabling.{all_met, met_few, listed_read, listed_own, listed-known}
use Rattle.rules.proofs.table.making.Met.join_all.Goals as goal

pub join_each-requires : goal.join_each-requires
join_each-requires g c =
    let m = g.R.OrderRule.meaning c.args.self.now.rule.now in
    let law = g.met.R.OrderRule.lawful c.args.self.now.rule.now in
    let met = c.args.self.now.effects.now in
    let all = all_met g.row.R-Effect.coded m met c.args.self.now.all in
    let a = c.a-item.result in
    let x = listed_read m law met all c.loop-a.a-index a c.loop-a-test.true c.a-item.is in
    record { known = listed-known m law met all a x; own = listed_own m law met all a x }

pub unwrap-requires : goal.unwrap-requires
unwrap-requires g c =
    let m = g.R.OrderRule.meaning c.args.self.now.rule.now in
    let met = c.args.self.now.effects.now in
    let few = met_few m (g.met.R.OrderRule.lawful c.args.self.now.rule.now) met (all_met g.row.R-Effect.coded m met c.args.self.now.all) in
    let size : length (items c.loop-a.joins) ≡ c.loop-a.a-index =
    omega (arith, length-map (items c.loop-a.joins) items, ap length c.loop-a.invariant ∙ length-map _ _ ∙ length-take-le c.loop-a.a-index met (omega arith)) in
    c.push.ensures.room.1 (omega arith)
