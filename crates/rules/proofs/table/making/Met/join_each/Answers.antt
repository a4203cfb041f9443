use Rattle.std.proofs.Common.{◌≡◌, length, IsSome, sym, ap, ◌∙◌, subst, arith, length-take-le}
use Rattle.std.proofs.lemmas.List.{length-map}
use Rattle.std.proofs.lemmas.Grind.{common_steps}
use Rattle.foundation.specs.Bounds.{items}
use Rattle.rules.specs.Register.{place}
use Rattle.rules.specs.Tables.{numbered}
use Rattle.rules.proofs.Tabling.{all_met, met_few, listed_read, listed_found, listed_join, listed_own, listed-known}
use Rattle.rules.proofs.table.making.Met.join_each.Goals as goal

pub number_of-requires : goal.number_of-requires
number_of-requires g c =
    let m = g.R.OrderRule.meaning c.args.self.now.rule.now in
    let law = g.met.R.OrderRule.lawful c.args.self.now.rule.now in
    let met = c.args.self.now.effects.now in
    let all = all_met g.row.R-Effect.coded m met c.args.self.now.all in
    let x = listed_found m law met all c.args.a c.requires.own c.requires.known in
    let y = listed_read m law met all c.loop-b.b-index c.b-item.result c.loop-b-test.true c.b-item.is in
    let z = listed_join m law met all c.args.a c.b-item.result x y in
    let is : c.join.result ≡ m.join c.args.a c.b-item.result = c.join.ensures c.requires.own (listed_own m law met all c.b-item.result y) in
    record {
      own = subst m.own (sym is) (listed_own m law met all (m.join c.args.a c.b-item.result) z);
      known = subst (λ e. IsSome (place m.same 0 met e)) (sym is) (listed-known m law met all (m.join c.args.a c.b-item.result) z);
    }

pub unwrap-requires : goal.unwrap-requires
unwrap-requires g c =
    let m = g.R.OrderRule.meaning c.args.self.now.rule.now in
    let met = c.args.self.now.effects.now in
    let few = met_few m (g.met.R.OrderRule.lawful c.args.self.now.rule.now) met (all_met g.row.R-Effect.coded m met c.args.self.now.all) in
    let size : length (items c.loop-b.row) ≡ c.loop-b.b-index = ap length c.loop-b.invariant ∙ length-map _ _ ∙ length-take-le c.loop-b.b-index met (omega arith) in
    c.push.ensures.room.1 (omega arith)

pub loop-b-preserved : goal.loop-b-preserved
loop-b-preserved g c =
    let m = g.R.OrderRule.meaning c.args.self.now.rule.now in
    let law = g.met.R.OrderRule.lawful c.args.self.now.rule.now in
    let met = c.args.self.now.effects.now in
    let all = all_met g.row.R-Effect.coded m met c.args.self.now.all in
    let y = listed_read m law met all c.loop-b.b-index c.b-item.result c.loop-b-test.true c.b-item.is in
    let is : c.join.result ≡ m.join c.args.a c.b-item.result = c.join.ensures c.requires.own (listed_own m law met all c.b-item.result y) in
    let named : c.number_of.result ≡ numbered m.same met (m.join c.args.a c.b-item.result) = c.number_of.ensures ∙ ap (numbered m.same met) is in
    grind (arith, common_steps)
