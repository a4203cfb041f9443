use Rattle.std.proofs.Common.{sym, ap, subst, arith}
use Rattle.rules.specs.Views.{NumbersSome, Square}
use Rattle.rules.proofs.Tabling.{all_met, met_few}
use Rattle.rules.proofs.TableViews.{view_is, square, numbers_some}
use Rattle.rules.proofs.table.making.Met.table.Goals as goal

pub invariant_of-result : goal.invariant_of-result
invariant_of-result g c =
    let m = g.R.OrderRule.meaning c.args.self.now.rule.now in
    let law = g.met.R.OrderRule.lawful c.args.self.now.rule.now in
    let met = c.args.self.now.effects.now in
    let all = all_met g.row.R-Effect.coded m met c.args.self.now.all in
    let is = view_is m met c.number_commands.result c.join_all.result c.breaking_set.result c.number_commands.ensures c.join_all.ensures c.breaking_set.ensures in
    let size = ap (λ t. t.count) is in
    record {
      few = omega (arith, size, met_few m law met all);
      square = subst Square (sym is) (square m law met all);
      numbered = ∣ subst NumbersSome (sym is) (numbers_some m law met all) ∣₁;
    }

pub returns : goal.returns
returns g c =
    view_is (g.R.OrderRule.meaning c.args.self.now.rule.now) c.args.self.now.effects.now c.number_commands.result c.join_all.result c.breaking_set.result
    c.number_commands.ensures c.join_all.ensures c.breaking_set.ensures
