use Rattle.std.proofs.Common.{rules}
use Rattle.rules.proofs.Tabling.{all_met, met_few, met_own}
use Rattle.rules.proofs.table.making.Met.number_of.Goals as goal

pub find-requires-clause-met : goal.find-requires-clause-met
find-requires-clause-met g c =
    let m = g.R.OrderRule.meaning c.args.self.now.rule.now in
    let met = c.args.self.now.effects.now in
    met_own m (g.met.R.OrderRule.lawful c.args.self.now.rule.now) met (all_met g.row.R-Effect.coded m met c.args.self.now.all)

pub overflow_cast-result : goal.overflow_cast-result
overflow_cast-result g c =
    let m = g.R.OrderRule.meaning c.args.self.now.rule.now in
    let met = c.args.self.now.effects.now in
    let few = met_few m (g.met.R.OrderRule.lawful c.args.self.now.rule.now) met (all_met g.row.R-Effect.coded m met c.args.self.now.all) in
    search rules
