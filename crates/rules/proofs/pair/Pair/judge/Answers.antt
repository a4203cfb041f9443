use Rattle.rules.proofs.Pairing.{judged_both}
use Rattle.rules.proofs.pair.Pair.judge.Goals as goal

pub returns : goal.returns
returns g c =
    judged_both (g.A.OrderRule.meaning c.args.self.now.0) (g.B.OrderRule.meaning c.args.self.now.1) c.args.list.now c.judge.result c.judge.ensures
