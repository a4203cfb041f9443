use Rattle.rules.proofs.Pairing.{permits_both}
use Rattle.rules.proofs.pair.Pair.new.Goals as goal

pub returns-clause-permits : goal.returns-clause-permits
returns-clause-permits g c = permits_both (g.A.OrderRule.meaning c.args.first) (g.B.OrderRule.meaning c.args.second)
