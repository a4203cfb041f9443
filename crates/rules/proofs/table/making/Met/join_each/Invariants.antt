use Rattle.std.proofs.Common.{◌≡◌, map, take}
use Rattle.foundation.specs.Bounds.{items}
use Rattle.rules.specs.Tables.{numbered}
use Rattle.rules.proofs.table.making.Met.join_each.Given as goal

abbrev pub invariant-loop-b : goal.invariant-loop-b
invariant-loop-b g l = items l.row ≡ map (λ y. numbered (g.R.OrderRule.meaning l.self.rule.now).same l.self.effects.now ((g.R.OrderRule.meaning l.self.rule.now).join l.a y)) (take l.b-index l.self.effects.now)
