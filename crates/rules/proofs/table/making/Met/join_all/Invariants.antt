use Rattle.std.proofs.Common.{◌≡◌, map, take}
use Rattle.foundation.specs.Bounds.{items}
use Rattle.rules.specs.Tables.{join_row}
use Rattle.rules.proofs.table.making.Met.join_all.Given as goal

abbrev pub invariant-loop-a : goal.invariant-loop-a
invariant-loop-a g l = map items (items l.joins) ≡ map (join_row (g.R.OrderRule.meaning l.self.rule.now).same (g.R.OrderRule.meaning l.self.rule.now).join l.self.effects.now) (take l.a-index l.self.effects.now)
