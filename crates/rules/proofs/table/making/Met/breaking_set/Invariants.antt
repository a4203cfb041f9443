use Rattle.std.proofs.Common.{◌≡◌, get_or}
use Rattle.foundation.specs.Bits.{number}
use Rattle.rules.proofs.table.making.Met.breaking_set.Given as goal

abbrev pub invariant-loop-i : goal.invariant-loop-i
invariant-loop-i g l = l.breaking ≡ number (λ k. (g.R.OrderRule.meaning l.self.rule.now).breaks (get_or l.self.effects.now k (g.R.OrderRule.meaning l.self.rule.now).neutral)) l.i
