use Rattle.std.proofs.Common.{◌≡◌, map}
use Rattle.std.specs.List.{range_with_len}
use Rattle.foundation.specs.Bounds.{items}
use Rattle.rules.specs.Tables.{numbered}
use Rattle.rules.proofs.table.making.Met.number_commands.Given as goal

abbrev pub invariant-loop-c : goal.invariant-loop-c
invariant-loop-c g l =
    items l.numbers ≡ map (λ c. numbered (g.R.OrderRule.meaning l.self.rule.now).same l.self.effects.now ((g.R.OrderRule.meaning l.self.rule.now).command c)) (range_with_len 0 l.c)
