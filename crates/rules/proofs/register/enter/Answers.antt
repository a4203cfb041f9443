use Rattle.std.proofs.Common.{sym}
use Rattle.rules.specs.Register.{of_effects}
use Rattle.rules.proofs.Registering.{enters_new}
use Rattle.rules.proofs.register.enter.Goals as goal

pub returns-then-count-lt-MOST_EFFECTS-clause-slice : goal.returns-then-count-lt-MOST_EFFECTS-clause-slice
returns-then-count-lt-MOST_EFFECTS-clause-slice g c =
    enters_new (of_effects (g.R.OrderRule.meaning c.args.rule.now)) c.args.slice.now c.args.count c.args.e c.find.result c.find.ensures.place
    (sym c.if-is_some.ensures) c.requires.room c.if-count-lt-MOST_EFFECTS.true
