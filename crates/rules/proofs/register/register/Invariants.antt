use Rattle.std.proofs.Common.{◌-◌}
use Rattle.rules.specs.Register.{met_effects}
use Rattle.rules.proofs.Surveying.{Walks}
use Rattle.rules.proofs.register.register.Given as goal

abbrev pub invariant-loop-i : goal.invariant-loop-i
invariant-loop-i g l =
    Walks (g.R.OrderRule.meaning l.rule) (g.met.R.OrderRule.lawful l.rule) l.initial.slice l.slice l.count l.i (met_effects (g.R.OrderRule.meaning l.rule))

abbrev pub decreases-loop-i : goal.decreases-loop-i
decreases-loop-i g l = 64 - l.i
