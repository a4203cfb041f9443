use Rattle.std.proofs.Common.{take}
use Rattle.rules.specs.Register.{row, of_effects}
use Rattle.rules.proofs.Surveying.{Rows}
use Rattle.rules.proofs.register.extend.Given as goal

abbrev pub invariant-loop-c : goal.invariant-loop-c
invariant-loop-c g l =
    Rows (g.R.OrderRule.meaning l.rule) (g.met.R.OrderRule.lawful l.rule) l.initial.slice l.slice l.met l.c l.from
    (row (of_effects (g.R.OrderRule.meaning l.rule)) (g.R.OrderRule.meaning l.rule).commands 0 (take l.count l.initial.slice) l.from)
