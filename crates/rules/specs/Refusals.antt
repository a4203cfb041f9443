-- How each fault is told outside: number, layer and place, case by case.
use Rattle.std.specs.Prelude.{◌+◌}
use Rattle.foundation.specs.declared.refusal.Layer.TheVariants.{Rule, Effects}
use Rattle.foundation.specs.declared.refusal.Refusal.{Refusal}
use Rattle.rules.specs.declared.fault.RuleFault.{RuleFault}
use Rattle.rules.specs.declared.fault.RuleFault.TheVariants.{ChartLength, ChartRecord, Modulus, WeightCount, Weight, Mask}
use Rattle.rules.specs.declared.fault.EffectsFault.{EffectsFault}
use Rattle.rules.specs.declared.fault.EffectsFault.TheVariants.{TooMany, ShortSlice}

abbrev pub rule_refusal : RuleFault → Refusal
rule_refusal (ChartLength whole) = record { number = 5; layer = Rule; place = whole }
rule_refusal (ChartRecord i) = record { number = 5; layer = Rule; place = i }
rule_refusal Modulus = record { number = 5; layer = Rule; place = 0 }
rule_refusal WeightCount = record { number = 5; layer = Rule; place = 1 }
rule_refusal (Weight i) = record { number = 5; layer = Rule; place = 2 + i }
rule_refusal Mask = record { number = 5; layer = Rule; place = 18 }

abbrev pub effects_refusal : EffectsFault → Refusal
effects_refusal TooMany = record { number = 6; layer = Effects; place = 64 }
effects_refusal (ShortSlice entries) = record { number = 7; layer = Effects; place = entries }
