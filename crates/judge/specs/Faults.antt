-- A refusal keeps its number, layer and place on the way up.
use Rattle.foundation.specs.declared.refusal.Refusal.{Refusal}
use Rattle.rules.specs.Refusals.{rule_refusal, effects_refusal}
use Rattle.formulas.specs.Refusals.{records_refusal, solve_refusal}
use Rattle.judge.specs.declared.fault.JudgeFault.{JudgeFault}
use Rattle.judge.specs.declared.fault.JudgeFault.TheVariants.{Rule, Records, Effects, Solve}

abbrev pub judge_refusal : JudgeFault → Refusal
judge_refusal (Rule f) = rule_refusal f
judge_refusal (Records f) = records_refusal f
judge_refusal (Effects f) = effects_refusal f
judge_refusal (Solve f) = solve_refusal f
