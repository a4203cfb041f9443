-- How each fault is told outside: number, layer and place, case by case.
use Rattle.foundation.specs.declared.refusal.Layer.TheVariants.{Records, Solve}
use Rattle.foundation.specs.declared.refusal.Refusal.{Refusal}
use Rattle.formulas.specs.declared.fault.RecordsFault.{RecordsFault}
use Rattle.formulas.specs.declared.fault.RecordsFault.TheVariants.{Length, Form, Owner, Unrecorded}
use Rattle.formulas.specs.declared.fault.SolveFault.{SolveFault}
use Rattle.formulas.specs.declared.fault.SolveFault.TheVariants.{Allowance, UnknownCommand, TooManyClauses, Unsettled}

abbrev pub records_refusal : RecordsFault → Refusal
records_refusal (Length whole) = record { number = 1; layer = Records; place = whole }
records_refusal (Form i) = record { number = 2; layer = Records; place = i }
records_refusal (Owner i) = record { number = 3; layer = Records; place = i }
records_refusal (Unrecorded i) = record { number = 4; layer = Records; place = i }

abbrev pub solve_refusal : SolveFault → Refusal
solve_refusal Allowance = record { number = 8; layer = Solve; place = 0 }
solve_refusal (UnknownCommand i) = record { number = 10; layer = Solve; place = i }
solve_refusal (TooManyClauses x) = record { number = 11; layer = Solve; place = x }
solve_refusal (Unsettled allowance) = record { number = 12; layer = Solve; place = allowance }
