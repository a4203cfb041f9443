use Rattle.std.proofs.Common.{◌≡◌}
use lib.Bits.{bit_or}
use Rattle.foundation.specs.Sets.{members, gathered}
use Rattle.rules.specs.Surveys.{view}
use Rattle.formulas.specs.Formulas.{joins, joined}
use Rattle.formulas.proofs.formula.shifting.joins.Given as goal

abbrev pub invariant-loop-member : goal.invariant-loop-member
invariant-loop-member l = bit_or l.joined (gathered (joins (view l.table) l.e (members l.member-iterator))) ≡ joined (view l.table) l.e l.fn.clause
