use Rattle.std.proofs.Common.{sym, arith}
use Rattle.foundation.specs.Laws.Members.{members_ones}
use Rattle.foundation.specs.Laws.Sets.{ones_size}
use Rattle.foundation.proofs.effect_set.EffectSet.len.Goals as goal

pub returns-clause-members : goal.returns-clause-members
returns-clause-members c = rw (← c.self.view_is) (ones_size 64 c.self.inside.bits (omega arith))

pub returns-clause-listed : goal.returns-clause-listed
returns-clause-listed c = rw (← c.self.view_is) (sym (members_ones c.self.inside.bits))
