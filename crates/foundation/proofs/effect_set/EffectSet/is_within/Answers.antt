use Rattle.foundation.specs.Laws.Sets.{within_decides}
use Rattle.foundation.proofs.effect_set.EffectSet.is_within.Goals as goal

pub returns-clause-members : goal.returns-clause-members
returns-clause-members c = rw (← c.self.view_is, ← c.other.view_is) (within_decides c.self.inside.bits c.other.inside.bits)
