use Rattle.foundation.specs.Laws.Bits.{has-or}
use Rattle.foundation.proofs.effect_set.EffectSet.union.Goals as goal

pub returns-clause-members : goal.returns-clause-members
returns-clause-members c = rw (← c.self.view_is, ← c.other.view_is) (has-or c.self.inside.bits c.other.inside.bits)
