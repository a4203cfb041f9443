use Rattle.foundation.specs.Laws.Sets.{empty_decides}
use Rattle.foundation.proofs.effect_set.EffectSet.is_empty.Goals as goal

pub returns-clause-members : goal.returns-clause-members
returns-clause-members c = rw (← c.self.view_is) (empty_decides c.self.inside.bits)
