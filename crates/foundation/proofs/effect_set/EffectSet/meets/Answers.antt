use Rattle.foundation.specs.Laws.Members.{shared_hits}
use Rattle.foundation.proofs.effect_set.EffectSet.meets.Goals as goal

pub returns : goal.returns
returns c = rw (← c.self.view_is, ← c.other.view_is) (shared_hits c.self.inside.bits c.other.inside.bits)
