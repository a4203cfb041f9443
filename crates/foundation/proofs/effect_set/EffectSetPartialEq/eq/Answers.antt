use Rattle.std.proofs.lemmas.Bool.Decides.{Decides-eqb}
use Rattle.foundation.specs.Laws.Sets.{same_decides}
use Rattle.foundation.proofs.effect_set.EffectSetPartialEq.eq.Goals as goal

pub returns-clause-equal : goal.returns-clause-equal
returns-clause-equal c = rw (← c.self.view_is, ← c.other.view_is) (Decides-eqb c.self.inside.bits c.other.inside.bits)

pub returns-clause-members : goal.returns-clause-members
returns-clause-members c = rw (← c.self.view_is, ← c.other.view_is) (same_decides c.self.inside.bits c.other.inside.bits)
