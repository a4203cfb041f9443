use Rattle.std.proofs.Common.{length, refl, ap}
use Rattle.std.proofs.iter.runs.Sources.{from_front, as_is}
use Rattle.std.specs.Iterator.{YieldsFirst}
use Rattle.foundation.specs.Sets.{members}
use Rattle.foundation.proofs.effect_set.members.EffectSetIntoIterator.into_iter.Goals as goal

pub returns : goal.returns
returns c = record {
  into_iter_gives = (refl, λ p s. as_is p (members p.from) (from_front (YieldsFirst members) (λ x. x) members (λ s t h. ap length h.0) (λ s x t h. h) p s));
}
