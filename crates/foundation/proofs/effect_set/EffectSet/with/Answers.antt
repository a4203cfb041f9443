use Rattle.std.proofs.Common.{ap, ◌∙◌}
use Rattle.foundation.specs.Bits.{has}
use Rattle.foundation.specs.Laws.Sets.{added_shifted, has-added}
use Rattle.foundation.proofs.effect_set.EffectSet.with.Goals as goal

pub returns-then-n-lt-PLACES : goal.returns-then-n-lt-PLACES
returns-then-n-lt-PLACES c =
    let s = c.self.inside.bits in
    let value = added_shifted 64 s c.args.n c.if-n-lt-PLACES.true in
    rw (← c.self.view_is) (record { value = value; members = λ k. ap (λ x. has x k) value ∙ has-added 64 s c.args.n k })
