use Rattle.std.proofs.Common.{sym, ◌∙◌, arith}
use Rattle.std.proofs.lemmas.Bool.{le-ltb}
use Rattle.foundation.specs.Laws.Bits.{has_above}
use Rattle.foundation.specs.Laws.Bits.{bit_test}
use Rattle.foundation.proofs.effect_set.EffectSet.contains.Goals as goal

pub returns-then-n-lt-PLACES : goal.returns-then-n-lt-PLACES
returns-then-n-lt-PLACES c = rw (← c.self.view_is) (bit_test c.self.inside.bits c.args.n)

pub returns-else-n-lt-PLACES : goal.returns-else-n-lt-PLACES
returns-else-n-lt-PLACES c =
    le-ltb c.args.n 64 c.if-n-lt-PLACES.false
    ∙ sym (has_above 64 c.args.self c.args.n (omega arith) c.if-n-lt-PLACES.false)
