use Rattle.std.proofs.Common.{◌≡◌, ℕ, ◌<◌, Bool}
use Rattle.foundation.specs.Bits.{number}
use Rattle.rules.specs.Surveys.{view}
use Rattle.formulas.proofs.winning_set.effects_where.Given as goal

abbrev pub invariant-loop-k : goal.invariant-loop-k
invariant-loop-k g l =
    (f : ℕ → Bool) → ((e : ℕ) → e < (view l.table).count → (r : Bool) → goal.F-post g l.passes e r → r ≡ f e) → l.passing ≡ number f l.k
