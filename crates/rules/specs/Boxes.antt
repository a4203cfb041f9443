-- Boxes: relations over eight states as 64-bit numbers. The pair (p, q) is bit 8 p + q.
use Rattle.std.specs.Prelude.{◌≡◌, ℕ, ◌+◌, ◌*◌, ◌/◌, ◌%◌, ◌^◌, ◌<◌, Bool, false, not, ◌&&◌, ◌↔◌, List, Decides, nat_eq, slice_index, slice_index_or}
use Rattle.rules.specs.Automata.{Arrow, Final, Leads, Accepts, LeadAlike}
use Rattle.foundation.specs.Bits.{has, some_below, number}
use Rattle.rules.specs.Meaning.{Meaning, Below, effect, Permitted, Forbidden}

-- the box a has the pair (p, q)
abbrev pub pairs : ℕ → ℕ → ℕ → Bool
pairs a p q = has a (8 * p + q)

-- some state r stands between p and q
abbrev pub through : ℕ → ℕ → ℕ → ℕ → Bool
through a b p q = some_below 8 (λ r. pairs a p r && pairs b r q)

unfoldable pub composed : ℕ → ℕ → ℕ
composed a b = number (λ k. through a b (k / 8) (k % 8)) 64

unfoldable pub identity : ℕ
identity = number (λ k. nat_eq (k / 8) (k % 8)) 64

-- some final state q has the pair (0, q)
abbrev pub accepting : List Bool → ℕ → Bool
accepting finals a = some_below 8 (λ q. slice_index_or finals q false && pairs a 0 q)

abbrev pub charted : List ℕ → List Bool → Meaning ℕ
charted boxes finals = record {
  commands = 16;
  own = λ e. e < 2 ^ 64;
  command = λ c. slice_index boxes c;
  neutral = identity;
  join = composed;
  same = nat_eq;
  breaks = λ e. not (accepting finals e);
}

-- the boxes have the arrows and the flags the final states that the first n records name
pub record Drawn (bytes : List ℕ) (n : ℕ) (boxes : List ℕ) (finals : List Bool) : Type 0 where
  pub arrows : (p c q : ℕ) → p < 8 → c < 16 → q < 8 → Decides (pairs (slice_index boxes c) p q) (Arrow bytes n p c q)
  pub ends : (q : ℕ) → q < 8 → Decides (slice_index_or finals q false) (Final bytes n q)

-- x is the rule of the automaton that the bytes name
pub record Charts (bytes : List ℕ) (x : Meaning ℕ) : Type 0 where
  pub commands : x.commands ≡ 16
  pub boxes : (w : List ℕ) → Below 16 w → (p q : ℕ) → p < 8 → q < 8 → Decides (pairs (effect x w) p q) (Leads bytes p w q)
  pub alike : (u v : List ℕ) → Below 16 u → Below 16 v → (effect x u ≡ effect x v) ↔ LeadAlike bytes u v
  pub permits : (w : List ℕ) → Permitted x w ↔ Accepts bytes w
  pub forbids : (w : List ℕ) → Forbidden x w ↔ (Below 16 w × (¬ Accepts bytes w))
