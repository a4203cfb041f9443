-- A count permits a list exactly where the sum of its weights is a permitted residue.
use Rattle.std.proofs.Common.{◌≡◌, ℕ, ◌+◌, ◌-◌, ◌/◌, ◌%◌, ◌^◌, ◌<◌, ◌≤◌, ◌⊎◌, List, [], ◌∷◌, get_or, sym, refl, ap, ◌∙◌, inl, inr, arith}
use native.Mathlib.Nat.{add-mod-mod, zero-mod}
use Rattle.std.proofs.lemmas.Bool.{not-false, not_from_true, cases_lt, false≢true}
use Rattle.std.specs.List.{slice_index}
use Rattle.std.proofs.lemmas.List.Sums.{sum_by-cons}
use Rattle.foundation.specs.Bits.{has}
use Rattle.foundation.specs.Laws.Bits.{has_shr, has-zero, has_above, some_bit}
use Rattle.rules.specs.Counting.{counted, total, Counts, Masks}
use Rattle.rules.specs.Meaning.{effect}

module _ (m : ℕ) (weights : List ℕ) (mask : ℕ) where
  sums : (w : List ℕ) → effect (counted m weights mask) w ≡ total weights w % m
  sums [] = sym (zero-mod m)
  sums (c ∷ w) = ap (λ n. (get_or weights c 0 + n) % m) (sums w) ∙ add-mod-mod (get_or weights c 0) (total weights w) m ∙ ap (λ n. n % m) (sym (sum_by-cons (slice_index weights) c w))

  pub counts : Counts m weights mask (counted m weights mask)
  counts = record {
    commands = refl;
    sums = λ w _. sums w;
    permits = λ w. (
      (λ h. (h.0, ap (has mask) (sym (sums w)) ∙ not-false (has mask (effect (counted m weights mask) w)) h.1)),
      (λ h. (h.0, not_from_true (has mask (effect (counted m weights mask) w)) (ap (has mask) (sums w) ∙ h.1))),
    );
  }

high_bit : (m mask k : ℕ) → m ≤ k → has mask k ≡ has (mask / 2 ^ m) (k - m)
high_bit m mask k h = let e : k ≡ m + (k - m) = omega arith in ap (has mask) e ∙ sym (has_shr mask m (k - m))

pub masks_from_shift : (m mask : ℕ) → mask / 2 ^ m ≡ 0 → Masks m mask
masks_from_shift m mask e k t = go (cases_lt k m)
  where
    go : (k < m) ⊎ (m ≤ k) → k < m
    go (inl h) = h
    go (inr h) = absurd (false≢true (sym (has-zero (k - m)) ∙ ap (λ n. has n (k - m)) (sym e) ∙ sym (high_bit m mask k h) ∙ t))

pub masks_from_width : (m mask : ℕ) → mask < 2 ^ m → Masks m mask
masks_from_width m mask h k t = go (cases_lt k m)
  where
    go : (k < m) ⊎ (m ≤ k) → k < m
    go (inl l) = l
    go (inr l) = absurd (false≢true (sym (has_above m mask k h l) ∙ t))

pub shift_from_masks : (m mask : ℕ) → (mask / 2 ^ m ≡ 0 → ⊥) → Masks m mask → ⊥
shift_from_masks m mask h below =
    let b = some_bit (mask / 2 ^ m) h in
    let l = below (m + b.0) (sym (has_shr mask m b.0) ∙ b.1) in
    omega arith
