-- The laws of sets of numbers, for any width.
use Rattle.std.specs.Prelude.{◌≡◌, ℕ, zero, suc, ◌+◌, ◌-◌, ◌*◌, ◌/◌, ◌%◌, ◌^◌, ◌<◌, Bool, true, false, cond, not, ◌&&◌, ◌||◌, ◌⊎◌, Decides, ◌==◌, bit_and, bit_or, nat_eq, nat_lt, refl}
use Rattle.std.proofs.Common.{sym, ◌∙◌, ap, ap₂, subst, inl, inr, ⊎_elim, arith, div-one, pow-suc, one-add}
use Rattle.std.proofs.Math.Bool.{or-false}
use Rattle.std.specs.Int.Count.{ones, count_trailing_zeros, under}
use Rattle.std.proofs.lemmas.Nat.{shr_split, shr_below, mod_below, pow_pos, one_shl, ones_cat}
use Rattle.std.proofs.lemmas.Bool.{eqb-true, eq-eqb, ne_eqb, lt-ltb, and_parts, cond-true, both_ways}
use Rattle.foundation.specs.Bits.{has}
use Rattle.foundation.specs.Sets.{added, within, size, First}
use Rattle.foundation.specs.Laws.Bits.{two_ways, same_tests, has-or, has-and, has_shr, has-zero, has_mod, has_pow, has_ext}

pub has-added : (w s n k : ℕ) → has (added w s n) k ≡ (has s k || (nat_lt n w && k == n))
has-added w s n k =
    elim (nat_lt n w) as (λ v. has (cond v (bit_or s (2 ^ n)) s) k ≡ (has s k || (v && k == n))) [
      | true ↦ has-or s (2 ^ n) k ∙ ap (λ x. has s k || x) (has_pow n k)
      | false ↦ sym (or-false (has s k))
    ]

-- code makes the bit of one more member by a shift
pub added_shifted : (w s n : ℕ) → n < w → bit_or s ((1 * 2 ^ n) % 2 ^ w) ≡ added w s n
added_shifted w s n h = ap (bit_or s) (one_shl n w h) ∙ sym (cond-true (nat_lt n w) (bit_or s (2 ^ n)) s (lt-ltb n w h))

-- ---- sets that are equal, empty or within one another

pub same_decides : (a b : ℕ) → Decides (a == b) ((k : ℕ) → has a k ≡ has b k)
same_decides a b = (λ e k. ap (λ x. has x k) (eqb-true a b e), λ h. eq-eqb a b (has_ext a b h))

pub empty_decides : (s : ℕ) → Decides (s == 0) ((k : ℕ) → has s k ≡ false)
empty_decides s = (
  λ e k. (same_decides s 0).0 e k ∙ has-zero k,
  λ h. (same_decides s 0).1 (λ k. h k ∙ sym (has-zero k)),
)

and_absorbs : (x y : Bool) → (x ≡ true → y ≡ true) → (x && y) ≡ x
and_absorbs true y h = h refl
and_absorbs false y h = refl

pub within_decides : (a b : ℕ) → Decides (within a b) ((k : ℕ) → has a k ≡ true → has b k ≡ true)
within_decides a b = (
  λ e k h. (and_parts (has a k) (has b k) (sym (has-and a b k) ∙ ap (λ x. has x k) (eqb-true (bit_and a b) a e) ∙ h)).1,
  λ h. eq-eqb (bit_and a b) a (has_ext (bit_and a b) a (λ k. has-and a b k ∙ and_absorbs (has a k) (has b k) (h k))),
)

-- ---- the lowest place, and the places above it

pub has_low : (s : ℕ) → has s 0 ≡ (s % 2 == 1)
has_low s = ap (λ x. nat_eq (x % 2) 1) (div-one s)

low_clear : (s : ℕ) → s % 2 ≡ 0 → has s 0 ≡ false
low_clear s e = has_low s ∙ ap (λ d. nat_eq d 1) e

pub has_half : (s k : ℕ) → has s (suc k) ≡ has (s / 2) k
has_half s k = ap (has s) (sym (one-add k)) ∙ sym (has_shr s 1 k)

-- ---- the first member

-- what holds of an odd number at 0, and of an even one at one more than of its half, holds of each number at its trailing zeros
trailing_by : (P : ℕ → ℕ → Type 0) → ((s : ℕ) → s % 2 ≡ 1 → P s 0) → ((s n : ℕ) → 0 < s → s % 2 ≡ 0 → P (s / 2) n → P s (suc n)) → (w s : ℕ) → 0 < s → s < 2 ^ w → P s (count_trailing_zeros w s)
unfolding count_trailing_zeros
trailing_by P odd even zero s p h = absurd (omega arith)
trailing_by P odd even (suc w) s p h =
    let rest = count_trailing_zeros w (s / 2) in
    let at : (d : ℕ) → s % 2 ≡ d → P s (under d rest) → P s (under (s % 2) rest) = λ d e. subst (λ x. P s (under x rest)) (sym e) in
    ⊎_elim
    (λ (e : s % 2 ≡ 0). at 0 e (even s rest p e (trailing_by P odd even w (s / 2) (omega arith) (omega (arith, pow-suc 2 w)))))
    (λ (e : s % 2 ≡ 1). at 1 e (odd s e))
    (two_ways (s % 2) (omega arith))

first_odd : (s : ℕ) → s % 2 ≡ 1 → First s 0
first_odd s e = record { member = has_low s ∙ ap (λ d. nat_eq d 1) e; least = λ k h. absurd (omega arith) }

first_even : (s n : ℕ) → 0 < s → s % 2 ≡ 0 → First (s / 2) n → First s (suc n)
first_even s n p e f = record { member = has_half s n ∙ f.member; least = least }
  where
    least : (k : ℕ) → k < suc n → has s k ≡ false
    least zero h = low_clear s e
    least (suc k) h = has_half s k ∙ f.least k (omega arith)

pub first_trailing : (w s : ℕ) → 0 < s → s < 2 ^ w → First s (count_trailing_zeros w s)
first_trailing = trailing_by First first_odd first_even

-- ---- how many members

size_ext : (w a b : ℕ) → ((k : ℕ) → k < w → has a k ≡ has b k) → size w a ≡ size w b
unfolding size
size_ext zero a b h = refl
size_ext (suc w) a b h = ap₂ (λ x n. cond x 1 0 + n) (h w (omega arith)) (size_ext w a b (λ k l. h k (omega arith)))

ones_digit : (d : ℕ) → (d ≡ 0) ⊎ (d ≡ 1) → ones d ≡ cond (d % 2 == 1) 1 0
unfolding ones
ones_digit d (inl e) = rw e
ones_digit d (inr e) = rw e

pub ones_size : (w s : ℕ) → s < 2 ^ w → ones s ≡ size w s
unfolding size ones
ones_size zero s h = let e : s ≡ 0 = omega arith in rw e
ones_size (suc w) s h =
    ap ones (sym (shr_split s w)) ∙ ones_cat w (s / 2 ^ w) (s % 2 ^ w) below ∙ ap₂ ◌+◌ top (ones_size w (s % 2 ^ w) below ∙ size_ext w (s % 2 ^ w) s (has_mod s w))
  where
    below : s % 2 ^ w < 2 ^ w
    below = mod_below s (2 ^ w) (pow_pos w)

    top : ones (s / 2 ^ w) ≡ cond (has s w) 1 0
    top = ones_digit (s / 2 ^ w) (two_ways (s / 2 ^ w) (shr_below s 1 w (subst (λ n. s < 2 ^ n) (sym (one-add w)) h)))

-- ---- all members but the first

pub eqb_suc : (a b : ℕ) → (suc a == suc b) ≡ (a == b)
eqb_suc a b = same_tests (suc a == suc b) (a == b) (λ e. eq-eqb a b (omega (arith, eqb-true (suc a) (suc b) e))) (λ e. eq-eqb (suc a) (suc b) (ap suc (eqb-true a b e)))

-- of the members of s, the number s - 1 has all but the first one, n
abbrev AllBut : ℕ → ℕ → Type 0
AllBut s n = (k : ℕ) → has s k ≡ true → has (s - 1) k ≡ not (k == n)

but_odd : (s : ℕ) → s % 2 ≡ 1 → AllBut s 0
but_odd s e zero m = low_clear (s - 1) (omega arith)
but_odd s e (suc k) m =
    has_half (s - 1) k ∙ ap (λ x. has x k) half ∙ sym (has_half s k) ∙ m ∙ sym (ap not (ne_eqb (suc k) 0 (λ z. omega arith)))
  where
    half : (s - 1) / 2 ≡ s / 2
    half = omega arith

but_even : (s n : ℕ) → 0 < s → s % 2 ≡ 0 → AllBut (s / 2) n → AllBut s (suc n)
but_even s n p e rest zero m = absurd (both_ways (has s 0) (low_clear s e) m)
but_even s n p e rest (suc k) m =
    has_half (s - 1) k ∙ ap (λ x. has x k) half ∙ rest k (sym (has_half s k) ∙ m) ∙ ap not (sym (eqb_suc k n))
  where
    half : (s - 1) / 2 ≡ s / 2 - 1
    half = omega arith

and_where : (x y z : Bool) → (x ≡ true → y ≡ z) → (x && y) ≡ (x && z)
and_where true y z h = h refl
and_where false y z h = refl

pub without_first_lem : (w s k : ℕ) → 0 < s → s < 2 ^ w → has (bit_and s (s - 1)) k ≡ (has s k && not (k == count_trailing_zeros w s))
without_first_lem w s k p h = has-and s (s - 1) k ∙ and_where (has s k) (has (s - 1) k) (not (k == count_trailing_zeros w s)) (trailing_by AllBut but_odd but_even w s p h k)
