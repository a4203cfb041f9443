-- The laws of the members of a set, for any width.
use Rattle.std.specs.Prelude.{◌≡◌, ℕ, zero, suc, ◌+◌, ◌-◌, ◌*◌, ◌/◌, ◌%◌, ◌^◌, ◌<◌, ◌≤◌, min, Bool, true, false, cond, not, ◌&&◌, ◌||◌, List, [], ◌∷◌, map, length, Decides, ◌==◌, bit_and, bit_or, nat_eq, refl}
use Rattle.std.proofs.Common.{sym, ap, ap₂, ◌∙◌, ⊎_elim, le_refl, not-suc-le-zero, pow-suc, arith}
use Rattle.std.proofs.Math.Path.{fun_ext}
use mathlib.Core.List.Memᴰ
use mathlib.Core.List.{Memᴰ}
use Rattle.std.proofs.Math.Bool.{or-false, and-false}
use Rattle.std.proofs.Math.Nat.{mul-mod_left}
use Rattle.std.proofs.Math.Decide.{le_ind}
use Rattle.std.proofs.Math.Arith.{bin_ind, half_le}
use Rattle.std.proofs.lemmas.Nat.{or_shr}
use Rattle.std.specs.Int.Bits.{and_step, and_self, or_add_and}
use Rattle.std.specs.Int.Count.{ones, ones_step, count_trailing_zeros, under}
use Rattle.std.proofs.lemmas.List.{length-map}
use Rattle.std.proofs.lemmas.Bool.{eqb-true, eqb-false, eq-eqb, ne_eqb, cond-true, cond-false, and_parts, and_from, not-true, not_from_false, false≢true}
use Rattle.foundation.specs.Bits.{has}
use Rattle.foundation.specs.Sets.{within, members_in, members, gathered, hits}
use Rattle.std.specs.List.{list_any}
use Rattle.foundation.specs.Laws.Bits.{two_ways, has-or, has-and, has-zero, some_bit, same_tests}
use Rattle.foundation.specs.Laws.Sets.{has_half, has_low, eqb_suc}
use Rattle.foundation.specs.Laws.Tests.{list_any-map, any_in, in_any}

-- ---- one place after the other

more_places : (n s : ℕ) → s ≤ n → members_in (suc n) s ≡ members_in n s
unfolding members_in
more_places zero zero h = refl
more_places zero (suc s) h = absurd (not-suc-le-zero h)
more_places (suc n) zero h = refl
more_places (suc n) (suc s) h = ap (λ l. cond (suc s % 2 == 1) (0 ∷ map suc l) (map suc l)) (more_places n (suc s / 2) (half_le h))

pub members_step : (s : ℕ) → members s ≡ cond (s % 2 == 1) (0 ∷ map suc (members (s / 2))) (map suc (members (s / 2)))
unfolding members members_in
members_step zero = refl
members_step (suc s) =
    let h = suc s / 2 in
    let enough : members_in s h ≡ members_in h h = le_ind (λ (n : ℕ). members_in n h ≡ members_in h h) refl (λ n k e. more_places n h k ∙ e) s (half_le (le_refl (suc s))) in
    ap (λ l. cond (suc s % 2 == 1) (0 ∷ map suc l) (map suc l)) enough

pub members-none : members 0 ≡ []
unfolding members members_in
members-none = refl

any_front : (A : ℕ → Bool) (b : Bool) (l : List ℕ) → list_any A (cond b (0 ∷ l) l) ≡ ((b && A 0) || list_any A l)
any_front A true l = refl
any_front A false l = refl

hits_step : (A : ℕ → Bool) (s : ℕ) → hits A s ≡ ((s % 2 == 1 && A 0) || hits (λ k. A (suc k)) (s / 2))
hits_step A s =
    ap (list_any A) (members_step s) ∙ any_front A (s % 2 == 1) (map suc (members (s / 2)))
    ∙ ap (λ b. (s % 2 == 1 && A 0) || b) (list_any-map A suc (members (s / 2)))

-- ---- what a set hits

pub hits-none : (A : ℕ → Bool) → hits A 0 ≡ false
hits-none A = ap (list_any A) members-none

shuffle : (x y a u v : Bool) → (((x || y) && a) || (u || v)) ≡ (((x && a) || u) || ((y && a) || v))
shuffle true true true u v = refl
shuffle true true false u v = refl
shuffle true false true u v = refl
shuffle true false false u v = refl
shuffle false true true true v = refl
shuffle false true true false v = refl
shuffle false true false u v = refl
shuffle false false a u v = refl

low_or : (a b : ℕ) → (bit_or a b % 2 == 1) ≡ (a % 2 == 1 || b % 2 == 1)
low_or a b = sym (has_low (bit_or a b)) ∙ has-or a b 0 ∙ ap₂ (λ (x y : Bool). x || y) (has_low a) (has_low b)

pub hits-or : (a b : ℕ) (A : ℕ → Bool) → hits A (bit_or a b) ≡ (hits A a || hits A b)
hits-or a =
    bin_ind (λ (n : ℕ). (b : ℕ) (A : ℕ → Bool) → hits A (bit_or n b) ≡ (hits A n || hits A b)) (λ b A. rw (hits-none A))
    (λ n ih b A. hits_step A (bit_or n b)
    ∙ ap₂ (λ (x y : Bool). (x && A 0) || y) (low_or n b) (ap (hits (λ k. A (suc k))) (or_shr n b 1) ∙ ih (b / 2) (λ k. A (suc k)))
    ∙ shuffle (n % 2 == 1) (b % 2 == 1) (A 0) (hits (λ k. A (suc k)) (n / 2)) (hits (λ k. A (suc k)) (b / 2))
    ∙ sym (ap₂ (λ (x y : Bool). x || y) (hits_step A n) (hits_step A b))) a

pub hits_one : (A : ℕ → Bool) (k : ℕ) → hits A (2 ^ k) ≡ A k
unfolding members members_in
hits_one A zero = or-false (A 0)
hits_one A (suc k) =
    let even : 2 ^ suc k % 2 ≡ 0 = ap (λ n. n % 2) (pow-suc 2 k) ∙ mul-mod_left (2 ^ k) 2 in
    let half : 2 ^ suc k / 2 ≡ 2 ^ k = omega arith in
    hits_step A (2 ^ suc k) ∙ rw (even, half) (hits_one (λ k. A (suc k)) k)

pub hits-gathered : (A : ℕ → Bool) (ks : List ℕ) → hits A (gathered ks) ≡ list_any A ks
hits-gathered A [] = hits-none A
hits-gathered A (k ∷ ks) = hits-or (2 ^ k) (gathered ks) A ∙ ap₂ (λ (x y : Bool). x || y) (hits_one A k) (hits-gathered A ks)

-- what lies within a set hits no more than that
within-or : (a b : ℕ) → within a b ≡ true → bit_or a b ≡ b
within-or a b h = omega (arith, eqb-true (bit_and a b) a h, or_add_and a b)

pub hits-within : (A : ℕ → Bool) (a b : ℕ) → within a b ≡ true → (hits A a || hits A b) ≡ hits A b
hits-within A a b h = sym (hits-or a b A) ∙ ap (hits A) (within-or a b h)

-- ---- the first member, and the others

low_clear : (s : ℕ) → s % 2 ≡ 1 → (bit_and s (s - 1) % 2 ≡ 0) × (bit_and s (s - 1) / 2 ≡ s / 2)
low_clear s e =
    let h : (s - 1) / 2 ≡ s / 2 = omega arith in
    let z : (s - 1) % 2 ≡ 0 = omega arith in
    let t : bit_and s (s - 1) ≡ s / 2 * 2 + 0 =
    and_step s (s - 1) ∙ ap (λ x. bit_and (s / 2) x * 2 + min (s % 2) ((s - 1) % 2)) h ∙ ap (λ x. x * 2 + min (s % 2) ((s - 1) % 2)) (and_self (s / 2))
    ∙ (let y : s / 2 * 2 + min (s % 2) ((s - 1) % 2) ≡ s / 2 * 2 + 0 = omega arith in y) in
    (omega arith, omega arith)

high_clear : (s : ℕ) → 0 < s → s % 2 ≡ 0 → (bit_and s (s - 1) % 2 ≡ 0) × (bit_and s (s - 1) / 2 ≡ bit_and (s / 2) (s / 2 - 1))
high_clear s p e =
    let h : (s - 1) / 2 ≡ s / 2 - 1 = omega arith in
    let t : bit_and s (s - 1) ≡ bit_and (s / 2) (s / 2 - 1) * 2 + 0 =
    and_step s (s - 1) ∙ ap (λ x. bit_and (s / 2) x * 2 + min (s % 2) ((s - 1) % 2)) h
    ∙ (let y : bit_and (s / 2) (s / 2 - 1) * 2 + min (s % 2) ((s - 1) % 2) ≡ bit_and (s / 2) (s / 2 - 1) * 2 + 0 = omega arith in y) in
    (omega arith, omega arith)

members_odd : (s : ℕ) → s % 2 ≡ 1 → members s ≡ 0 ∷ map suc (members (s / 2))
members_odd s e = members_step s ∙ cond-true (s % 2 == 1) (0 ∷ map suc (members (s / 2))) (map suc (members (s / 2))) (eq-eqb (s % 2) 1 e)

members_even : (s : ℕ) → s % 2 ≡ 0 → members s ≡ map suc (members (s / 2))
members_even s e = members_step s ∙ cond-false (s % 2 == 1) (0 ∷ map suc (members (s / 2))) (map suc (members (s / 2))) (ne_eqb (s % 2) 1 (λ x. omega arith))

-- the first member stands at the number of trailing zeros; the others are those of s and s - 1 together
pub members_more : (w s : ℕ) → 0 < s → s < 2 ^ w → members s ≡ count_trailing_zeros w s ∷ members (bit_and s (s - 1))
unfolding count_trailing_zeros
members_more zero s p h = absurd (omega arith)
members_more (suc w) s p h =
    let b = bit_and s (s - 1) in
    let t = count_trailing_zeros w (s / 2) in
    ⊎_elim
    (λ (e : s % 2 ≡ 0).
    let k = high_clear s p e in
    members_even s e ∙ ap (map suc) (members_more w (s / 2) (omega arith) (omega (arith, pow-suc 2 w)))
    ∙ ap (λ d. under d t ∷ map suc (members (bit_and (s / 2) (s / 2 - 1)))) (sym e)
    ∙ ap (λ l. under (s % 2) t ∷ l) (sym (members_even b k.0 ∙ ap (λ x. map suc (members x)) k.1)))
    (λ (e : s % 2 ≡ 1).
    let k = low_clear s e in
    members_odd s e
    ∙ ap (λ d. under d t ∷ map suc (members (s / 2))) (sym e)
    ∙ ap (λ l. under (s % 2) t ∷ l) (sym (members_even b k.0 ∙ ap (λ x. map suc (members x)) k.1)))
    (two_ways (s % 2) (omega arith))

-- there are as many as the number has ones
pub members_ones : (s : ℕ) → length (members s) ≡ ones s
unfolding ones
members_ones =
    bin_ind (λ (s : ℕ). length (members s) ≡ ones s) (ap length members-none)
    (λ s ih. ⊎_elim
    (λ (e : s % 2 ≡ 0). ap length (members_even s e) ∙ length-map (members (s / 2)) suc ∙ ih ∙ omega (arith, ones_step s))
    (λ (e : s % 2 ≡ 1). ap length (members_odd s e) ∙ ap suc (length-map (members (s / 2)) suc ∙ ih) ∙ omega (arith, ones_step s))
    (two_ways (s % 2) (omega arith)))

-- ---- by membership

pub hits-has : (s k : ℕ) → hits (λ i. nat_eq i k) s ≡ has s k
hits-has =
    bin_ind (λ (s : ℕ). (k : ℕ) → hits (λ i. nat_eq i k) s ≡ has s k) (λ k. hits-none (λ i. nat_eq i k) ∙ sym (has-zero k)) step
  where
    low : (s : ℕ) (b : Bool) → list_any (λ _. false) (members s) ≡ false → ((b && true) || hits (λ _. false) s) ≡ b
    low s true n = refl
    low s false n = n

    nothing : (l : List ℕ) → list_any (λ _. false) l ≡ false
    nothing [] = refl
    nothing (k ∷ l) = nothing l

    step : (s : ℕ) → ((k : ℕ) → hits (λ i. nat_eq i k) (s / 2) ≡ has (s / 2) k) → (k : ℕ) → hits (λ i. nat_eq i k) s ≡ has s k
    step s ih zero =
        hits_step (λ i. nat_eq i 0) s ∙ ap (λ (A : ℕ → Bool). (s % 2 == 1 && true) || hits A (s / 2)) (fun_ext (λ i. ne_eqb (suc i) 0 (λ e. omega arith)))
        ∙ low (s / 2) (s % 2 == 1) (nothing (members (s / 2))) ∙ sym (has_low s)
    step s ih (suc k) =
        hits_step (λ i. nat_eq i (suc k)) s ∙ ap (λ b. (s % 2 == 1 && b) || hits (λ i. nat_eq (suc i) (suc k)) (s / 2)) (ne_eqb 0 (suc k) (λ e. omega arith))
        ∙ ap (λ b. b || hits (λ i. nat_eq (suc i) (suc k)) (s / 2)) (and-false (s % 2 == 1))
        ∙ ap (λ (A : ℕ → Bool). hits A (s / 2)) (fun_ext (λ i. eqb_suc i k)) ∙ ih k ∙ sym (has_half s k)

-- the members in the list are the members of the set
pub in_members : (s k : ℕ) → Decides (has s k) (Memᴰ k (members s))
in_members s k = (
  λ h. let r = any_in (λ i. nat_eq i k) (members s) (hits-has s k ∙ h) in Memᴰ.cast (sym (eqb-true r.0 k r.2)) r.1,
  λ m. sym (hits-has s k) ∙ in_any (λ i. nat_eq i k) m (eq-eqb k k refl),
)

-- a set hits A where it has a member in A
pub hits_decides : (A : ℕ → Bool) (s : ℕ) → Decides (hits A s) ((k : ℕ) × (has s k ≡ true) × (A k ≡ true))
hits_decides A s = (
  λ h. let r = any_in A (members s) h in (r.0, (in_members s r.0).1 r.1, r.2),
  λ r. in_any A ((in_members s r.0).0 r.1) r.2,
)

-- two sets share a member where they have a bit in common
pub shared_hits : (s a : ℕ) → not (bit_and s a == 0) ≡ hits (has a) s
shared_hits s a = same_tests (not (bit_and s a == 0)) (hits (has a) s) forth back
  where
    forth : not (bit_and s a == 0) ≡ true → hits (has a) s ≡ true
    forth e =
        let r = some_bit (bit_and s a) (eqb-false (bit_and s a) 0 (not-true (bit_and s a == 0) e)) in
        let p = and_parts (has s r.0) (has a r.0) (sym (has-and s a r.0) ∙ r.1) in
        (hits_decides (has a) s).1 (r.0, p.0, p.1)

    back : hits (has a) s ≡ true → not (bit_and s a == 0) ≡ true
    back e =
        let r = (hits_decides (has a) s).0 e in
        let h : has (bit_and s a) r.0 ≡ true = has-and s a r.0 ∙ and_from (has s r.0) (has a r.0) r.1 r.2 in
        not_from_false (bit_and s a == 0) (ne_eqb (bit_and s a) 0 (λ z. false≢true (sym (ap (λ n. has n r.0) z ∙ has-zero r.0) ∙ h)))
