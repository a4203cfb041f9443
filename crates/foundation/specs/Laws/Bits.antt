-- The laws of binary digits, for any width.
use Rattle.std.specs.Prelude.{◌≡◌, ℕ, zero, suc, ◌+◌, ◌-◌, ◌*◌, ◌/◌, ◌%◌, ◌^◌, ◌<◌, ◌≤◌, Bool, true, false, cond, not, ◌&&◌, ◌||◌, eqb, ◌⊎◌, Decides, ◌==◌, ◌≢◌, bit_and, bit_or, refl}
use Rattle.std.proofs.Common.{sym, ◌∙◌, ap, subst, inl, inr, ⊎_elim, arith, add-one, zero-mul, add-zero, add-mul, mul_assoc, mul_comm, add-suc, pow-suc}
use Rattle.std.proofs.Math.Nat.{zero-div, div-eq_of_lt}
use Rattle.std.proofs.lemmas.Nat.{pow-add, or_shr, or_mod, and_shr, and_mod, shr-shr, field_of, mod-pow-add, shr_high, mod_low, shr_split, pow_pos, shr_below, mod_below, pow_below, and_mask}
use Rattle.std.proofs.lemmas.Bool.{eq-eqb, ne_eqb, cases_order, cases_Bool, false≢true}
use Rattle.std.proofs.lemmas.Bool.Decides.{Decides-below_or}
use Rattle.foundation.specs.Bits.{has, some_below, number}

-- two tests that follow from each other are equal
pub same_tests : (x y : Bool) → (x ≡ true → y ≡ true) → (y ≡ true → x ≡ true) → x ≡ y
same_tests true y f g = sym (f refl)
same_tests false true f g = g refl
same_tests false false f g = refl

pub some_is : (n : ℕ) (f : ℕ → Bool) → Decides (some_below n f) ((k : ℕ) × (k < n) × (f k ≡ true))
unfolding some_below
some_is n f = Decides-below_or f (λ k. f k ≡ true) (λ m. some_below m f) (λ k. ((λ e. e), (λ e. e))) refl (λ m. refl) n

-- a digit is 0 or 1
pub two_ways : (d : ℕ) → d < 2 → (d ≡ 0) ⊎ (d ≡ 1)
two_ways zero h = inl refl
two_ways (suc zero) h = inr refl
two_ways (suc (suc d)) h = absurd (omega arith)

or_digit : (x y : ℕ) → (x ≡ 0) ⊎ (x ≡ 1) → (y ≡ 0) ⊎ (y ≡ 1) → (bit_or x y == 1) ≡ (x == 1 || y == 1)
or_digit x y (inl p) (inl q) = rw (p, q)
or_digit x y (inl p) (inr q) = rw (p, q)
or_digit x y (inr p) (inl q) = rw (p, q)
or_digit x y (inr p) (inr q) = rw (p, q)

and_digit : (x y : ℕ) → (x ≡ 0) ⊎ (x ≡ 1) → (y ≡ 0) ⊎ (y ≡ 1) → (bit_and x y == 1) ≡ (x == 1 && y == 1)
and_digit x y (inl p) q = rw p
and_digit x y (inr p) (inl q) = rw (p, q)
and_digit x y (inr p) (inr q) = rw (p, q)

pub has-or : (a b k : ℕ) → has (bit_or a b) k ≡ (has a k || has b k)
has-or a b k =
    ap (λ x. eqb (x % 2) 1) (or_shr a b k) ∙ ap (λ x. eqb x 1) (or_mod (a / 2 ^ k) (b / 2 ^ k) 1)
    ∙ or_digit (a / 2 ^ k % 2) (b / 2 ^ k % 2) (two_ways (a / 2 ^ k % 2) (omega arith)) (two_ways (b / 2 ^ k % 2) (omega arith))

pub has-and : (a b k : ℕ) → has (bit_and a b) k ≡ (has a k && has b k)
has-and a b k =
    ap (λ x. eqb (x % 2) 1) (and_shr a b k) ∙ ap (λ x. eqb x 1) (and_mod (a / 2 ^ k) (b / 2 ^ k) 1)
    ∙ and_digit (a / 2 ^ k % 2) (b / 2 ^ k % 2) (two_ways (a / 2 ^ k % 2) (omega arith)) (two_ways (b / 2 ^ k % 2) (omega arith))

pub has_shr : (a j k : ℕ) → has (a / 2 ^ j) k ≡ has a (j + k)
has_shr a j k = ap (λ x. eqb (x % 2) 1) (shr-shr a j k)

pub has-zero : (k : ℕ) → has 0 k ≡ false
has-zero k = ap (λ x. eqb (x % 2) 1) (zero-div (2 ^ k))

-- no bit stands at or above the width
pub has_above : (n a k : ℕ) → a < 2 ^ n → n ≤ k → has a k ≡ false
has_above n a k h l =
    let e : a / 2 ^ k ≡ 0 = div-eq_of_lt (⊎_elim (λ p. subst (λ j. a < 2 ^ j) p h) (λ (p : (n < k) ⊎ (k < n)). ⊎_elim (λ q. omega (arith, pow_below n k q)) (λ q. absurd (omega arith)) p) (cases_order n k)) in
    ap (λ x. eqb (x % 2) 1) e

low_digit : (n i : ℕ) → n % 2 ^ (i + 1) % 2 ≡ n % 2
low_digit n i = let e = mod-pow-add n i 1 in omega (arith, e)

pub has_mod : (x n k : ℕ) → k < n → has (x % 2 ^ n) k ≡ has x k
has_mod x n k h =
    let e : (n - suc k + 1) + k ≡ n = omega arith in
    let f : x % 2 ^ n / 2 ^ k ≡ x / 2 ^ k % 2 ^ (n - suc k + 1) = subst (λ m. x % 2 ^ m / 2 ^ k ≡ x / 2 ^ k % 2 ^ (n - suc k + 1)) e (field_of x (n - suc k + 1) k) in
    ap (λ y. eqb (y % 2) 1) f ∙ ap (λ y. eqb y 1) (low_digit (x / 2 ^ k) (n - suc k))

-- ---- the number with given bits

pub number_lt : (f : ℕ → Bool) (n : ℕ) → number f n < 2 ^ n
number_lt f zero = omega arith
number_lt f (suc n) =
    let h = number_lt f n in let e = pow-suc 2 n in
    elim (f n) as (λ v. cond v 1 0 * 2 ^ n + number f n < 2 ^ suc n) [ true ↦ omega (arith, e) | false ↦ omega (arith, e) ]

pub number_ext : (f g : ℕ → Bool) (n : ℕ) → ((k : ℕ) → k < n → f k ≡ g k) → number f n ≡ number g n
number_ext f g zero e = refl
number_ext f g (suc n) e =
    ap (λ b. cond b 1 0 * 2 ^ n + number f n) (e n (omega arith))
    ∙ ap (λ x. cond (g n) 1 0 * 2 ^ n + x) (number_ext f g n (λ k h. e k (omega arith)))

digit_bit : (b : Bool) → (cond b 1 0 % 2 == 1) ≡ b
digit_bit true = refl
digit_bit false = refl

pub has-number : (f : ℕ → Bool) (n k : ℕ) → k < n → has (number f n) k ≡ f k
has-number f zero k h = absurd (omega arith)
has-number f (suc n) k h =
    ⊎_elim
    (λ e. subst (λ j. has (number f (suc n)) j ≡ f j) (sym e)
    (ap (λ x. eqb (x % 2) 1) (shr_high (cond (f n) 1 0) n (number f n) (number_lt f n)) ∙ digit_bit (f n)))
    (λ (l : (k < n) ⊎ (n < k)). ⊎_elim
    (λ l. sym (has_mod (number f (suc n)) n k l)
    ∙ ap (λ x. has x k) (mod_low (cond (f n) 1 0) n (number f n) (number_lt f n)) ∙ has-number f n k l)
    (λ l. absurd (omega arith)) l)
    (cases_order k n)

digit_back : (x : ℕ) → x < 2 → x ≡ cond (x % 2 == 1) 1 0
digit_back zero h = refl
digit_back (suc zero) h = refl
digit_back (suc (suc x)) h = absurd (omega arith)

pub number-has : (n a : ℕ) → a < 2 ^ n → a ≡ number (has a) n
number-has zero a h = omega arith
number-has (suc n) a h =
    let e = pow-suc 2 n in
    let below : a / 2 ^ n < 2 = shr_below a 1 n (subst (λ m. a < m) (omega (arith, e, pow-add 2 1 n)) h) in
    sym (shr_split a n)
    ∙ ap (λ x. x * 2 ^ n + a % 2 ^ n) (digit_back (a / 2 ^ n) below)
    ∙ ap (λ x. cond (has a n) 1 0 * 2 ^ n + x)
    (number-has n (a % 2 ^ n) (mod_below a (2 ^ n) (pow_pos n)) ∙ number_ext (has (a % 2 ^ n)) (has a) n (λ k l. has_mod a n k l))

spread : (c x y s t : ℕ) → c * (x * y) + (s * x + t) ≡ (c * y + s) * x + t
spread c x y s t = omega (arith, add-mul (c * y) s x, mul_assoc c y x, ap (λ z. c * z) (mul_comm x y))

pub number_cat : (f : ℕ → Bool) (n m : ℕ) → number f (n + m) ≡ number (λ j. f (n + j)) m * 2 ^ n + number f n
number_cat f n zero = ap (number f) (add-zero n) ∙ omega (arith, zero-mul (2 ^ n))
number_cat f n (suc m) =
    ap (number f) (add-suc n m)
    ∙ ap (λ x. cond (f (n + m)) 1 0 * 2 ^ (n + m) + x) (number_cat f n m)
    ∙ ap (λ x. cond (f (n + m)) 1 0 * x + (number (λ j. f (n + j)) m * 2 ^ n + number f n)) (pow-add 2 n m)
    ∙ spread (cond (f (n + m)) 1 0) (2 ^ n) (2 ^ m) (number (λ j. f (n + j)) m) (number f n)

-- ---- numbers of one width are told apart by their bits

pub has_pow : (i k : ℕ) → has (2 ^ i) k ≡ (k == i)
has_pow i k =
    ⊎_elim
    (λ e. subst (λ j. has (2 ^ i) j ≡ (j == i)) (sym e) (top ∙ sym (eq-eqb i i refl)))
    (λ (l : (k < i) ⊎ (i < k)). ⊎_elim
    (λ l. sym (has_mod (2 ^ i) i k l) ∙ ap (λ x. has x k) low ∙ has-zero k ∙ sym (ne_eqb k i (λ e. omega arith)))
    (λ l. has_above (suc i) (2 ^ i) k (pow_below i (suc i) (omega arith)) l ∙ sym (ne_eqb k i (λ e. omega arith))) l)
    (cases_order k i)
  where
    one : 1 * 2 ^ i + 0 ≡ 2 ^ i
    one = omega arith

    top : has (2 ^ i) i ≡ true
    top = ap (λ x. has x i) (sym one) ∙ ap (λ x. eqb (x % 2) 1) (shr_high 1 i 0 (pow_pos i))

    low : 2 ^ i % 2 ^ i ≡ 0
    low = ap (λ x. x % 2 ^ i) (sym one) ∙ mod_low 1 i 0 (pow_pos i)

pub below_power : (n : ℕ) → n < 2 ^ n
below_power zero = omega arith
below_power (suc n) = omega (arith, pow-suc 2 n, below_power n)

pub has_ext : (a b : ℕ) → ((k : ℕ) → has a k ≡ has b k) → a ≡ b
has_ext a b h =
    let le : (x : ℕ) → x ≤ a + b → x < 2 ^ (a + b) = λ x l. omega (arith, below_power (a + b)) in
    number-has (a + b) a (le a (omega arith)) ∙ number_ext (has a) (has b) (a + b) (λ k _. h k) ∙ sym (number-has (a + b) b (le b (omega arith)))

pub some_none : (f : ℕ → Bool) → some_below 0 f ≡ false
unfolding some_below
some_none f = refl

pub some_more : (n : ℕ) (f : ℕ → Bool) → some_below (n + 1) f ≡ (f n || some_below n f)
unfolding some_below
some_more n f = rw add-one

-- a number that is not 0 has a bit
pub some_bit : (n : ℕ) → (n ≢ 0) → (k : ℕ) × (has n k ≡ true)
some_bit n h = go (cases_Bool (some_below n (has n)))
  where
    zeros : (k : ℕ) → number (λ _. false) k ≡ 0
    zeros zero = refl
    zeros (suc k) = omega (arith, zeros k)

    go : (some_below n (has n) ≡ true) ⊎ (some_below n (has n) ≡ false) → (k : ℕ) × (has n k ≡ true)
    go (inl e) = let w = (some_is n (has n)).0 e in (w.0, w.2)
    go (inr e) =
        let off : (k : ℕ) → k < n → has n k ≡ false = λ k l. ⊎_elim (λ t. absurd (false≢true (sym e ∙ (some_is n (has n)).1 (k, l, t)))) (λ f. f) (cases_Bool (has n k)) in
        absurd (h (number-has n n (below_power n) ∙ number_ext (has n) (λ _. false) n off ∙ zeros n))

-- the tests of one bit, as code makes them
pub bit_test : (s k : ℕ) → (bit_and (s / 2 ^ k) 1 == 1) ≡ has s k
bit_test s k = ap (λ x. eqb x 1) (and_mask (s / 2 ^ k) 1)

pub bit_clear : (s k : ℕ) → (bit_and (s / 2 ^ k) 1 == 0) ≡ not (has s k)
bit_clear s k = ap (λ y. eqb y 0) (and_mask (s / 2 ^ k) 1) ∙ go (s / 2 ^ k % 2) (two_ways (s / 2 ^ k % 2) (omega arith))
  where
    go : (d : ℕ) → (d ≡ 0) ⊎ (d ≡ 1) → (d == 0) ≡ not (d == 1)
    go d (inl p) = rw p
    go d (inr p) = rw p
