-- The boxes of two lists joined, row by row.
use Rattle.std.proofs.Common.{◌≡◌, ℕ, zero, suc, ◌+◌, ◌*◌, ◌/◌, ◌%◌, ◌^◌, ◌<◌, ◌≤◌, Bool, true, false, if◌then◌else◌, ◌&&◌, ◌||◌, List, [], ◌∷◌, ◌++◌, length, get_or, Option, sym, refl, ap, ◌∙◌, subst, ap₂, ⊎_elim, zero-add, arith}
use lib.Bits.{bit_and, bit_or, mask_lt, or_shifted_r}
use denote.Param.Members.{Mut}
use Rattle.std.specs.Fn.{Called}
use Rattle.std.specs.Iterator.{Drains}
use Rattle.std.specs.List.{FoldsTo, list_any, range_with_len}
use Rattle.std.proofs.lemmas.Fn.{fold_over}
use Rattle.std.proofs.lemmas.Iterator.{YieldsList}
use Rattle.std.proofs.Math.Bool.{or-false}
use Rattle.std.proofs.lemmas.Nat.{and_mask, or_lt, shl_whole}
use Rattle.std.proofs.lemmas.Bool.{false≢true, or_cases}
use Rattle.std.proofs.lemmas.List.{get_or_append_left, get_or_push, length_push}
use Rattle.std.proofs.lemmas.List.Folds.{list_any-append, list_any_at}
use Rattle.std.proofs.lemmas.List.FromFn.{get_or-range_with_len, length-range_with_len}
use Rattle.foundation.specs.Bits.{has, some_below, number}
use Rattle.rules.specs.Boxes.{pairs, through, composed}
use Rattle.foundation.specs.Laws.Bits.{same_tests, some_is, has-zero, has-or, has_shr, has_mod, number_cat, number_ext, number-has, number_lt}

-- what a fold over a known list keeps: `fold_over` of std, with the call first, so that the rest is known where the closures are read
pub fold_on : {S A B F C : Type 0} {steps : S → Option A → S → Type 0} {v : A → B} (g : Mut F (C × (A × Unit {0})) C) (f : F) {s : S} (all : List B) (a r : C) (J : List B → C → Type 0)
    → (xs : List A) × (f' : F) × Drains steps s xs × FoldsTo {P = F × C} (λ p x q. Called g p.0 (p.1, (x, tt)) q.1 q.0) (f, a) xs (f', r) → YieldsList steps v s all
    → ((ys : List B) (c : C) (x : A) (d : C) (h : F) → J ys c → Called g f (c, (x, tt)) d h → J (ys ++ v x ∷ []) d × (h ≡ f)) → J [] a → J all r
fold_on {steps = steps} {v = v} g f {s = s} all a r J ran road step start = fold_over steps v g J f step s all a r road.runs start ran

-- ---- a row: the states that two boxes lead to from one

-- the states that b leads to from those of the states rs to which a leads from p
abbrev pub Row : ℕ → ℕ → ℕ → List ℕ → ℕ → Type 0
Row a b p rs states = (states < 2 ^ 8) × ((q : ℕ) → q < 8 → has states q ≡ list_any (λ r. pairs a p r && pairs b r q) rs)

has_byte : (x q : ℕ) → q < 8 → has (bit_and x 255) q ≡ has x q
has_byte x q h = ap (λ y. has y q) (and_mask x 8) ∙ has_mod x 8 q h

pub row-none : (a b p : ℕ) → Row a b p [] 0
row-none a b p = (omega arith, λ q h. has-zero q)

-- what the turn at the state r makes of the states
abbrev pub stepped : ℕ → Bool → ℕ → ℕ → ℕ
stepped b leads states r = if leads then bit_or states (bit_and (b / 2 ^ (8 * r)) 255) else states

pub row_more : (a b p : ℕ) (rs : List ℕ) (states r : ℕ) → Row a b p rs states → Row a b p (rs ++ r ∷ []) (stepped b (pairs a p r) states r)
row_more a b p rs states r (small, bits) = go (pairs a p r) refl
  where
    f : ℕ → ℕ → Bool
    f q s = pairs a p s && pairs b s q

    last : (q : ℕ) (t : Bool) → pairs a p r ≡ t → (t && pairs b r q) ≡ list_any (f q) (r ∷ [])
    last q t e = sym (or-false (t && pairs b r q)) ∙ ap (λ u. (u && pairs b r q) || false) (sym e)

    go : (t : Bool) → pairs a p r ≡ t → Row a b p (rs ++ r ∷ []) (stepped b t states r)
    go true e = (
      or_lt 8 states (bit_and (b / 2 ^ (8 * r)) 255) small (mask_lt (b / 2 ^ (8 * r)) 8),
      (λ q h.
          has-or states (bit_and (b / 2 ^ (8 * r)) 255) q
          ∙ ap₂ ◌||◌ (bits q h) (has_byte (b / 2 ^ (8 * r)) q h ∙ has_shr b (8 * r) q ∙ last q true e)
          ∙ sym (list_any-append (f q) rs (r ∷ []))),
    )
    go false e = (
      small,
      (λ q h. bits q h ∙ sym (or-false (list_any (f q) rs)) ∙ ap (λ u. list_any (f q) rs || u) (last q false e) ∙ sym (list_any-append (f q) rs (r ∷ []))),
    )

any_range : (f : ℕ → Bool) (a n : ℕ) → list_any f (range_with_len a n) ≡ true → (k : ℕ) × (k < a + n) × (f k ≡ true)
any_range f a zero e = absurd (false≢true e)
any_range f a (suc n) e =
    ⊎_elim (λ h. (a, omega arith, h)) (λ h. let w = any_range f (a + 1) n h in (w.0, omega (arith, w.1), w.2)) (or_cases (f a) (list_any f (range_with_len (a + 1) n)) e)

any_below : (f : ℕ → Bool) (n : ℕ) → list_any f (range_with_len 0 n) ≡ some_below n f
any_below f n = same_tests _ _ (λ e. let w = any_range f 0 n e in (some_is n f).1 (w.0, omega (arith, w.1), w.2))
    (λ e. let w = (some_is n f).0 e in
    list_any_at f (range_with_len 0 n) w.0 0 (omega (arith, w.1, length-range_with_len 0 n)) (ap f (get_or-range_with_len 0 n w.0 0 w.1 ∙ zero-add w.0) ∙ w.2))

pub row_all : (a b p states : ℕ) → Row a b p (range_with_len 0 8) states → (q : ℕ) → q < 8 → has states q ≡ through a b p q
row_all a b p states row q h = row.1 q h ∙ any_below (λ r. pairs a p r && pairs b r q) 8

-- ---- the rows one after another

pub rows_more : (a b p joined row : ℕ) → p < 8 → joined ≡ number (λ k. through a b (k / 8) (k % 8)) (8 * p) → row < 2 ^ 8 → ((q : ℕ) → q < 8 → has row q ≡ through a b p q)
    → bit_or joined ((row * 2 ^ (8 * p)) % 2 ^ 64) ≡ number (λ k. through a b (k / 8) (k % 8)) (8 * (p + 1))
rows_more a b p joined row h e small bits =
    let f : ℕ → Bool = λ k. through a b (k / 8) (k % 8) in
    let lt : joined < 2 ^ (8 * p) = subst (λ x. x < 2 ^ (8 * p)) (sym e) (number_lt f (8 * p)) in
    let each : row ≡ number (λ j. f (8 * p + j)) 8 = number-has 8 row small ∙ number_ext (has row) (λ j. f (8 * p + j)) 8
    (λ j l. bits j l ∙ ap (λ x. through a b x j) (let u : p ≡ (8 * p + j) / 8 = omega arith in u) ∙ ap (λ x. through a b ((8 * p + j) / 8) x) (let u : j ≡ (8 * p + j) % 8 = omega arith in u)) in
    ap (bit_or joined) (shl_whole row 8 (8 * p) 64 small (omega arith))
    ∙ or_shifted_r row (8 * p) joined lt
    ∙ ap (λ x. x * 2 ^ (8 * p) + joined) each
    ∙ ap (λ x. number (λ j. f (8 * p + j)) 8 * 2 ^ (8 * p) + x) e
    ∙ sym (number_cat f (8 * p) 8)
    ∙ ap (number f) (let u : 8 * p + 8 ≡ 8 * (p + 1) = omega arith in u)

-- the rows of these states stand in the box that was joined so far, where the states are the first ones in order
abbrev pub So : ℕ → ℕ → List ℕ → ℕ → Type 0
So a b ps joined = ((i : ℕ) → i < length ps → get_or ps i 0 ≡ i) → length ps ≤ 8 → joined ≡ number (λ k. through a b (k / 8) (k % 8)) (8 * length ps)

-- what the turn at the state p makes of the box
abbrev pub Turn : ℕ → ℕ → ℕ → ℕ → ℕ → Type 0
Turn a b joined p more = p < 8 → (row : ℕ) × (row < 2 ^ 8) × ((q : ℕ) → q < 8 → has row q ≡ through a b p q) × (more ≡ bit_or joined ((row * 2 ^ (8 * p)) % 2 ^ 64))

pub so_more : (a b : ℕ) (ps : List ℕ) (joined p more : ℕ) → So a b ps joined → Turn a b joined p more → So a b (ps ++ p ∷ []) more
so_more a b ps joined p more so turn each few =
    let f : ℕ → Bool = λ k. through a b (k / 8) (k % 8) in
    let n : length (ps ++ p ∷ []) ≡ length ps + 1 = length_push ps p in
    let at : p ≡ length ps = sym (get_or_push ps p 0 (length ps) refl) ∙ each (length ps) (omega arith) in
    let e : joined ≡ number f (8 * length ps) = so (λ i h. sym (get_or_append_left ps (p ∷ []) 0 i h) ∙ each i (omega arith)) (omega arith) in
    let t = turn (omega arith) in
    t.3 ∙ rows_more a b p joined t.0 (omega arith) (e ∙ ap (λ j. number f (8 * j)) (sym at)) t.1 t.2
    ∙ ap (λ j. number f (8 * j)) (let u : p + 1 ≡ length (ps ++ p ∷ []) = omega arith in u)

pub so_all : (a b joined : ℕ) → So a b (range_with_len 0 8) joined → joined ≡ composed a b
unfolding composed
so_all a b joined so = so (λ i h. get_or-range_with_len 0 8 i 0 h ∙ zero-add i) (omega arith)
