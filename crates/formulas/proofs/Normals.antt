-- Smallest clauses in rising order: each operation gives such a list, and two of them that meet the same sets are one.
use Rattle.std.proofs.Common.{◌≡◌, ℕ, zero, suc, ◌+◌, ◌^◌, ◌<◌, ◌≤◌, Bool, true, false, cond, not, ltb, ◌⊎◌, List, [], ◌∷◌, length, get_or, Some, None, sym, refl, ap, ◌∙◌, subst, ap₂, inl, inr, ⊎_elim, arith}
use mathlib.Core.List.Memᴰ
use mathlib.Core.List.{Memᴰ}
use mathlib.Core.Bool.{false≢true}
use lib.Bits.{bit_and, and_self, and_le_r}
use Rattle.std.specs.List.Sorted.{IsStrictlyIncreasing}
use Rattle.std.specs.List.{AllByRecursion, list_any}
use Rattle.std.proofs.ByRecursion.{All-weaker, all_kept_by}
use Rattle.std.proofs.lemmas.Bool.{ltb-true, ltb-false, eqb-true, eq-eqb, both_ways, cases_Bool, cases_lt, and_parts, and_from, not-true, not_from_false}
use Rattle.foundation.specs.Bits.{has, number}
use Rattle.foundation.specs.Sets.{within, hits}
use Rattle.foundation.specs.Laws.Bits.{has-number, has_above, has_ext, number_lt, same_tests}
use Rattle.foundation.specs.Laws.Members.{hits_decides}
use Rattle.foundation.specs.Laws.Sets.{within_decides}
use Rattle.foundation.specs.Laws.Tests.{any_in, in_any, not_all_in, in_not_all}
use Rattle.formulas.specs.Clauses.{SmallestOf}
use Rattle.formulas.specs.Formulas.{meets, Normal, none_within, BelowWidth, outside, placed, offer, offers}
use Rattle.formulas.proofs.Given.{Given, given_bind}

-- ---- rising order

abbrev pub Ordered : List ℕ → Type 0
Ordered [] = Unit {0}
Ordered (K ∷ F) = AllByRecursion (λ L. K < L) F × Ordered F

pub ordered_climbs : (F : List ℕ) → Ordered F → IsStrictlyIncreasing F
ordered_climbs [] o k h = absurd (omega arith)
ordered_climbs (K ∷ []) o k h = absurd (omega arith)
ordered_climbs (K ∷ L ∷ F) o zero h = o.0.0
ordered_climbs (K ∷ L ∷ F) o (suc k) h =
    let e : suc k + 1 ≡ suc (k + 1) = omega arith in
    rw e (ordered_climbs (L ∷ F) o.1 k (omega arith))

pub climbs_ordered : (F : List ℕ) → IsStrictlyIncreasing F → Ordered F
climbs_ordered [] c = tt
climbs_ordered (K ∷ F) c =
    let rest = climbs_ordered F (λ k h. let e : suc k + 1 ≡ suc (k + 1) = omega arith in let l : suc k + 1 < suc (length F) = omega arith in rw e at (c (suc k) l)) in
    (above F (c 0) rest, rest)
  where
    above : (F : List ℕ) → (0 + 1 < length (K ∷ F) → K < get_or (K ∷ F) (0 + 1) 0) → Ordered F → AllByRecursion (λ L. K < L) F
    above [] h o = tt
    above (L ∷ F) h o = let l : K < L = h (omega arith) in (l, All-weaker (λ y. L < y) (λ y. K < y) (λ y q. omega arith) F o.0)

-- ---- containment

pub within_self : (K : ℕ) → within K K ≡ true
within_self K = eq-eqb (bit_and K K) K (and_self K)

pub within_trans : (a b c : ℕ) → within a b ≡ true → within b c ≡ true → within a c ≡ true
within_trans a b c p q = (within_decides a c).1 (λ k h. (within_decides b c).0 q k ((within_decides a b).0 p k h))

pub within_antisym : (a b : ℕ) → within a b ≡ true → within b a ≡ true → a ≡ b
within_antisym a b p q = has_ext a b (λ k. same_tests (has a k) (has b k) ((within_decides a b).0 p k) ((within_decides b a).0 q k))

pub within_le : (K L : ℕ) → within K L ≡ true → K ≤ L
within_le K L e = omega (arith, eqb-true (bit_and K L) K e, and_le_r K L)

-- ---- as a test

All-in : (P : ℕ → Type 0) {x : ℕ} {xs : List ℕ} → AllByRecursion P xs → Memᴰ x xs → P x
All-in P a (Memᴰ.head e) = subst P (sym e) a.0
All-in P a (Memᴰ.tail m) = All-in P a.1 m

pub normal_test : (F : List ℕ) → Normal F → none_within F ≡ true
normal_test F n = go F (climbs_ordered F n.rising) n.apart
  where
    go : (F : List ℕ) → Ordered F → ((K L : ℕ) → Memᴰ K F → Memᴰ L F → within K L ≡ true → K ≡ L) → none_within F ≡ true
    go [] o a = refl
    go (K ∷ F) o a = and_from (not (list_any (within K) F)) (none_within F) (not_from_false (list_any (within K) F) new) (go F o.1 (λ L M l m. a L M (Memᴰ.tail l) (Memᴰ.tail m)))
      where
        new : list_any (within K) F ≡ false
        new = ⊎_elim
            (λ e. let r = any_in (within K) F e in absurd (omega (arith, a K r.0 (Memᴰ.head refl) (Memᴰ.tail r.1) r.2, All-in (λ L. K < L) o.0 r.1)))
            (λ e. e)
            (cases_Bool (list_any (within K) F))

pub test_normal : (F : List ℕ) → IsStrictlyIncreasing F → none_within F ≡ true → Normal F
test_normal F c t = record { rising = c; apart = λ K L k l e. go F (climbs_ordered F c) t K L k l e }
  where
    go : (F : List ℕ) → Ordered F → none_within F ≡ true → (K L : ℕ) → Memᴰ K F → Memᴰ L F → within K L ≡ true → K ≡ L
    go [] o t K L k l e = elim k [ ]
    go (M ∷ F) o t K L (Memᴰ.head p) (Memᴰ.head q) e = p ∙ sym q
    go (M ∷ F) o t K L (Memᴰ.head p) (Memᴰ.tail l) e =
        absurd (both_ways (list_any (within M) F) (not-true (list_any (within M) F) (and_parts (not (list_any (within M) F)) (none_within F) t).0) (in_any (within M) l (ap (λ x. within x L) (sym p) ∙ e)))
    go (M ∷ F) o t K L (Memᴰ.tail k) (Memᴰ.head q) e = absurd (omega (arith, All-in (λ y. M < y) o.0 k, within_le K L e))
    go (M ∷ F) o t K L (Memᴰ.tail k) (Memᴰ.tail l) e = go F o.1 (and_parts (not (list_any (within M) F)) (none_within F) t).1 K L k l e

-- ---- an offer keeps the form

outside_in : (C : ℕ) (F : List ℕ) (K : ℕ) → Memᴰ K (outside C F) → Memᴰ K F × (within C K ≡ false)
outside_in C [] K m = elim m [ ]
outside_in C (L ∷ F) K m = go (within C L) refl m (outside_in C F K)
  where
    go : (b : Bool) → within C L ≡ b → Memᴰ K (cond (not b) (L ∷ outside C F) (outside C F)) → (Memᴰ K (outside C F) → Memᴰ K F × (within C K ≡ false))
        → Memᴰ K (L ∷ F) × (within C K ≡ false)
    go true e m ih = let r = ih m in (Memᴰ.tail r.0, r.1)
    go false e (Memᴰ.head q) ih = (Memᴰ.head q, ap (within C) q ∙ e)
    go false e (Memᴰ.tail m) ih = let r = ih m in (Memᴰ.tail r.0, r.1)

outside_rising : (C : ℕ) (F : List ℕ) → Ordered F → Ordered (outside C F)
outside_rising C [] r = tt
outside_rising C (L ∷ F) r = go (within C L) (outside_rising C F r.1)
  where
    go : (b : Bool) → Ordered (outside C F) → Ordered (cond (not b) (L ∷ outside C F) (outside C F))
    go true ih = ih
    go false ih = (all_kept_by (λ K. not (within C K)) (λ y. L < y) F r.0, ih)

placed_in : (C : ℕ) (F : List ℕ) (K : ℕ) → Memᴰ K (placed C F) → (K ≡ C) ⊎ Memᴰ K F
placed_in C [] K m = Memᴰ.cases_cons m
placed_in C (L ∷ F) K m = go (ltb C L) m (placed_in C F K)
  where
    up : (K ≡ C) ⊎ Memᴰ K F → (K ≡ C) ⊎ Memᴰ K (L ∷ F)
    up (inl e) = inl e
    up (inr m) = inr (Memᴰ.tail m)

    go : (b : Bool) → Memᴰ K (cond b (C ∷ L ∷ F) (L ∷ placed C F)) → (Memᴰ K (placed C F) → (K ≡ C) ⊎ Memᴰ K F) → (K ≡ C) ⊎ Memᴰ K (L ∷ F)
    go true m ih = Memᴰ.cases_cons m
    go false (Memᴰ.head q) ih = inr (Memᴰ.head q)
    go false (Memᴰ.tail m) ih = up (ih m)

pub placed-all : (P : ℕ → Type 0) (C : ℕ) (F : List ℕ) → P C → AllByRecursion P F → AllByRecursion P (placed C F)
placed-all P C [] p a = (p, tt)
placed-all P C (L ∷ F) p a = go (ltb C L) (placed-all P C F p a.1)
  where
    go : (b : Bool) → AllByRecursion P (placed C F) → AllByRecursion P (cond b (C ∷ L ∷ F) (L ∷ placed C F))
    go true ih = (p, (a.0, a.1))
    go false ih = (a.0, ih)

placed_rising : (C : ℕ) (F : List ℕ) → Ordered F → ((K : ℕ) → Memᴰ K F → K ≡ C → ⊥) → Ordered (placed C F)
placed_rising C [] r new = (tt, tt)
placed_rising C (L ∷ F) r new = go (ltb C L) refl (placed_rising C F r.1 (λ K m. new K (Memᴰ.tail m)))
  where
    go : (b : Bool) → ltb C L ≡ b → Ordered (placed C F) → Ordered (cond b (C ∷ L ∷ F) (L ∷ placed C F))
    go true e ih = let h : C < L = ltb-true C L e in ((h, All-weaker (λ y. L < y) (λ y. C < y) (λ y q. omega arith) F r.0), r)
    go false e ih = (placed-all (λ y. L < y) C F (omega (arith, ltb-false C L e, new L (Memᴰ.head refl))) r.0, ih)

module _ (C : ℕ) (F : List ℕ) (n : Normal F) (new : list_any (λ K. within K C) F ≡ false) where
  none : (K : ℕ) → Memᴰ K F → within K C ≡ true → ⊥
  none K m s = both_ways (list_any (λ K. within K C) F) new (in_any (λ K. within K C) m s)

  pick : (K L : ℕ) → (K ≡ C) ⊎ Memᴰ K (outside C F) → (L ≡ C) ⊎ Memᴰ L (outside C F) → within K L ≡ true → K ≡ L
  pick K L (inl p) (inl q) s = p ∙ sym q
  pick K L (inl p) (inr m) s = absurd (both_ways (within C L) (outside_in C F L m).1 (rw p at s))
  pick K L (inr m) (inl q) s = absurd (none K (outside_in C F K m).0 (rw q at s))
  pick K L (inr m) (inr k) s = n.apart K L (outside_in C F K m).0 (outside_in C F L k).0 s

  pub entered_normal : Normal (placed C (outside C F))
  entered_normal = record {
    rising = ordered_climbs (placed C (outside C F))
        (placed_rising C (outside C F) (outside_rising C F (climbs_ordered F n.rising)) (λ K m q. both_ways (within C K) (outside_in C F K m).1 (rw q (within_self C))));
    apart = λ K L mk ml s. pick K L (placed_in C (outside C F) K mk) (placed_in C (outside C F) L ml) s;
  }

-- what holds of each clause and of the one that enters
module _ (limit : ℕ) where
  pub offer_normal : (C : ℕ) (F : List ℕ) → Normal F → Given (offer limit C F) Normal
  unfolding offer
  offer_normal C F n = go (list_any (λ K. within K C) F) refl (ltb (length (outside C F)) limit)
    where
      go : (b : Bool) → list_any (λ K. within K C) F ≡ b → (d : Bool) → Given (cond b (Some F) (cond d (Some (placed C (outside C F))) None)) Normal
      go true e d = n
      go false e true = entered_normal C F n e
      go false e false = tt

  pub offer_all_lem : (P : ℕ → Type 0) (C : ℕ) (F : List ℕ) → P C → AllByRecursion P F → Given (offer limit C F) (AllByRecursion P)
  unfolding offer
  offer_all_lem P C F p a = go (list_any (λ K. within K C) F) (ltb (length (outside C F)) limit)
    where
      go : (b d : Bool) → Given (cond b (Some F) (cond d (Some (placed C (outside C F))) None)) (AllByRecursion P)
      go true d = a
      go false true = placed-all P C (outside C F) p (all_kept_by (λ K. not (within C K)) P F a)
      go false false = tt

  pub offers_normal : (F Cs : List ℕ) → Normal F → Given (offers limit F Cs) Normal
  offers_normal F [] n = n
  offers_normal F (C ∷ Cs) n = given_bind (offer limit C F) (λ R. offers limit R Cs) Normal Normal (offer_normal C F n) (λ R r. offers_normal R Cs r)

  pub offers_all : (P : ℕ → Type 0) (F Cs : List ℕ) → AllByRecursion P F → AllByRecursion P Cs → Given (offers limit F Cs) (AllByRecursion P)
  offers_all P F [] a b = a
  offers_all P F (C ∷ Cs) a b = given_bind (offer limit C F) (λ R. offers limit R Cs) (AllByRecursion P) (AllByRecursion P) (offer_all_lem P C F b.0 a) (λ R r. offers_all P R Cs r b.1)

pub nil_normal : Normal []
nil_normal = record { rising = ordered_climbs [] tt; apart = λ K L m k s. elim m [ ] }

pub one_normal : (C : ℕ) → Normal (C ∷ [])
one_normal C = record { rising = ordered_climbs (C ∷ []) (tt, tt); apart = λ K L m k s. Memᴰ.eq_of_singleton m ∙ sym (Memᴰ.eq_of_singleton k) }

-- ---- what is held are the smallest clauses

in_outside : (C : ℕ) (F : List ℕ) (K : ℕ) → Memᴰ K F → within C K ≡ false → Memᴰ K (outside C F)
in_outside C [] K m n = elim m [ ]
in_outside C (L ∷ F) K m n = go (within C L) refl m (λ k. in_outside C F K k n)
  where
    go : (b : Bool) → within C L ≡ b → Memᴰ K (L ∷ F) → (Memᴰ K F → Memᴰ K (outside C F)) → Memᴰ K (cond (not b) (L ∷ outside C F) (outside C F))
    go true e (Memᴰ.head q) ih = absurd (both_ways (within C K) n (ap (within C) q ∙ e))
    go true e (Memᴰ.tail k) ih = ih k
    go false e (Memᴰ.head q) ih = Memᴰ.head q
    go false e (Memᴰ.tail k) ih = Memᴰ.tail (ih k)

in_placed : (C : ℕ) (F : List ℕ) (K : ℕ) → (K ≡ C) ⊎ Memᴰ K F → Memᴰ K (placed C F)
in_placed C [] K (inl e) = Memᴰ.head e
in_placed C [] K (inr m) = elim m [ ]
in_placed C (L ∷ F) K o = go (ltb C L) o (in_placed C F K)
  where
    go : (b : Bool) → (K ≡ C) ⊎ Memᴰ K (L ∷ F) → ((K ≡ C) ⊎ Memᴰ K F → Memᴰ K (placed C F)) → Memᴰ K (cond b (C ∷ L ∷ F) (L ∷ placed C F))
    go true (inl e) ih = Memᴰ.head e
    go true (inr m) ih = Memᴰ.tail m
    go false (inl e) ih = Memᴰ.tail (ih (inl e))
    go false (inr (Memᴰ.head q)) ih = Memᴰ.head q
    go false (inr (Memᴰ.tail m)) ih = Memᴰ.tail (ih (inr m))

pub held_smallest : (C : ℕ) (F : List ℕ) → Normal F → list_any (λ K. within K C) F ≡ true → SmallestOf F C F
held_smallest C F n h K = (
  λ m. (inl m, λ L o e. least m L o e),
  λ p. back p.0 p.1,
)
  where
    w : (L : ℕ) × Memᴰ L F × (within L C ≡ true)
    w = any_in (λ K. within K C) F h

    least : Memᴰ K F → (L : ℕ) → Memᴰ L F ⊎ (L ≡ C) → within L K ≡ true → L ≡ K
    least m L (inl l) e = n.apart L K l m e
    least m L (inr q) e =
        let ck : within C K ≡ true = ap (λ x. within x K) (sym q) ∙ e in
        let wk : w.0 ≡ K = n.apart w.0 K w.1 m (within_trans w.0 C K w.2 ck) in
        q ∙ within_antisym C K ck (ap (λ x. within x C) (sym wk) ∙ w.2)

    back : Memᴰ K F ⊎ (K ≡ C) → ((L : ℕ) → Memᴰ L F ⊎ (L ≡ C) → within L K ≡ true → L ≡ K) → Memᴰ K F
    back (inl m) s = m
    back (inr q) s = Memᴰ.cast (sym (s w.0 (inl w.1) (ap (within w.0) q ∙ w.2))) w.1

pub entered_smallest : (C : ℕ) (F : List ℕ) → Normal F → list_any (λ K. within K C) F ≡ false → SmallestOf F C (placed C (outside C F))
entered_smallest C F n new K = (
  λ m. forth (placed_in C (outside C F) K m),
  λ p. back p.0 p.1 (cases_Bool (within C K)),
)
  where
    none_in : (L : ℕ) → Memᴰ L F → within L C ≡ true → ⊥
    none_in L m s = both_ways (list_any (λ K. within K C) F) new (in_any (λ K. within K C) m s)

    forth : (K ≡ C) ⊎ Memᴰ K (outside C F) → (Memᴰ K F ⊎ (K ≡ C)) × ((L : ℕ) → Memᴰ L F ⊎ (L ≡ C) → within L K ≡ true → L ≡ K)
    forth (inl q) = (inr q, λ L o e. least L o e)
      where
        least : (L : ℕ) → Memᴰ L F ⊎ (L ≡ C) → within L K ≡ true → L ≡ K
        least L (inl l) e = absurd (none_in L l (ap (within L) (sym q) ∙ e))
        least L (inr r) e = r ∙ sym q
    forth (inr m) = let o = outside_in C F K m in (inl o.0, λ L p e. least o L p e)
      where
        least : Memᴰ K F × (within C K ≡ false) → (L : ℕ) → Memᴰ L F ⊎ (L ≡ C) → within L K ≡ true → L ≡ K
        least o L (inl l) e = n.apart L K l o.0 e
        least o L (inr r) e = absurd (both_ways (within C K) o.1 (ap (λ x. within x K) (sym r) ∙ e))

    back : Memᴰ K F ⊎ (K ≡ C) → ((L : ℕ) → Memᴰ L F ⊎ (L ≡ C) → within L K ≡ true → L ≡ K) → (within C K ≡ true) ⊎ (within C K ≡ false) → Memᴰ K (placed C (outside C F))
    back o s (inl e) = in_placed C (outside C F) K (inl (sym (s C (inr refl) e)))
    back (inl m) s (inr e) = in_placed C (outside C F) K (inr (in_outside C F K m e))
    back (inr q) s (inr e) = in_placed C (outside C F) K (inl q)

-- ---- the same sets met, the same formula

-- the numbers below w outside K
abbrev rest_of : ℕ → ℕ → ℕ
rest_of w K = number (λ k. not (has K k)) w

module _ (w : ℕ) where
  rest_misses : (K : ℕ) → hits (has (rest_of w K)) K ≡ false
  rest_misses K = ⊎_elim
      (λ h. let r = (hits_decides (has (rest_of w K)) K).0 h in absurd (go r.0 r.1 r.2 (cases_lt r.0 w)))
      (λ h. h)
      (cases_Bool (hits (has (rest_of w K)) K))
    where
      go : (k : ℕ) → has K k ≡ true → has (rest_of w K) k ≡ true → (k < w) ⊎ (w ≤ k) → ⊥
      go k h o (inl l) = false≢true (ap not (sym h) ∙ sym (has-number (λ k. not (has K k)) w k l) ∙ o)
      go k h o (inr l) = false≢true (sym (has_above w (rest_of w K) k (number_lt (λ k. not (has K k)) w) l) ∙ o)

  -- a set that does not reach outside K lies within it
  missed_within : (L K : ℕ) → L < 2 ^ w → hits (has (rest_of w K)) L ≡ false → within L K ≡ true
  missed_within L K b h = (within_decides L K).1 (λ k l. go k l (cases_lt k w) (cases_Bool (has K k)))
    where
      go : (k : ℕ) → has L k ≡ true → (k < w) ⊎ (w ≤ k) → (has K k ≡ true) ⊎ (has K k ≡ false) → has K k ≡ true
      go k l c (inl e) = e
      go k l (inl c) (inr e) = absurd (false≢true (sym h ∙ (hits_decides (has (rest_of w K)) L).1 (k, l, has-number (λ k. not (has K k)) w k c ∙ ap not e)))
      go k l (inr c) (inr e) = absurd (false≢true (sym (has_above w L k b c) ∙ l))

  -- each clause of the one is in the other
  clauses_in : (F G : List ℕ) → Normal F → BelowWidth w F → BelowWidth w G → ((S : ℕ) → S < 2 ^ w → meets (has S) F ≡ meets (has S) G) → (K : ℕ) → Memᴰ K F → Memᴰ K G
  clauses_in F G nf bf bg same K m =
      let small : (K : ℕ) → rest_of w K < 2 ^ w = λ K. number_lt (λ k. not (has K k)) w in
      let l = not_all_in (hits (has (rest_of w K))) G (sym (same (rest_of w K) (small K)) ∙ in_not_all (hits (has (rest_of w K))) m (rest_misses K)) in
      let L = l.0 in
      let k = not_all_in (hits (has (rest_of w L))) F (same (rest_of w L) (small L) ∙ in_not_all (hits (has (rest_of w L))) l.1 (rest_misses L)) in
      let lk = missed_within L K (All-in (λ K. K < 2 ^ w) bg l.1) l.2 in
      let kl = missed_within k.0 L (All-in (λ K. K < 2 ^ w) bf k.1) k.2 in
      let e : k.0 ≡ K = nf.apart k.0 K k.1 m (within_trans k.0 L K kl lk) in
      Memᴰ.cast (within_antisym K L (rw e at kl) lk) l.1

  same_rising : (F G : List ℕ) → Ordered F → Ordered G → ((z : ℕ) → Memᴰ z F → Memᴰ z G) → ((z : ℕ) → Memᴰ z G → Memᴰ z F) → F ≡ G
  same_rising [] [] rf rg f b = refl
  same_rising [] (y ∷ G) rf rg f b = elim (b y (Memᴰ.head refl)) [ ]
  same_rising (x ∷ F) [] rf rg f b = elim (f x (Memᴰ.head refl)) [ ]
  same_rising (x ∷ F) (y ∷ G) rf rg f b =
      let e : x ≡ y = heads (Memᴰ.cases_cons (f x (Memᴰ.head refl))) (Memᴰ.cases_cons (b y (Memᴰ.head refl))) in
      ap₂ ◌∷◌ e (same_rising F G rf.1 rg.1
      (λ z m. tails F G x y e rf.0 z m (Memᴰ.cases_cons (f z (Memᴰ.tail m))))
      (λ z m. tails G F y x (sym e) rg.0 z m (Memᴰ.cases_cons (b z (Memᴰ.tail m)))))
    where
      heads : (x ≡ y) ⊎ Memᴰ x G → (y ≡ x) ⊎ Memᴰ y F → x ≡ y
      heads (inl e) q = e
      heads (inr m) (inl e) = sym e
      heads (inr m) (inr k) = absurd (omega (arith, All-in (λ z. y < z) rg.0 m, All-in (λ z. x < z) rf.0 k))

      tails : (F G : List ℕ) (x y : ℕ) → x ≡ y → AllByRecursion (λ z. x < z) F → (z : ℕ) → Memᴰ z F → (z ≡ y) ⊎ Memᴰ z G → Memᴰ z G
      tails F G x y e a z m (inl q) = absurd (omega (arith, All-in (λ z. x < z) a m))
      tails F G x y e a z m (inr k) = k

  pub same_formula : (F G : List ℕ) → Normal F → Normal G → BelowWidth w F → BelowWidth w G → ((S : ℕ) → S < 2 ^ w → meets (has S) F ≡ meets (has S) G) → F ≡ G
  same_formula F G nf ng bf bg same =
      same_rising F G (climbs_ordered F nf.rising) (climbs_ordered G ng.rising) (clauses_in F G nf bf bg same) (clauses_in G F ng bg bf (λ S l. sym (same S l)))
