-- Clauses offered one after the other.
use Rattle.std.proofs.Common.{◌≡◌, ℕ, ◌+◌, ◌<◌, ◌≤◌, Bool, true, false, cond, ltb, List, [], ◌∷◌, ◌++◌, map, length, get_or, drop, is_err, OnOk, OnErr, Some, None, Ok, Err, Option, Result, sym, refl, ap, ◌∙◌, arith}
use mathlib.Core.Bool.{false≢true}
use lib.Bits.{bit_or}
use Rattle.std.proofs.lemmas.List.{length-map, length-append, drop_more}
use Rattle.foundation.specs.Sets.{within}
use Rattle.std.specs.List.{list_any}
use Rattle.formulas.specs.declared.fault.Overflow.{Overflow}
use Rattle.formulas.specs.Clauses.{Offered, OfferedAll}
use Rattle.formulas.specs.Steps.{bind}
use Rattle.formulas.specs.Formulas.{outside, placed, offer, offers, unions}
use Rattle.formulas.proofs.Given.{Given, given_bind}

-- ---- over the code's lists: the element that is read stands in front of those that are left

pub drop_item : {X : Type 0} (xs : List X) (i : ℕ) (x : X) → i < length xs → x ≡ get_or xs i x → drop i xs ≡ x ∷ drop (i + 1) xs
drop_item xs i x h is = drop_more xs i x h ∙ ap (λ y. y ∷ drop (i + 1) xs) (sym is)

module _ (limit : ℕ) where
  pub offers_append : (F xs ys : List ℕ) → offers limit F (xs ++ ys) ≡ bind (offers limit F xs) (λ R. offers limit R ys)
  offers_append F [] ys = refl
  offers_append F (C ∷ xs) ys = go (offer limit C F) (λ R. offers_append R xs ys)
    where
      go : (o : Option (List ℕ)) → ((R : List ℕ) → offers limit R (xs ++ ys) ≡ bind (offers limit R xs) (λ R. offers limit R ys)) → bind o (λ R. offers limit R (xs ++ ys)) ≡ bind (bind o (λ R. offers limit R xs)) (λ R. offers limit R ys)
      go None ih = refl
      go (Some R) ih = ih R

  pub offers_from : (F left more : List ℕ) (K : ℕ) (o : Option (List ℕ)) → left ≡ K ∷ more → offer limit K F ≡ o → offers limit F left ≡ bind o (λ R. offers limit R more)
  offers_from F left more K o front e = ap (offers limit F) front ∙ ap (λ o. bind o (λ R. offers limit R more)) e

  pub offers_end : (F left : List ℕ) → left ≡ [] → offers limit F left ≡ Some F
  offers_end F left none = ap (offers limit F) none

  -- the unions of K with each of a list
  pub row_from : (F : List ℕ) (K : ℕ) (left more : List ℕ) (L : ℕ) (o : Option (List ℕ)) → left ≡ L ∷ more → offer limit (bit_or K L) F ≡ o
      → offers limit F (map (bit_or K) left) ≡ bind o (λ R. offers limit R (map (bit_or K) more))
  row_from F K left more L o front e = offers_from F (map (bit_or K) left) (map (bit_or K) more) (bit_or K L) o (ap (map (bit_or K)) front) e

  pub row_end : (F : List ℕ) (K : ℕ) (left : List ℕ) → left ≡ [] → offers limit F (map (bit_or K) left) ≡ Some F
  row_end F K left none = offers_end F (map (bit_or K) left) (ap (map (bit_or K)) none)

  pub unions_from : (F left more G : List ℕ) (K : ℕ) (o : Option (List ℕ)) → left ≡ K ∷ more → offers limit F (map (bit_or K) G) ≡ o
      → offers limit F (unions left G) ≡ bind o (λ R. offers limit R (unions more G))
  unions_from F left more G K o front e =
      ap (λ l. offers limit F (unions l G)) front
      ∙ offers_append F (map (bit_or K) G) (unions more G)
      ∙ ap (λ o. bind o (λ R. offers limit R (unions more G))) e

  pub unions_end : (F left G : List ℕ) → left ≡ [] → offers limit F (unions left G) ≡ Some F
  unions_end F left G none = ap (λ l. offers limit F (unions l G)) none

-- ---- what was offered stays: a list that has a clause, or is offered one, has one after

pub offer_some : (limit C : ℕ) (F : List ℕ) → Given (offer limit C F) (λ R. 1 ≤ length R)
unfolding offer
offer_some limit C F = go F (list_any (λ K. within K C) F) refl (ltb (length (outside C F)) limit)
  where
    one : (F : List ℕ) → 1 ≤ length (placed C F)
    one [] = omega arith
    one (K ∷ F) = pick (ltb C K)
      where
        pick : (b : Bool) → 1 ≤ length (cond b (C ∷ K ∷ F) (K ∷ placed C F))
        pick true = omega arith
        pick false = omega arith

    go : (F : List ℕ) → (b : Bool) → list_any (λ K. within K C) F ≡ b → (d : Bool) → Given (cond b (Some F) (cond d (Some (placed C (outside C F))) None)) (λ R. 1 ≤ length R)
    go [] true e d = absurd (false≢true e)
    go (K ∷ F) true e d = omega arith
    go F false e true = one (outside C F)
    go F false e false = tt

pub offers_some : (limit : ℕ) (F Cs : List ℕ) → 1 ≤ length F + length Cs → Given (offers limit F Cs) (λ R. 1 ≤ length R)
offers_some limit F [] h = omega arith
offers_some limit F (C ∷ Cs) h =
    given_bind (offer limit C F) (λ R. offers limit R Cs) (λ R. 1 ≤ length R) (λ R. 1 ≤ length R) (offer_some limit C F) (λ R r. offers_some limit R Cs (omega arith))

pub unions-some : (F G : List ℕ) → 1 ≤ length F → 1 ≤ length G → 1 ≤ length (unions F G)
unions-some [] G f g = absurd (omega arith)
unions-some (K ∷ F) G f g = omega (arith, length-append (map (bit_or K) G) (unions F G), length-map G (bit_or K))

-- ---- answers of the code that are errors

pub on_err : {A E P : Type 0} (r : Result A E) → P → OnErr r P
on_err (Ok a) p = tt
on_err (Err e) p = p

pub never_ok : {A E : Type 0} (r : Result A E) (P : Type 0) → is_err r ≡ true → OnOk r P
never_ok (Ok a) P h = absurd (false≢true h)
never_ok (Err e) P h = tt

pub offer_err : (C : ℕ) (F : List ℕ) (r : Result (Unit {0}) Overflow) → is_err r ≡ true → offer 64 C F ≡ None → Offered C F F r
offer_err C F (Ok u) e h = absurd (false≢true e)
offer_err C F (Err x) e h = (h, refl)

pub offered_err : (F Cs G : List ℕ) (r : Result (Unit {0}) Overflow) → is_err r ≡ true → offers 64 F Cs ≡ None → OfferedAll F Cs G r
offered_err F Cs G (Ok u) e h = absurd (false≢true e)
offered_err F Cs G (Err x) e h = h
