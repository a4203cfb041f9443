-- The joins of a clause's members, and formulas after effects, step by step.
use Rattle.std.proofs.Common.{◌≡◌, ℕ, ◌^◌, ◌<◌, ◌≤◌, Bool, true, false, cond, ◌&&◌, ◌||◌, ltb, List, [], ◌∷◌, map, is_err, IfOk, Some, None, Ok, Err, Option, Result, sym, refl, ap, ◌∙◌, arith}
use mathlib.Core.Bool.{or_assoc, false≢true}
use lib.Bits.{bit_or, or_zero_r}
use Rattle.std.proofs.lemmas.Bool.{cond-true, cond-false, and_parts, ltb-true, lt-ltb, le-ltb}
use Rattle.foundation.specs.Bits.{has}
use Rattle.foundation.specs.Sets.{added, members, gathered}
use Rattle.foundation.specs.Laws.Bits.{has-or, has_ext}
use Rattle.rules.specs.declared.table.EffectTable.{EffectTable}
use Rattle.rules.specs.Lookups.{table_join}
use Rattle.rules.specs.Surveys.{view}
use Rattle.rules.specs.Tables.{Table, join_of}
use Rattle.formulas.specs.declared.fault.Overflow.{Overflow}
use Rattle.formulas.specs.Steps.{bind}
use Rattle.formulas.specs.Formulas.{impossible, offer, offers, joins, joined, both, either, shift, or_after, and_after}
use Rattle.formulas.specs.FormulaViews.{FormulaSeen, found}
use Rattle.formulas.proofs.Monoids.{table_monoid}
use Rattle.formulas.proofs.Offers.{offers_from}

pub bit_or_assoc : (a b c : ℕ) → bit_or (bit_or a b) c ≡ bit_or a (bit_or b c)
bit_or_assoc a b c =
    has_ext (bit_or (bit_or a b) c) (bit_or a (bit_or b c))
    (λ k. has-or (bit_or a b) c k ∙ ap (λ x. x || has c k) (has-or a b k) ∙ or_assoc (has a k) (has b k) (has c k) ∙ sym (has-or a (bit_or b c) k ∙ ap (λ x. has a k || x) (has-or b c k)))

-- ---- the joins of the members that came so far

module _ (t : EffectTable) (e K out b : ℕ) (left more : List ℕ) (front : left ≡ b ∷ more) (inv : bit_or out (gathered (joins (view t) e left)) ≡ joined (view t) e K) where
  abbrev known : Bool
  known = ltb e (view t).count && ltb b (view t).count

  first : joins (view t) e left ≡ cond known (join_of (view t) e b ∷ joins (view t) e more) (joins (view t) e more)
  first = ap (joins (view t) e) front

  pub joins_no : None ≡ table_join (view t) e b → bit_or out (gathered (joins (view t) e more)) ≡ joined (view t) e K
  joins_no none = go known refl
    where
      go : (v : Bool) → known ≡ v → bit_or out (gathered (joins (view t) e more)) ≡ joined (view t) e K
      go true q =
          let f = cond-true known (Some (join_of (view t) e b)) None q in
          let z : ◌≡◌ {A = ℕ} 0 1 = cc in absurd (omega arith)
      go false q =
          ap (λ l. bit_or out (gathered l)) (sym (first ∙ cond-false known (join_of (view t) e b ∷ joins (view t) e more) (joins (view t) e more) q)) ∙ inv

  pub joins_yes : (j new : ℕ) → Some j ≡ table_join (view t) e b → new ≡ added 64 out j → bit_or new (gathered (joins (view t) e more)) ≡ joined (view t) e K
  joins_yes j new some made = go known refl
    where
      go : (v : Bool) → known ≡ v → bit_or new (gathered (joins (view t) e more)) ≡ joined (view t) e K
      go false q =
          let f = cond-false known (Some (join_of (view t) e b)) None q in
          let z : ◌≡◌ {A = ℕ} 0 1 = cc in absurd (omega arith)
      go true q =
          let f = cond-true known (Some (join_of (view t) e b)) None q in
          let ji : j ≡ join_of (view t) e b = cc in
          let ps = and_parts (ltb e (view t).count) (ltb b (view t).count) q in
          let lt : j < 64 = omega (arith, ji, t.few, (table_monoid t).closed e b (ltb-true e (view t).count ps.0) (ltb-true b (view t).count ps.1)) in
          let rest = gathered (joins (view t) e more) in
          ap (λ x. bit_or x rest) (made ∙ cond-true (ltb j 64) (bit_or out (2 ^ j)) out (lt-ltb j 64 lt)) ∙ bit_or_assoc out (2 ^ j) rest
          ∙ ap (λ x. bit_or out (bit_or (2 ^ x) rest)) ji
          ∙ ap (λ l. bit_or out (gathered l)) (sym (first ∙ cond-true known (join_of (view t) e b ∷ joins (view t) e more) (joins (view t) e more) q))
          ∙ inv

pub joins-all : (t : Table) (e K out : ℕ) (left : List ℕ) → left ≡ [] → bit_or out (gathered (joins t e left)) ≡ joined t e K → out ≡ joined t e K
joins-all t e K out left none inv = sym (or_zero_r out) ∙ ap (λ l. bit_or out (gathered (joins t e l))) (sym none) ∙ inv

-- ---- formulas after effects, step by step

module _ (limit : ℕ) (t : Table) (G : List ℕ) where
  pub shift_from : (e : ℕ) (F left more : List ℕ) (K : ℕ) (o : Option (List ℕ)) → left ≡ K ∷ more → offer limit (joined t e K) F ≡ o
      → offers limit F (map (joined t e) left) ≡ bind o (λ R. offers limit R (map (joined t e) more))
  shift_from e F left more K o front q = offers_from limit F (map (joined t e) left) (map (joined t e) more) (joined t e K) o (ap (map (joined t e)) front) q

  module _ (T : List ℕ) (b : ℕ) (left more : List ℕ) (front : left ≡ b ∷ more) where
    on : or_after limit t G T left ≡ cond (ltb b t.count) (bind (shift limit t b G) (λ S. bind (either limit T S) (λ U. or_after limit t G U more))) (or_after limit t G T more)
    on = ap (or_after limit t G T) front

    pub or_absent : t.count ≤ b → or_after limit t G T left ≡ or_after limit t G T more
    or_absent l = on ∙ cond-false (ltb b t.count) _ _ (le-ltb b t.count l)

    module _ (l : b < t.count) where
      pub or_present : (o : Option (List ℕ)) → shift limit t b G ≡ o → or_after limit t G T left ≡ bind o (λ S. bind (either limit T S) (λ U. or_after limit t G U more))
      or_present o s = on ∙ cond-true (ltb b t.count) _ _ (lt-ltb b t.count l) ∙ ap (λ o. bind o (λ S. bind (either limit T S) (λ U. or_after limit t G U more))) s

      pub or_more : (S : List ℕ) → shift limit t b G ≡ Some S → (o : Option (List ℕ)) → either limit T S ≡ o → or_after limit t G T left ≡ bind o (λ U. or_after limit t G U more)
      or_more S s o q = or_present (Some S) s ∙ ap (λ o. bind o (λ U. or_after limit t G U more)) q

  pub or_end : (T left : List ℕ) → left ≡ [] → or_after limit t G T left ≡ Some T
  or_end T left none = ap (or_after limit t G T) none

  module _ (R left more : List ℕ) (K : ℕ) (front : left ≡ K ∷ more) where
    pub and_from : (o : Option (List ℕ)) → or_after limit t G impossible (members K) ≡ o → and_after limit t G R left ≡ bind o (λ T. bind (both limit R T) (λ S. and_after limit t G S more))
    and_from o q = ap (and_after limit t G R) front ∙ ap (λ o. bind o (λ T. bind (both limit R T) (λ S. and_after limit t G S more))) q

    pub and_more : (T : List ℕ) → or_after limit t G impossible (members K) ≡ Some T → (o : Option (List ℕ)) → both limit R T ≡ o → and_after limit t G R left ≡ bind o (λ S. and_after limit t G S more)
    and_more T q o r = and_from (Some T) q ∙ ap (λ o. bind o (λ S. and_after limit t G S more)) r

  pub and_end : (R left : List ℕ) → left ≡ [] → and_after limit t G R left ≡ Some R
  and_end R left none = ap (and_after limit t G R) none

-- ---- answers that are errors

pub err_found : (r : Result FormulaSeen Overflow) → is_err r ≡ true → found r ≡ None
err_found (Ok f) e = absurd (false≢true e)
err_found (Err x) e = refl

pub err_means : (r : Result FormulaSeen Overflow) (P : FormulaSeen → Type 0) → is_err r ≡ true → IfOk r P
err_means (Ok f) P e = absurd (false≢true e)
err_means (Err x) P e = tt
