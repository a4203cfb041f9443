-- Searches for the first of a list that fails a test: by std's words, and what was found.
use Rattle.std.proofs.Common.{◌≡◌, ℕ, zero, suc, ◌+◌, ◌<◌, Bool, true, false, not, cond, ◌&&◌, List, [], ◌∷◌, map, Some, None, Option, refl, ap, ◌∙◌, subst, arith}
use Rattle.std.specs.List.{slice_get, list_all, position}
use Rattle.std.proofs.lemmas.Iterator.Adapters.{position_from-zero}
use Rattle.std.proofs.lemmas.Bool.{and_from, and_parts, cond-true, cond-false}
use Rattle.formulas.specs.Searches.{first_bad}

-- ---- the searches of the code, which are std's

first_bad-map : {X Y : Type 0} (good : Y → Bool) (f : X → Y) (i : ℕ) (xs : List X) → first_bad (λ x. good (f x)) i xs ≡ first_bad good i (map f xs)
first_bad-map good f i [] = refl
first_bad-map good f i (x ∷ xs) = ap (cond (not (good (f x))) (Some i)) (first_bad-map good f (i + 1) xs)

-- the first that fails, of what f makes of the list
pub first_bad_from : {X Y : Type 0} (good : Y → Bool) (f : X → Y) (xs : List X) (r : Option ℕ) → r ≡ position (λ x. not (good (f x))) xs → r ≡ first_bad good 0 (map f xs)
first_bad_from good f xs r e = e ∙ position_from-zero (λ x. not (good (f x))) xs ∙ first_bad-map good f 0 xs

-- ---- what was found

module _ {X : Type 0} (good : X → Bool) where
  pub none_bad : (i : ℕ) (xs : List X) → first_bad good i xs ≡ None → list_all good xs ≡ true
  none_bad i [] e = refl
  none_bad i (x ∷ xs) e = go (good x) refl (none_bad (i + 1) xs) e
    where
      go : (t : Bool) → good x ≡ t → (first_bad good (i + 1) xs ≡ None → list_all good xs ≡ true) → cond (not t) (Some i) (first_bad good (i + 1) xs) ≡ None → (good x && list_all good xs) ≡ true
      go true f below e = and_from (good x) (list_all good xs) f (below e)
      go false f below e = let z : ◌≡◌ {A = ℕ} 0 1 = cc in absurd (omega arith)

  -- one that passes is left behind
  passes_on : (i : ℕ) (x : X) (xs : List X) → good x ≡ true → first_bad good i (x ∷ xs) ≡ first_bad good (i + 1) xs
  passes_on i x xs e = cond-false (not (good x)) (Some i) (first_bad good (i + 1) xs) (ap not e)

  pub none_from : (i : ℕ) (xs : List X) → list_all good xs ≡ true → first_bad good i xs ≡ None
  none_from i [] e = refl
  none_from i (x ∷ xs) e =
      let p = and_parts (good x) (list_all good xs) e in
      passes_on i x xs p.0 ∙ none_from (i + 1) xs p.1

  -- the element at k is the first that fails
  pub record First (xs : List X) (k : ℕ) : Type 0 where
    pub item : X
    pub stands : slice_get xs k ≡ Some item
    pub fails : good item ≡ false
    pub before : (j : ℕ) (y : X) → j < k → slice_get xs j ≡ Some y → good y ≡ true

  first_here : (x : X) (xs : List X) → good x ≡ false → First (x ∷ xs) 0
  first_here x xs f = record { item = x; stands = refl; fails = f; before = λ j y h e. absurd (omega arith) }

  first_later : (x : X) (xs : List X) (k : ℕ) → good x ≡ true → First xs k → First (x ∷ xs) (suc k)
  first_later x xs k f at = record { item = at.item; stands = at.stands; fails = at.fails; before = passes }
    where
      passes : (j : ℕ) (y : X) → j < suc k → slice_get (x ∷ xs) j ≡ Some y → good y ≡ true
      passes zero y h e = let s : y ≡ x = cc in ap good s ∙ f
      passes (suc j) y h e = at.before j y (omega arith) e

  first_from : (i n : ℕ) (xs : List X) → first_bad good i xs ≡ Some n → (k : ℕ) × (n ≡ i + k) × First xs k
  first_from i n [] e = let z : ◌≡◌ {A = ℕ} 0 1 = cc in absurd (omega arith)
  first_from i n (x ∷ xs) e = go (good x) refl (first_from (i + 1) n xs) e
    where
      go : (t : Bool) → good x ≡ t → (first_bad good (i + 1) xs ≡ Some n → (k : ℕ) × (n ≡ i + 1 + k) × First xs k) → cond (not t) (Some i) (first_bad good (i + 1) xs) ≡ Some n
          → (k : ℕ) × (n ≡ i + k) × First (x ∷ xs) k
      go true f below e = let w = below e in (suc w.0, omega (arith, w.1), first_later x xs w.0 f w.2)
      go false f below e = let s : n ≡ i = cc in (0, omega arith, first_here x xs f)

  pub first_is : (n : ℕ) (xs : List X) → first_bad good 0 xs ≡ Some n → First xs n
  first_is n xs e = let w = first_from 0 n xs e in subst (First xs) (let s : w.0 ≡ n = omega (arith, w.1) in s) w.2

  found_from : (i : ℕ) (xs : List X) (k : ℕ) → First xs k → first_bad good i xs ≡ Some (i + k)
  found_from i [] k at = let e : ◌≡◌ {A = Option X} None (Some at.item) = at.stands in let z : ◌≡◌ {A = ℕ} 0 1 = cc in absurd (omega arith)
  found_from i (x ∷ xs) zero at =
      let e : ◌≡◌ {A = Option X} (Some x) (Some at.item) = at.stands in
      let s : x ≡ at.item = cc in
      let n : i ≡ i + 0 = omega arith in
      cond-true (not (good x)) (Some i) (first_bad good (i + 1) xs) (ap not (ap good s ∙ at.fails)) ∙ ap Some n
  found_from i (x ∷ xs) (suc k) at =
      let n : i + 1 + k ≡ i + suc k = omega arith in
      passes_on i x xs (at.before 0 x (omega arith) refl)
      ∙ found_from (i + 1) xs k (record { item = at.item; stands = at.stands; fails = at.fails; before = λ j y h e. at.before (suc j) y (omega arith) e }) ∙ ap Some n

  pub first_found : (xs : List X) (n : ℕ) → First xs n → first_bad good 0 xs ≡ Some n
  first_found xs n at = let k : 0 + n ≡ n = omega arith in found_from 0 xs n at ∙ ap Some k
