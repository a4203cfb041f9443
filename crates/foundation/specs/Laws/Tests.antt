-- The laws of the library's tests on lists that the library does not state.
use Rattle.std.specs.Prelude.{◌≡◌, Bool, true, false, ◌||◌, ◌⊎◌, List, [], ◌∷◌, map, refl}
use Rattle.std.proofs.Common.{sym, ap, ◌∙◌, true≢false, inl, inr}
use mathlib.Core.List.{Memᴰ}
use Rattle.std.proofs.lemmas.Bool.{and_parts, and_from, and_cases, or_cases, or_left, or_right, false≢true}
use Rattle.std.specs.List.{list_any, list_all}

pub list_any-map : {X Y : Type 0} (p : Y → Bool) (f : X → Y) (xs : List X) → list_any p (map f xs) ≡ list_any (λ x. p (f x)) xs
list_any-map p f [] = refl
list_any-map p f (x ∷ xs) = ap (λ b. p (f x) || b) (list_any-map p f xs)

-- ---- by the elements

pub any_in : {X : Type 0} (p : X → Bool) (xs : List X) → list_any p xs ≡ true → (x : X) × Memᴰ x xs × (p x ≡ true)
any_in p [] h = absurd (false≢true h)
any_in {X} p (x ∷ xs) h = go (or_cases (p x) (list_any p xs) h) (any_in p xs)
  where
    go : (p x ≡ true) ⊎ (list_any p xs ≡ true) → (list_any p xs ≡ true → (y : X) × Memᴰ y xs × (p y ≡ true)) → (y : X) × Memᴰ y (x ∷ xs) × (p y ≡ true)
    go (inl e) ih = (x, Memᴰ.head refl, e)
    go (inr e) ih = let r = ih e in (r.0, Memᴰ.tail r.1, r.2)

pub in_any : {X : Type 0} (p : X → Bool) {x : X} {xs : List X} → Memᴰ x xs → p x ≡ true → list_any p xs ≡ true
in_any p (Memᴰ.head {x = y} {xs = xs} e) h = or_left (p y) (list_any p xs) (ap p (sym e) ∙ h)
in_any p (Memᴰ.tail {x = y} {xs = xs} m) h = or_right (p y) (list_any p xs) (in_any p m h)

pub all_in : {X : Type 0} (p : X → Bool) {x : X} {xs : List X} → Memᴰ x xs → list_all p xs ≡ true → p x ≡ true
all_in p (Memᴰ.head {x = y} {xs = xs} e) h = ap p e ∙ (and_parts (p y) (list_all p xs) h).0
all_in p (Memᴰ.tail {x = y} {xs = xs} m) h = all_in p m (and_parts (p y) (list_all p xs) h).1

pub in_all : {X : Type 0} (p : X → Bool) (xs : List X) → ((x : X) → Memᴰ x xs → p x ≡ true) → list_all p xs ≡ true
in_all p [] h = refl
in_all p (x ∷ xs) h = and_from (p x) (list_all p xs) (h x (Memᴰ.head refl)) (in_all p xs (λ y m. h y (Memᴰ.tail m)))

pub not_all_in : {X : Type 0} (p : X → Bool) (xs : List X) → list_all p xs ≡ false → (x : X) × Memᴰ x xs × (p x ≡ false)
not_all_in p [] h = absurd (true≢false h)
not_all_in {X} p (x ∷ xs) h = go (and_cases (p x) (list_all p xs) h) (not_all_in p xs)
  where
    go : (p x ≡ false) ⊎ (list_all p xs ≡ false) → (list_all p xs ≡ false → (y : X) × Memᴰ y xs × (p y ≡ false)) → (y : X) × Memᴰ y (x ∷ xs) × (p y ≡ false)
    go (inl e) ih = (x, Memᴰ.head refl, e)
    go (inr e) ih = let r = ih e in (r.0, Memᴰ.tail r.1, r.2)

pub in_not_all : {X : Type 0} (p : X → Bool) {x : X} {xs : List X} → Memᴰ x xs → p x ≡ false → list_all p xs ≡ false
in_not_all p {x} {xs} m e = go (list_all p xs) refl
  where
    go : (b : Bool) → list_all p xs ≡ b → b ≡ false
    go true h = absurd (false≢true (sym e ∙ all_in p m h))
    go false h = refl

pub any_weaker : {X : Type 0} (p q : X → Bool) (xs : List X) → ((x : X) → p x ≡ true → q x ≡ true) → list_any p xs ≡ true → list_any q xs ≡ true
any_weaker p q xs h a = let r = any_in p xs a in in_any q r.1 (h r.0 r.2)

pub all_weaker : {X : Type 0} (p q : X → Bool) (xs : List X) → ((x : X) → p x ≡ true → q x ≡ true) → list_all p xs ≡ true → list_all q xs ≡ true
all_weaker p q xs h a = in_all q xs (λ x m. h x (all_in p m a))
