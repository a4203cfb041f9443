-- The next formula of a procedure: which sets it meets, and that its clauses are the smallest ones, over the table's numbers.
use Rattle.std.proofs.Common.{◌≡◌, ℕ, ◌^◌, ◌<◌, Bool, true, false, cond, ◌&&◌, ◌||◌, ltb, List, [], ◌∷◌, map, Some, None, Option, sym, refl, ap, ◌∙◌, subst, ap₂}
use mathlib.Core.List.{Memᴰ}
use mathlib.Core.Bool.{and_assoc, and-true, or_assoc, or-false}
use lib.Bits.{bit_or, or_lt}
use Rattle.std.proofs.lemmas.Nat.{pow_pos, pow_below}
use Rattle.std.proofs.ByRecursion.{All-append}
use Rattle.std.proofs.lemmas.Bool.{ltb-true}
use Rattle.foundation.specs.Bits.{has}
use Rattle.foundation.specs.Sets.{members, gathered}
use Rattle.std.specs.List.{list_any, list_all}
use Rattle.rules.specs.Lookups.{table_command}
use Rattle.rules.specs.Tables.{Table, join_of}
use Rattle.formulas.specs.declared.symbol.Owner.{Owner}
use Rattle.formulas.specs.declared.symbol.Owner.TheVariants.{Station, Field}
use Rattle.formulas.specs.declared.symbol.Symbol.{Symbol}
use Rattle.formulas.specs.declared.symbol.Symbol.TheVariants.{Command, Procedure}
use Rattle.formulas.specs.Steps.{bind}
use Rattle.formulas.specs.Formulas.{meets, impossible, neutral, Normal, BelowWidth, offers, unions, joins, joined, both, either, shift, or_after, and_after, then}
use Rattle.formulas.specs.Rounds.{formula_at, shift_by, body_formula, mixed, mixed_all, next_owned, next_formula}
use Rattle.formulas.specs.Symbols.{Entry, bodies, owner_of}
use Rattle.formulas.specs.Winning.{assigned, winning}
use Rattle.formulas.proofs.Given.{Given, given_bind, given_weaker}
use Rattle.formulas.proofs.Meets.{impossible-meets, offers-meet, either_meets}
use Rattle.formulas.proofs.Monoids.{Monoid}
use Rattle.formulas.proofs.Normals.{offers_normal, offers_all, nil_normal, one_normal}
use Rattle.formulas.proofs.Records.{owner_belongs, of_body}
use Rattle.formulas.proofs.Winning.{body_says}

-- ---- what the owner makes of the bodies

abbrev pub by_owner : Option Owner → (List Symbol → Bool) → List (List Symbol) → Bool
by_owner None p bs = false
by_owner (Some Station) p bs = list_all p bs
by_owner (Some Field) p bs = list_any p bs

-- with one body more in front
abbrev with_front : Owner → Bool → (List Symbol → Bool) → List (List Symbol) → Bool
with_front Station b p bs = b && list_all p bs
with_front Field b p bs = b || list_any p bs

module _ (t : Table) (m : Monoid t) (limit : ℕ) (L : List (List ℕ)) where
  -- the field wins the body b from the start, where A is forbidden
  abbrev pub wins : ℕ → List Symbol → Bool
  wins A b = has (winning t (assigned (formula_at L)) A b) 0

  abbrev MeetsAs : (ℕ → Bool) → List ℕ → Type 0
  MeetsAs q R = (A : ℕ) → meets (has A) R ≡ q A

  mixed_says : (o : Owner) (F G : List ℕ) (p q : ℕ → Bool) → MeetsAs p F → MeetsAs q G → Given (mixed limit o F G) (MeetsAs (λ A. with_front o (p A) (λ _. q A) ([] ∷ [])))
  mixed_says Station F G p q f g = each (both limit F G) (λ A. offers-meet (has A) limit F G)
    where
      each : (o : Option (List ℕ)) → ((A : ℕ) → Given o (λ R. meets (has A) R ≡ (meets (has A) F && meets (has A) G))) → Given o (MeetsAs (λ A. p A && (q A && true)))
      each None h = tt
      each (Some R) h = λ A. h A ∙ ap₂ (λ (x y : Bool). x && y) (f A) (g A ∙ sym (and-true (q A)))
  mixed_says Field F G p q f g = each (either limit F G) (λ A. either_meets (has A) limit F G)
    where
      each : (o : Option (List ℕ)) → ((A : ℕ) → Given o (λ R. meets (has A) R ≡ (meets (has A) F || meets (has A) G))) → Given o (MeetsAs (λ A. p A || (q A || false)))
      each None h = tt
      each (Some R) h = λ A. h A ∙ ap₂ (λ (x y : Bool). x || y) (f A) (g A ∙ sym (or-false (q A)))

  front_more : (o : Owner) (b q : Bool) (p : List Symbol → Bool) (bs : List (List Symbol)) (s : List Symbol) → p s ≡ q → with_front o (with_front o b (λ _. q) ([] ∷ [])) p bs ≡ with_front o b p (s ∷ bs)
  front_more Station b q p bs s e = and_assoc b (q && true) (list_all p bs) ∙ ap (λ x. b && (x && list_all p bs)) (and-true q ∙ sym e)
  front_more Field b q p bs s e = or_assoc b (q || false) (list_any p bs) ∙ ap (λ x. b || (x || list_any p bs)) (or-false q ∙ sym e)

  front_none : (o : Owner) (b : Bool) (p : List Symbol → Bool) → b ≡ with_front o b p []
  front_none Station b p = sym (and-true b)
  front_none Field b p = sym (or-false b)

  mixed_all_says : (o : Owner) (F : List ℕ) (q : ℕ → Bool) (bs : List (List Symbol)) → MeetsAs q F → Given (mixed_all limit t L o F bs) (MeetsAs (λ A. with_front o (q A) (wins A) bs))
  mixed_all_says o F q [] f = λ A. f A ∙ front_none o (q A) (wins A)
  mixed_all_says o F q (b ∷ bs) f =
      given_bind (body_formula limit t L b) (λ G. bind (mixed limit o F G) (λ H. mixed_all limit t L o H bs)) (MeetsAs (λ A. wins A b)) (MeetsAs (λ A. with_front o (q A) (wins A) (b ∷ bs))) (body_says t m limit L b)
      (λ G g. given_bind (mixed limit o F G) (λ H. mixed_all limit t L o H bs) (MeetsAs (λ A. with_front o (q A) (λ _. wins A b) ([] ∷ []))) (MeetsAs (λ A. with_front o (q A) (wins A) (b ∷ bs))) (mixed_says o F G q (λ A. wins A b) f g)
      (λ H h. given_weaker (mixed_all limit t L o H bs) (MeetsAs (λ A. with_front o (with_front o (q A) (λ _. wins A b) ([] ∷ [])) (wins A) bs)) (MeetsAs (λ A. with_front o (q A) (wins A) (b ∷ bs)))
      (mixed_all_says o H (λ A. with_front o (q A) (λ _. wins A b) ([] ∷ [])) bs h) (λ R r A. r A ∙ front_more o (q A) (wins A b) (wins A) bs b refl)))

  by_front : (o : Owner) (p : List Symbol → Bool) (b : List Symbol) (bs : List (List Symbol)) → with_front o (p b) p bs ≡ by_owner (Some o) p (b ∷ bs)
  by_front Station p b bs = refl
  by_front Field p b bs = refl

  some_body : (rs : List Entry) (x : ℕ) (o : Owner) → owner_of rs x ≡ Some o → bodies rs x ≡ [] → ⊥
  some_body rs x o e n = let r = owner_belongs rs x o e in elim (subst (Memᴰ r.0.body) n (of_body rs x r.0 r.1)) [ ]

  -- the next formula of x meets the sets where x is won by its bodies
  pub next_says : (rs : List Entry) (x : ℕ) → Given (next_formula limit t rs L x) (λ R. (A : ℕ) → meets (has A) R ≡ by_owner (owner_of rs x) (wins A) (bodies rs x))
  next_says rs x = go (owner_of rs x) refl (bodies rs x) refl
    where
      go : (v : Option Owner) → owner_of rs x ≡ v → (bs : List (List Symbol)) → bodies rs x ≡ bs → Given (next_owned limit t L v bs) (λ R. (A : ℕ) → meets (has A) R ≡ by_owner v (wins A) bs)
      go None e bs n = λ A. impossible-meets (has A)
      go (Some o) e [] n = absurd (some_body rs x o e n)
      go (Some o) e (b ∷ bs) n =
          given_bind (body_formula limit t L b) (λ F. mixed_all limit t L o F bs) (MeetsAs (λ A. wins A b)) (MeetsAs (λ A. by_owner (Some o) (wins A) (b ∷ bs))) (body_says t m limit L b)
          (λ F f. given_weaker (mixed_all limit t L o F bs) (MeetsAs (λ A. with_front o (wins A b) (wins A) bs)) (MeetsAs (λ A. by_owner (Some o) (wins A) (b ∷ bs))) (mixed_all_says o F (λ A. wins A b) bs f)
          (λ R r A. r A ∙ by_front o (wins A) b bs))

-- ---- normal, and over the table's numbers

abbrev pub Good : Table → List ℕ → Type 0
Good t F = Normal F × BelowWidth t.count F

module _ (t : Table) (m : Monoid t) (limit : ℕ) where
  offers_good : (F Cs : List ℕ) → Good t F → BelowWidth t.count Cs → Given (offers limit F Cs) (Good t)
  offers_good F Cs g b = pair (offers limit F Cs) (offers_normal limit F Cs g.0) (offers_all limit (λ K. K < 2 ^ t.count) F Cs g.1 b)
    where
      pair : (o : Option (List ℕ)) → Given o Normal → Given o (BelowWidth t.count) → Given o (Good t)
      pair None a c = tt
      pair (Some R) a c = (a, c)

  nil_good : Good t []
  nil_good = (nil_normal, tt)

  pub impossible_good : Good t impossible
  impossible_good = (one_normal 0, (pow_pos t.count, tt))

  neutral_good : Good t neutral
  neutral_good = (one_normal 1, (pow_below 0 t.count m.some, tt))

  unions_below : (F G : List ℕ) → BelowWidth t.count F → BelowWidth t.count G → BelowWidth t.count (unions F G)
  unions_below [] G f g = tt
  unions_below (K ∷ F) G f g = All-append (λ K. K < 2 ^ t.count) (map (bit_or K) G) (unions F G) (row G g) (unions_below F G f.1 g)
    where
      row : (G : List ℕ) → BelowWidth t.count G → BelowWidth t.count (map (bit_or K) G)
      row [] g = tt
      row (M ∷ G) g = (or_lt t.count K M f.0 g.0, row G g.1)

  joined_below : (e K : ℕ) → joined t e K < 2 ^ t.count
  joined_below e K = go (members K)
    where
      go : (ks : List ℕ) → gathered (joins t e ks) < 2 ^ t.count
      go [] = pow_pos t.count
      go (k ∷ ks) = split (ltb e t.count) refl (ltb k t.count) refl (go ks)
        where
          split : (a : Bool) → ltb e t.count ≡ a → (b : Bool) → ltb k t.count ≡ b → gathered (joins t e ks) < 2 ^ t.count → gathered (cond (a && b) (join_of t e k ∷ joins t e ks) (joins t e ks)) < 2 ^ t.count
          split true p true q ih = or_lt t.count (2 ^ join_of t e k) (gathered (joins t e ks)) (pow_below (join_of t e k) t.count (m.closed e k (ltb-true e t.count p) (ltb-true k t.count q))) ih
          split true p false q ih = ih
          split false p b q ih = ih

  joined-all : (e : ℕ) (F : List ℕ) → BelowWidth t.count (map (joined t e) F)
  joined-all e [] = tt
  joined-all e (K ∷ F) = (joined_below e K, joined-all e F)

  either_good : (F G : List ℕ) → BelowWidth t.count F → BelowWidth t.count G → Given (either limit F G) (Good t)
  either_good F G f g = offers_good [] (unions F G) nil_good (unions_below F G f g)

  shift_good : (e : ℕ) (F : List ℕ) → Given (shift limit t e F) (Good t)
  shift_good e F = offers_good [] (map (joined t e) F) nil_good (joined-all e F)

  or_after_good : (G T es : List ℕ) → Good t T → Given (or_after limit t G T es) (Good t)
  or_after_good G T [] a = a
  or_after_good G T (e ∷ es) a = go (ltb e t.count) (or_after_good G T es a) (λ U u. or_after_good G U es u)
    where
      go : (b : Bool) → Given (or_after limit t G T es) (Good t) → ((U : List ℕ) → Good t U → Given (or_after limit t G U es) (Good t))
          → Given (cond b (bind (shift limit t e G) (λ S. bind (either limit T S) (λ U. or_after limit t G U es))) (or_after limit t G T es)) (Good t)
      go false same ih = same
      go true same ih =
          given_bind (shift limit t e G) (λ S. bind (either limit T S) (λ U. or_after limit t G U es)) (Good t) (Good t) (shift_good e G)
          (λ S s. given_bind (either limit T S) (λ U. or_after limit t G U es) (Good t) (Good t) (either_good T S a.1 s.1) ih)

  and_after_good : (G R F : List ℕ) → Good t R → Given (and_after limit t G R F) (Good t)
  and_after_good G R [] a = a
  and_after_good G R (K ∷ F) a =
      given_bind (or_after limit t G impossible (members K)) (λ T. bind (both limit R T) (λ S. and_after limit t G S F)) (Good t) (Good t) (or_after_good G impossible (members K) impossible_good)
      (λ T h. given_bind (both limit R T) (λ S. and_after limit t G S F) (Good t) (Good t) (offers_good R T a h.1) (λ S s. and_after_good G S F s))

  pub body_good : (L : List (List ℕ)) (s : List Symbol) → Given (body_formula limit t L s) (Good t)
  body_good L [] = neutral_good
  body_good L (Command c ∷ s) = given_bind (body_formula limit t L s) (shift_by limit t (table_command t c)) (Good t) (Good t) (body_good L s) (λ F f. go (table_command t c) F)
    where
      go : (o : Option ℕ) (F : List ℕ) → Given (shift_by limit t o F) (Good t)
      go None F = impossible_good
      go (Some e) F = shift_good e F
  body_good L (Procedure x ∷ s) = given_bind (body_formula limit t L s) (then limit t (formula_at L x)) (Good t) (Good t) (body_good L s) (λ F f. and_after_good F [] (formula_at L x) nil_good)

  mixed_good : (o : Owner) (F G : List ℕ) → Good t F → Good t G → Given (mixed limit o F G) (Good t)
  mixed_good Station F G f g = offers_good F G f g.1
  mixed_good Field F G f g = either_good F G f.1 g.1

  mixed_all_good : (L : List (List ℕ)) (o : Owner) (F : List ℕ) (bs : List (List Symbol)) → Good t F → Given (mixed_all limit t L o F bs) (Good t)
  mixed_all_good L o F [] f = f
  mixed_all_good L o F (b ∷ bs) f =
      given_bind (body_formula limit t L b) (λ G. bind (mixed limit o F G) (λ H. mixed_all limit t L o H bs)) (Good t) (Good t) (body_good L b)
      (λ G g. given_bind (mixed limit o F G) (λ H. mixed_all limit t L o H bs) (Good t) (Good t) (mixed_good o F G f g) (λ H h. mixed_all_good L o H bs h))

  pub next_good : (rs : List Entry) (L : List (List ℕ)) (x : ℕ) → Given (next_formula limit t rs L x) (Good t)
  next_good rs L x = go (owner_of rs x) (bodies rs x)
    where
      go : (v : Option Owner) (bs : List (List Symbol)) → Given (next_owned limit t L v bs) (Good t)
      go None bs = impossible_good
      go (Some o) [] = impossible_good
      go (Some o) (b ∷ bs) = given_bind (body_formula limit t L b) (λ F. mixed_all limit t L o F bs) (Good t) (Good t) (body_good L b) (λ F f. mixed_all_good L o F bs f)
