-- The bodies of a procedure, combined as the records go by.
use Rattle.std.proofs.Common.{◌≡◌, ℕ, zero, suc, ◌+◌, ◌<◌, ◌≤◌, eqb, List, [], ◌∷◌, map, length, get_or, drop, Some, None, Option, unwrap_or, sym, refl, ap, ◌∙◌, arith}
use Rattle.std.specs.List.{slice_get}
use Rattle.std.specs.Option.{option_map}
use Rattle.std.proofs.lemmas.List.{drop_all}
use Rattle.std.proofs.lemmas.Option.{slice_get-map, slice_get_read}
use Rattle.std.proofs.lemmas.Bool.{cond-true, cond-false, eq-eqb, ne_eqb}
use Rattle.rules.specs.Tables.{Table}
use Rattle.formulas.specs.declared.record.Record.{Record}
use Rattle.formulas.specs.declared.symbol.Owner.{Owner}
use Rattle.formulas.specs.declared.symbol.Symbol.{Symbol}
use Rattle.formulas.specs.Entries.{entry_of}
use Rattle.formulas.specs.Formulas.{impossible}
use Rattle.formulas.specs.Rounds.{body_formula, mixed_with, mixed_all, combined_on, next_owned, next_formula}
use Rattle.formulas.specs.Steps.{bind}
use Rattle.formulas.specs.Symbols.{Entry, bodies, owner_of}

-- a record of the set, by its number
pub entry_there : (xs : List Record) (rs : List Entry) (i : ℕ) (x : Record) → map entry_of xs ≡ rs → i < length xs → x ≡ get_or xs i x → Some (entry_of x) ≡ slice_get rs i
entry_there xs rs i x e h is = ap (option_map entry_of) (sym (slice_get_read xs (length xs) i x refl h is)) ∙ sym (slice_get-map entry_of xs i) ∙ ap (λ l. slice_get l i) e

-- of what was found, or of a default
pub of_found : {X Y : Type 0} (f : X → Y) (o : Option X) (d x : X) (e : Y) → x ≡ unwrap_or o d → f d ≡ e → f x ≡ unwrap_or (option_map f o) e
of_found f None d x e h k = ap f h ∙ k
of_found f (Some y) d x e h k = ap f h

pub drop_nth : {X : Type 0} (xs : List X) (i : ℕ) (x : X) → Some x ≡ slice_get xs i → drop i xs ≡ x ∷ drop (i + 1) xs
drop_nth [] i x e = absurd (let z : ◌≡◌ {A = ℕ} 0 1 = cc in omega arith)
drop_nth (y ∷ xs) zero x e = let z : x ≡ y = cc in ap (λ w. w ∷ xs) (sym z)
drop_nth (y ∷ xs) (suc i) x e = let n : suc i + 1 ≡ suc (i + 1) = omega arith in rw n (drop_nth xs i x e)

module _ (limit : ℕ) (t : Table) (L : List (List ℕ)) (rs : List Entry) (p : ℕ) where
  pub next_is : (v : Option Owner) → v ≡ owner_of rs p → next_owned limit t L v (bodies rs p) ≡ next_formula limit t rs L p
  next_is v e = ap (λ o. next_owned limit t L o (bodies rs p)) e

  module _ (o : Owner) where
    -- before record i there is so_far
    abbrev pub Combining : Option (List ℕ) → ℕ → Type 0
    Combining so_far i = combined_on limit t L o so_far (bodies (drop i rs) p) ≡ next_formula limit t rs L p

    pub combining_start : Some o ≡ owner_of rs p → Combining None 0
    combining_start e = next_is (Some o) e

    -- from record i on, where its body comes next and has the formula x
    abbrev with_body : Option (List ℕ) → ℕ → Option (List ℕ) → Option (List ℕ)
    with_body so_far i x = bind x (λ G. bind (mixed_with limit o so_far G) (λ H. mixed_all limit t L o H (bodies (drop (i + 1) rs) p)))

    on_step : (so_far : Option (List ℕ)) (b : List Symbol) (bs : List (List Symbol)) → combined_on limit t L o so_far (b ∷ bs) ≡ bind (body_formula limit t L b) (λ G. bind (mixed_with limit o so_far G) (λ H. mixed_all limit t L o H bs))
    on_step None b bs = refl
    on_step (Some F) b bs = refl

    module _ (so_far : Option (List ℕ)) (i : ℕ) (r : Entry) (at : Some r ≡ slice_get rs i) (before : Combining so_far i) where
      pub combining_other : (r.procedure ≡ p → ⊥) → Combining so_far (i + 1)
      combining_other n =
          sym (ap (combined_on limit t L o so_far)
          (ap (λ l. bodies l p) (drop_nth rs i r at) ∙ cond-false (eqb r.procedure p) (r.body ∷ bodies (drop (i + 1) rs) p) (bodies (drop (i + 1) rs) p) (ne_eqb r.procedure p n)))
          ∙ before

      module _ (same : r.procedure ≡ p) where
        here : (x : Option (List ℕ)) → x ≡ body_formula limit t L r.body → with_body so_far i x ≡ next_formula limit t rs L p
        here x is =
            ap (with_body so_far i) is ∙ sym (on_step so_far r.body (bodies (drop (i + 1) rs) p))
            ∙ sym (ap (combined_on limit t L o so_far)
            (ap (λ l. bodies l p) (drop_nth rs i r at) ∙ cond-true (eqb r.procedure p) (r.body ∷ bodies (drop (i + 1) rs) p) (bodies (drop (i + 1) rs) p) (eq-eqb r.procedure p same)))
            ∙ before

        pub combining_none : None ≡ body_formula limit t L r.body → None ≡ next_formula limit t rs L p
        combining_none is = here None is

        module _ (G : List ℕ) (is : Some G ≡ body_formula limit t L r.body) where
          mixed_here : (y : Option (List ℕ)) → y ≡ mixed_with limit o so_far G → bind y (λ H. mixed_all limit t L o H (bodies (drop (i + 1) rs) p)) ≡ next_formula limit t rs L p
          mixed_here y mixed = ap (λ y. bind y (λ H. mixed_all limit t L o H (bodies (drop (i + 1) rs) p))) mixed ∙ here (Some G) is

          pub combining_unmixed : None ≡ mixed_with limit o so_far G → None ≡ next_formula limit t rs L p
          combining_unmixed mixed = mixed_here None mixed

          pub combining_more : (H : List ℕ) → Some H ≡ mixed_with limit o so_far G → Combining (Some H) (i + 1)
          combining_more H mixed = mixed_here (Some H) mixed

    -- no record is left
    pub combining_end : (so_far : Option (List ℕ)) (i : ℕ) → length rs ≤ i → Combining so_far i → Some (unwrap_or so_far impossible) ≡ next_formula limit t rs L p
    combining_end so_far i h before = last so_far ∙ sym (ap (λ l. combined_on limit t L o so_far (bodies l p)) (drop_all i rs h)) ∙ before
      where
        last : (f : Option (List ℕ)) → Some (unwrap_or f impossible) ≡ combined_on limit t L o f []
        last None = refl
        last (Some F) = refl
