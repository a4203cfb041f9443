-- Each round holds the next formulas of the round before.
use Rattle.std.proofs.Common.{◌≡◌, ℕ, zero, suc, ◌+◌, ◌<◌, ◌≤◌, ◌⊎◌, List, [], ◌∷◌, length, get_or, Some, None, Ok, Err, Option, Result, sym, refl, ap, ◌∙◌, subst, inl, inr, arith}
use mathlib.Core.List.{Memᴰ}
use Rattle.std.specs.List.{range_with_len}
use Rattle.std.proofs.lemmas.List.FromFn.{get_or-map-range_with_len, length-map-range_with_len}
use Rattle.std.proofs.lemmas.List.{get_or_past}
use Rattle.std.proofs.lemmas.Bool.{cases_lt}
use Rattle.rules.specs.Tables.{Table}
use Rattle.formulas.specs.declared.procedure_set.ProcedureSet.{ProcedureSet}
use Rattle.formulas.specs.declared.symbol.Owner.{Owner}
use Rattle.formulas.specs.Formulas.{impossible}
use Rattle.formulas.specs.Records.{entries}
use Rattle.formulas.specs.Rounds.{procedures, formula_at, next_owned, next_formula, with_first, each_formula, first_round, on_round, next_round, round}
use Rattle.formulas.specs.Symbols.{Entry, bodies, owner_of}
use Rattle.formulas.proofs.Combining.{Good, impossible_good, next_good}
use Rattle.formulas.proofs.Given.{given_some}
use Rattle.formulas.proofs.Monoids.{Monoid}
use Rattle.formulas.proofs.Nexts.{procedures_are}
use Rattle.formulas.proofs.Records.{owner_belongs, set_range}

-- the records are of the procedures that there are
abbrev pub Within : List Entry → Type 0
Within rs = (r : Entry) → Memᴰ r rs → r.procedure < procedures

pub set_within : (s : ProcedureSet) → Within (entries s)
set_within s r m = omega (arith, procedures_are, (set_range s r m).known)

-- the formulas that were found one after the other
pub record Found (f : ℕ → Option (List ℕ)) (a n : ℕ) (Fs : List (List ℕ)) : Type 0 where
  pub long : length Fs ≡ n
  pub each : (i : ℕ) → i < n → f (a + i) ≡ Some (get_or Fs i impossible)

pub each_found : (f : ℕ → Option (List ℕ)) (a n : ℕ) (Fs : List (List ℕ)) → each_formula f (range_with_len a n) ≡ Ok Fs → Found f a n Fs
each_found f a zero Fs e = let z : Fs ≡ [] = cc in record { long = ap length z; each = λ i h. absurd (omega arith) }
each_found f a (suc n) Fs e = go (f a) refl (each_formula f (range_with_len (a + 1) n)) e (λ Gs. each_found f (a + 1) n Gs) refl
  where
    go : (o : Option (List ℕ)) → f a ≡ o → (r : Result (List (List ℕ)) ℕ) → with_first a o r ≡ Ok Fs → ((Gs : List (List ℕ)) → each_formula f (range_with_len (a + 1) n) ≡ Ok Gs → Found f (a + 1) n Gs) → each_formula f (range_with_len (a + 1) n) ≡ r → Found f a (suc n) Fs
    go None p r e ih q = absurd (let z : ◌≡◌ {A = ℕ} 0 1 = cc in omega arith)
    go (Some F) p (Err y) e ih q = absurd (let z : ◌≡◌ {A = ℕ} 0 1 = cc in omega arith)
    go (Some F) p (Ok Gs) e ih q =
        let z : F ∷ Gs ≡ Fs = cc in
        let h = ih Gs q in
        record { long = sym (ap length z) ∙ ap suc h.long; each = λ i l. at i l h ∙ ap (λ l. Some (get_or l i impossible)) z }
      where
        at : (i : ℕ) → i < suc n → Found f (a + 1) n Gs → f (a + i) ≡ Some (get_or (F ∷ Gs) i impossible)
        at zero l h = let z : a + 0 ≡ a = omega arith in ap f z ∙ p
        at (suc i) l h = let z : a + suc i ≡ a + 1 + i = omega arith in ap f z ∙ h.each i (omega arith)

pub first_at : (x : ℕ) → formula_at first_round x ≡ impossible
first_at x = go (cases_lt x procedures)
  where
    go : (x < procedures) ⊎ (procedures ≤ x) → formula_at first_round x ≡ impossible
    go (inl h) = get_or-map-range_with_len (λ _. impossible) 0 procedures x x impossible h (omega arith)
    go (inr h) = get_or_past first_round x impossible (omega (arith, length-map-range_with_len (λ (_ : ℕ). impossible) 0 procedures))

module _ (limit : ℕ) (rs : List Entry) (within : Within rs) (t : Table) where
  no_owner : (x : ℕ) → procedures ≤ x → (v : Option Owner) → owner_of rs x ≡ v → v ≡ None
  no_owner x h None e = refl
  no_owner x h (Some o) e = let b = owner_belongs rs x o e in absurd (omega (arith, within b.0 b.1.stands, b.1.names))

  pub next_at : (L M : List (List ℕ)) → next_round limit rs t L ≡ Ok M → (x : ℕ) → next_formula limit t rs L x ≡ Some (formula_at M x)
  next_at L M e x = go (cases_lt x procedures)
    where
      found : Found (next_formula limit t rs L) 0 procedures M
      found = each_found (next_formula limit t rs L) 0 procedures M e

      go : (x < procedures) ⊎ (procedures ≤ x) → next_formula limit t rs L x ≡ Some (formula_at M x)
      go (inl h) = let z : 0 + x ≡ x = omega arith in ap (next_formula limit t rs L) (sym z) ∙ found.each x h
      go (inr h) =
          ap (λ v. next_owned limit t L v (bodies rs x)) (no_owner x h (owner_of rs x) refl)
          ∙ ap Some (sym (get_or_past M x impossible (omega (arith, found.long))))

  -- the round before
  pub record Follows (k : ℕ) (M : List (List ℕ)) : Type 0 where
    pub last : List (List ℕ)
    pub is : round limit rs t k ≡ Ok last
    pub next : next_round limit rs t last ≡ Ok M

  pub round_follows : (k : ℕ) (M : List (List ℕ)) → round limit rs t (suc k) ≡ Ok M → Follows k M
  round_follows k M e = go (round limit rs t k) refl e
    where
      go : (r : Result (List (List ℕ)) ℕ) → round limit rs t k ≡ r → on_round r (next_round limit rs t) ≡ Ok M → Follows k M
      go (Ok L) q e = record { last = L; is = q; next = e }
      go (Err y) q e = absurd (let z : ◌≡◌ {A = ℕ} 0 1 = cc in omega arith)

  -- every formula of a round has smallest clauses, over the table's numbers
  pub round_good : Monoid t → (k : ℕ) (L : List (List ℕ)) → round limit rs t k ≡ Ok L → (x : ℕ) → Good t (formula_at L x)
  round_good m zero L e x = let z : first_round ≡ L = cc in subst (Good t) (sym (ap (λ l. formula_at l x) (sym z) ∙ first_at x)) (impossible_good t m limit)
  round_good m (suc k) M e x =
      let f = round_follows k M e in
      given_some (next_formula limit t rs f.last x) (Good t) (formula_at M x) (next_good t m limit rs f.last x) (next_at f.last M f.next x)
