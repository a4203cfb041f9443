-- The first settled round is the least solution of the equations, and decides the game.
use Rattle.std.proofs.Common.{◌≡◌, ℕ, ◌^◌, ◌<◌, Bool, List, [], ◌∷◌, IfOk, Some, None, Ok, Err, Decides, Option, Result, sym, refl, ap, ◌∙◌, subst, ap₂, arith}
use mathlib.Core.Path.{fun_ext}
use Rattle.foundation.specs.Bits.{has}
use Rattle.std.specs.List.{list_any, list_all}
use Rattle.foundation.specs.Laws.Bits.{same_tests}
use Rattle.foundation.specs.Laws.Tests.{any_in, in_any, all_in, in_all}
use Rattle.rules.specs.Tables.{Table}
use Rattle.formulas.specs.declared.fault.Overflow.{Overflow}
use Rattle.formulas.specs.declared.symbol.Owner.{Owner}
use Rattle.formulas.specs.declared.symbol.Owner.TheVariants.{Station, Field}
use Rattle.formulas.specs.declared.symbol.Symbol.{Symbol}
use Rattle.formulas.specs.declared.symbol.Symbol.TheVariants.{Command, Procedure}
use Rattle.formulas.specs.Equations.{WinsBody, Solves, LeastSolution, FirstSettled, SettledLists, WonByTrees, MeetsByTrees}
use Rattle.formulas.specs.Formulas.{meets, then}
use Rattle.formulas.specs.FormulaViews.{FormulaSeen, formula_list, found}
use Rattle.formulas.specs.Rounds.{formula_at, in_front, body_formula, next_formula, next_round, round}
use Rattle.formulas.specs.Steps.{bind}
use Rattle.formulas.specs.Symbols.{Entry, Of, Agree, bodies, owner_of}
use Rattle.formulas.specs.Winning.{Assignment, assigned, winning}
use Rattle.formulas.proofs.Combining.{by_owner, next_says}
use Rattle.formulas.proofs.Given.{given_some}
use Rattle.formulas.proofs.Monoids.{Monoid}
use Rattle.formulas.proofs.Nexts.{procedures_are}
use Rattle.formulas.proofs.Records.{body_of, of_body, owner_belongs, owner_none, belongs_owner}
use Rattle.formulas.proofs.Rounds.{Within, next_at, round_follows, round_good}
use Rattle.formulas.proofs.Trees.{Fixed, tree_wins, wins_tree}
use Rattle.formulas.proofs.Winning.{winning_procedure, after_none, body_says}

module _ (rs : List Entry) (agree : Agree rs) (t : Table) (m : Monoid t) where
  -- ---- the equations in words, and as tests

  module _ (φ : Assignment) (A : ℕ) (x : ℕ) where
    wins : List Symbol → Bool
    wins b = has (winning t φ A b) 0

    all_records : Decides (list_all (λ b. has (winning t φ A b) 0) (bodies rs x)) ((r : Entry) → Of rs x r → WinsBody rs t φ A r)
    all_records = (
      λ h r f. all_in (λ b. has (winning t φ A b) 0) (of_body rs x r f) h,
      λ h. in_all (λ b. has (winning t φ A b) 0) (bodies rs x) (λ b i. let r = body_of rs x b i in ap (λ c. has (winning t φ A c) 0) (sym r.2) ∙ h r.0 r.1),
    )

    some_record : Decides (list_any (λ b. has (winning t φ A b) 0) (bodies rs x)) ((r : Entry) × Of rs x r × WinsBody rs t φ A r)
    some_record = (
      λ h. let p = any_in (λ b. has (winning t φ A b) 0) (bodies rs x) h in let r = body_of rs x p.0 p.1 in (r.0, r.1, ap (λ c. has (winning t φ A c) 0) r.2 ∙ p.2),
      λ r. in_any (λ b. has (winning t φ A b) 0) (of_body rs x r.0 r.1) r.2,
    )

  decided_as : {P : Type 0} (a b : Bool) → Decides a P → Decides b P → a ≡ b
  decided_as a b p q = same_tests a b (λ e. q.1 (p.0 e)) (λ e. p.1 (q.0 e))

  pub solves_fixed : (φ : Assignment) → Solves rs t φ → Fixed rs agree t m φ
  solves_fixed φ s x A small = go (owner_of rs x) refl
    where
      go : (o : Option Owner) → owner_of rs x ≡ o → φ x A ≡ by_owner o (λ b. has (winning t φ A b) 0) (bodies rs x)
      go None e = s.without x A small (owner_none rs x e)
      go (Some Station) e = decided_as (φ x A) _ (s.station x A small (owner_belongs rs x Station e)) (all_records φ A x)
      go (Some Field) e = decided_as (φ x A) _ (s.field x A small (owner_belongs rs x Field e)) (some_record φ A x)

  pub fixed_solves : (φ : Assignment) → Fixed rs agree t m φ → Solves rs t φ
  fixed_solves φ fixed = record {
    station = λ x A small b. let e = by x A small (belongs_owner rs agree x Station b) in (λ h. (all_records φ A x).0 (sym e ∙ h), λ h. e ∙ (all_records φ A x).1 h);
    field = λ x A small b. let e = by x A small (belongs_owner rs agree x Field b) in (λ h. (some_record φ A x).0 (sym e ∙ h), λ h. e ∙ (some_record φ A x).1 h);
    without = λ x A small none. by x A small (no_side x none (owner_of rs x) refl);
  }
    where
      by : (x A : ℕ) → A < 2 ^ t.count → {o : Option Owner} → owner_of rs x ≡ o → φ x A ≡ by_owner o (λ b. has (winning t φ A b) 0) (bodies rs x)
      by x A small e = fixed x A small ∙ ap (λ o. by_owner o (λ b. has (winning t φ A b) 0) (bodies rs x)) e

      no_side : (x : ℕ) → ((r : Entry) → Of rs x r → ⊥) → (o : Option Owner) → owner_of rs x ≡ o → owner_of rs x ≡ None
      no_side x none None e = e
      no_side x none (Some o) e = let b = owner_belongs rs x o e in absurd (none b.0 b.1)

  -- ---- a settled round

  module _ (limit : ℕ) (within : Within rs) (k : ℕ) (L : List (List ℕ)) (settled : FirstSettled rs t limit k L) where
    again : next_round limit rs t L ≡ Ok L
    again =
        let f = round_follows limit rs within t settled.before L (ap (round limit rs t) (sym settled.after) ∙ settled.is) in
        let e : f.last ≡ L = let p = f.is in let q = settled.equal in cc in
        ap (next_round limit rs t) (sym e) ∙ f.next

    formulas_fixed : Fixed rs agree t m (assigned (formula_at L))
    formulas_fixed x A small =
        given_some (next_formula limit t rs L x) (λ R. (A : ℕ) → meets (has A) R ≡ by_owner (owner_of rs x) (λ b. has (winning t (assigned (formula_at L)) A b) 0) (bodies rs x)) (formula_at L x) (next_says t m limit L rs x) (next_at limit rs within t L L again x) A

    -- a procedure alone, from the start
    alone : (φ : Assignment) (x A : ℕ) → A < 2 ^ t.count → has (winning t φ A (Procedure x ∷ [])) 0 ≡ φ x A
    alone φ x A small = winning_procedure t m φ A x [] 0 m.some ∙ ap (φ x) (after_none t m A small)

    pub least_solution : LeastSolution rs t L
    least_solution = record {
      solves = fixed_solves (assigned (formula_at L)) formulas_fixed;
      least = λ φ s x A small h.
          sym (alone φ x A small) ∙ tree_wins rs agree t m φ (solves_fixed φ s) A 0 small m.some
          (wins_tree rs agree t m limit within k L settled.is A 0 small m.some (Procedure x ∷ []) (alone (assigned (formula_at L)) x A small ∙ h));
      smallest = λ x. (round_good limit rs within t m k L settled.is x).0;
      numbers = λ x. (round_good limit rs within t m k L settled.is x).1;
    }

    pub winning_trees : (A : ℕ) (s : List Symbol) → A < 2 ^ t.count → WonByTrees rs t A s (winning t (assigned (formula_at L)) A s)
    winning_trees A s small e start = (
      wins_tree rs agree t m limit within k L settled.is A e small start s,
      tree_wins rs agree t m (assigned (formula_at L)) formulas_fixed A e small start,
    )

    pub formula_trees : (s : List Symbol) (F : List ℕ) → body_formula limit t L s ≡ Some F → MeetsByTrees rs t s F
    formula_trees s F e A small =
        let same : meets (has A) F ≡ has (winning t (assigned (formula_at L)) A s) 0 = given_some (body_formula limit t L s) (λ R. (A : ℕ) → meets (has A) R ≡ has (winning t (assigned (formula_at L)) A s) 0) F (body_says t m limit L s) e A in
        let d = winning_trees A s small 0 m.some in
        (λ h. d.0 (sym same ∙ h), λ v. same ∙ d.1 v)

-- ---- for lists of clauses that are settled formulas

module _ (t : Table) (m : Monoid t) (rs : List Entry) (lists : ℕ → List ℕ) (all : SettledLists rs t lists) where
  within : Within rs
  within r i = omega (arith, procedures_are, all.known r i)

  pub lists_trees : (A : ℕ) (s : List Symbol) → A < 2 ^ t.count → WonByTrees rs t A s (winning t (assigned lists) A s)
  lists_trees A s small =
      subst (λ f. WonByTrees rs t A s (winning t (assigned f) A s)) (sym (fun_ext all.are)) (winning_trees rs all.agree t m 64 within all.number all.formulas all.settled A s small)

  pub form_trees : (L : List (List ℕ)) → ((x : ℕ) → formula_at L x ≡ lists x) → (s : List Symbol) (F : List ℕ) → body_formula 64 t L s ≡ Some F → MeetsByTrees rs t s F
  form_trees L are s F e =
      formula_trees rs all.agree t m 64 within all.number all.formulas all.settled s F (sym (body_same L all.formulas (λ x. are x ∙ all.are x) s) ∙ e)
    where
      front_same : (L M : List (List ℕ)) → ((x : ℕ) → formula_at L x ≡ formula_at M x) → (y : Symbol) → in_front 64 t L y ≡ in_front 64 t M y
      front_same L M h (Command c) = refl
      front_same L M h (Procedure x) = ap (λ F. then 64 t F) (h x)

      body_same : (L M : List (List ℕ)) → ((x : ℕ) → formula_at L x ≡ formula_at M x) → (s : List Symbol) → body_formula 64 t L s ≡ body_formula 64 t M s
      body_same L M h [] = refl
      body_same L M h (y ∷ s) = ap₂ bind (body_same L M h s) (front_same L M h y)

  -- the code's answer for a form
  pub form_answer : (L : List (List ℕ)) → ((x : ℕ) → formula_at L x ≡ lists x) → (s : List Symbol) (r : Result FormulaSeen Overflow) → found r ≡ body_formula 64 t L s → IfOk r (λ f. MeetsByTrees rs t s (formula_list f))
  form_answer L are s (Ok f) e = form_trees L are s (formula_list f) (sym e)
  form_answer L are s (Err x) e = tt
