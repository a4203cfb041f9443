-- The game against the winning sets: what a solution has, for every tree; and a tree, for all that a round has.
use Rattle.std.proofs.Common.{◌≡◌, ℕ, zero, suc, ◌^◌, ◌<◌, ◌≤◌, true, ◌⊎◌, List, [], ◌∷◌, ◌++◌, Some, None, Ok, Option, sym, refl, ap, ◌∙◌, subst, inl, inr, append-nil}
use mathlib.Core.List.{Memᴰ}
use mathlib.Core.Bool.{false≢true}
use Rattle.std.proofs.ByRecursion.{All-append}
use Rattle.std.proofs.lemmas.Bool.{cases_lt}
use Rattle.foundation.specs.Bits.{has}
use Rattle.foundation.specs.Laws.Bits.{number_lt}
use Rattle.foundation.specs.Laws.Tests.{any_in, in_any, all_in, in_all}
use Rattle.rules.specs.Meaning.{Below}
use Rattle.rules.specs.Tables.{Table, number_of, join_of}
use Rattle.formulas.specs.declared.symbol.Owner.{Owner}
use Rattle.formulas.specs.declared.symbol.Owner.TheVariants.{Station, Field}
use Rattle.formulas.specs.declared.symbol.Symbol.{Symbol}
use Rattle.formulas.specs.declared.symbol.Symbol.TheVariants.{Command, Procedure}
use Rattle.formulas.specs.Formulas.{meets, impossible}
use Rattle.formulas.specs.Rounds.{formula_at, next_formula, first_round, round}
use Rattle.formulas.specs.Symbols.{Entry, Of, Agree, bodies, owner_of}
use Rattle.formulas.specs.Trees.{commands, Tree, leaf, one, every, effect_number, LeadsInto}
use Rattle.formulas.specs.Winning.{Assignment, assigned, after_effect, winning}
use Rattle.formulas.proofs.Combining.{by_owner, next_says}
use Rattle.formulas.proofs.Given.{given_some}
use Rattle.formulas.proofs.Meets.{impossible-meets}
use Rattle.formulas.proofs.Monoids.{Monoid}
use Rattle.formulas.proofs.Records.{body_of, of_body, owner_belongs, belongs_owner}
use Rattle.formulas.proofs.Rounds.{Within, first_at, next_at, round_follows}
use Rattle.formulas.proofs.Winning.{winning-lt, winning_known, winning_lacking, winning_procedure, after_winning, winning_from}

-- ---- lists of commands

module _ (t : Table) (m : Monoid t) where
  pub effect_lt : (w : List ℕ) → Below t.commands w → effect_number t w < t.count
  effect_lt [] h = m.some
  effect_lt (c ∷ w) h = m.closed (number_of t c) (effect_number t w) (m.command c h.0) (effect_lt w h.1)

  pub effect-append : (u v : List ℕ) → Below t.commands u → Below t.commands v → effect_number t (u ++ v) ≡ join_of t (effect_number t u) (effect_number t v)
  effect-append [] v p q = sym (m.left (effect_number t v) (effect_lt v q))
  effect-append (c ∷ u) v p q =
      ap (join_of t (number_of t c)) (effect-append u v p.1 q)
      ∙ sym (m.assoc (number_of t c) (effect_number t u) (effect_number t v) (m.command c p.0) (effect_lt u p.1) (effect_lt v q))

  -- commands in front pass into the effect
  module _ (φ : Assignment) (A : ℕ) where
    pub winning_passed : (w : List ℕ) (z : List Symbol) (e : ℕ) → Below t.commands w → e < t.count → has (winning t φ A (commands w ++ z)) e ≡ has (winning t φ A z) (join_of t e (effect_number t w))
    winning_passed [] z e h l = ap (has (winning t φ A z)) (sym (m.right e l))
    winning_passed (c ∷ w) z e h l =
        winning_known t m φ A c (commands w ++ z) e h.0 l
        ∙ winning_passed w z (join_of t e (number_of t c)) h.1 (m.closed e (number_of t c) l (m.command c h.0))
        ∙ ap (has (winning t φ A z)) (m.assoc e (number_of t c) (effect_number t w) l (m.command c h.0) (effect_lt w h.1))

    -- a list that is won has commands of the rule alone in front
    pub winning_below : (w : List ℕ) (z : List Symbol) (e : ℕ) → e < t.count → has (winning t φ A (commands w ++ z)) e ≡ true → Below t.commands w
    winning_below [] z e l h = tt
    winning_below (c ∷ w) z e l h = go (cases_lt c t.commands) (winning_below w z (join_of t e (number_of t c)))
      where
        go : (c < t.commands) ⊎ (t.commands ≤ c) → (join_of t e (number_of t c) < t.count → has (winning t φ A (commands w ++ z)) (join_of t e (number_of t c)) ≡ true → Below t.commands w) → (c < t.commands) × Below t.commands w
        go (inl p) ih = (p, ih (m.closed e (number_of t c) l (m.command c p)) (sym (winning_known t m φ A c (commands w ++ z) e p l) ∙ h))
        go (inr p) ih = absurd (false≢true (sym (winning_lacking t m φ A c (commands w ++ z) e p) ∙ h))

module _ (rs : List Entry) (agree : Agree rs) (t : Table) (m : Monoid t) where
  -- φ solves the equations, as tests
  abbrev pub Fixed : Assignment → Type 0
  Fixed φ = (x A : ℕ) → A < 2 ^ t.count → φ x A ≡ by_owner (owner_of rs x) (λ b. has (winning t φ A b) 0) (bodies rs x)

  -- ---- whatever solves the equations has every tree

  module _ (φ : Assignment) (fixed : Fixed φ) (A e : ℕ) (small : A < 2 ^ t.count) (start : e < t.count) where
    -- one step at a procedure
    step_is : (x : ℕ) (rest : List Symbol) (k : ℕ) → k < t.count → has (winning t φ A (Procedure x ∷ rest)) k ≡ by_owner (owner_of rs x) (λ b. has (winning t φ (after_effect t (winning t φ A rest) k) b) 0) (bodies rs x)
    step_is x rest k l = winning_procedure t m φ A x rest k l ∙ fixed x (after_effect t (winning t φ A rest) k) (number_lt (λ i. has (winning t φ A rest) (join_of t k i)) t.count)

    pub tree_wins : {s : List Symbol} → Tree rs (LeadsInto t A e) s → has (winning t φ A s) e ≡ true
    tree_wins (leaf w p l) =
        ap (λ z. has (winning t φ A z) e) (p ∙ sym (append-nil (commands w))) ∙ winning_passed t m φ A w [] e l.0 start ∙ l.1
    tree_wins (one w x rest p b r f v) =
        let below = winning_below t m φ A w (r.body ++ rest) e start (tree_wins v) in
        let k = join_of t e (effect_number t w) in
        let lt = m.closed e (effect_number t w) start (effect_lt t m w below) in
        let won : has (winning t φ A (r.body ++ rest)) k ≡ true = sym (winning_passed t m φ A w (r.body ++ rest) e below start) ∙ tree_wins v in
        ap (λ z. has (winning t φ A z) e) p ∙ winning_passed t m φ A w (Procedure x ∷ rest) e below start ∙ step_is x rest k lt
        ∙ ap (λ o. by_owner o (λ b. has (winning t φ (after_effect t (winning t φ A rest) k) b) 0) (bodies rs x)) (belongs_owner rs agree x Field b)
        ∙ in_any (λ b. has (winning t φ (after_effect t (winning t φ A rest) k) b) 0) (of_body rs x r f) (winning_from t m φ A k r.body rest lt ∙ won)
    tree_wins (every w x rest p b v) =
        let below = winning_below t m φ A w (b.0.body ++ rest) e start (tree_wins (v b.0 b.1)) in
        let k = join_of t e (effect_number t w) in
        let lt = m.closed e (effect_number t w) start (effect_lt t m w below) in
        let won : (r : Entry) → Of rs x r → has (winning t φ A (r.body ++ rest)) k ≡ true = λ r f. sym (winning_passed t m φ A w (r.body ++ rest) e below start) ∙ tree_wins (v r f) in
        let each : (c : List Symbol) → Memᴰ c (bodies rs x) → has (winning t φ (after_effect t (winning t φ A rest) k) c) 0 ≡ true =
        λ c i. let r = body_of rs x c i in winning_from t m φ A k c rest lt ∙ ap (λ d. has (winning t φ A (d ++ rest)) k) (sym r.2) ∙ won r.0 r.1 in
        ap (λ z. has (winning t φ A z) e) p ∙ winning_passed t m φ A w (Procedure x ∷ rest) e below start ∙ step_is x rest k lt
        ∙ ap (λ o. by_owner o (λ b. has (winning t φ (after_effect t (winning t φ A rest) k) b) 0) (bodies rs x)) (belongs_owner rs agree x Station b)
        ∙ in_all (λ b. has (winning t φ (after_effect t (winning t φ A rest) k) b) 0) (bodies rs x) each

  -- ---- what a round has, has a tree

  module _ (Leaf : List ℕ → Type 0) (e : ℕ) (start : e < t.count) where
    -- whoever can go on from every list that leads into B can start before β
    abbrev Sound : List (List ℕ) → Type 0
    Sound L = (β : List Symbol) (B : ℕ) (γ : List Symbol) (w : List ℕ) → B < 2 ^ t.count → Below t.commands w
        → has (winning t (assigned (formula_at L)) B β) (join_of t e (effect_number t w)) ≡ true
        → ((v : List ℕ) → Below t.commands v → has B (join_of t e (effect_number t v)) ≡ true → Tree rs Leaf (commands v ++ γ))
        → Tree rs Leaf (commands w ++ (β ++ γ))

    place-lt : (w : List ℕ) → Below t.commands w → join_of t e (effect_number t w) < t.count
    place-lt w h = m.closed e (effect_number t w) start (effect_lt t m w h)

    -- a command in front moves to the commands passed
    moved : (c : ℕ) (w : List ℕ) (z : List Symbol) → Tree rs Leaf (commands (w ++ c ∷ []) ++ z) → Tree rs Leaf (commands w ++ (Command c ∷ z))
    moved c w z v = subst (Tree rs Leaf) (regroup w) v
      where
        regroup : (w : List ℕ) → commands (w ++ c ∷ []) ++ z ≡ commands w ++ (Command c ∷ z)
        regroup [] = refl
        regroup (d ∷ w) = ap (λ l. Command d ∷ l) (regroup w)

    module _ (L : List (List ℕ)) where
      -- after one command more
      by_command : (c : ℕ) (β : List Symbol) (B : ℕ) (w : List ℕ) → Below t.commands w → has (winning t (assigned (formula_at L)) B (Command c ∷ β)) (join_of t e (effect_number t w)) ≡ true
          → Below t.commands (w ++ c ∷ []) × (has (winning t (assigned (formula_at L)) B β) (join_of t e (effect_number t (w ++ c ∷ []))) ≡ true)
      by_command c β B w h won = go (cases_lt c t.commands)
        where
          φ : Assignment
          φ = assigned (formula_at L)

          go : (c < t.commands) ⊎ (t.commands ≤ c) → Below t.commands (w ++ c ∷ []) × (has (winning t (assigned (formula_at L)) B β) (join_of t e (effect_number t (w ++ c ∷ []))) ≡ true)
          go (inl p) =
              let x = number_of t c in
              let l = m.command c p in
              let is : join_of t e (effect_number t (w ++ c ∷ [])) ≡ join_of t (join_of t e (effect_number t w)) x =
              ap (join_of t e) (effect-append t m w (c ∷ []) h (p, tt) ∙ ap (join_of t (effect_number t w)) (m.right x l)) ∙ sym (m.assoc e (effect_number t w) x start (effect_lt t m w h) l) in (
                All-append (λ c. c < t.commands) w (c ∷ []) h (p, tt),
                ap (has (winning t (assigned (formula_at L)) B β)) is ∙ sym (winning_known t m (assigned (formula_at L)) B c β (join_of t e (effect_number t w)) p (place-lt w h)) ∙ won,
              )
          go (inr p) = absurd (false≢true (sym (winning_lacking t m (assigned (formula_at L)) B c β (join_of t e (effect_number t w)) p) ∙ won))

    sound_none : (L : List (List ℕ)) → ((x : ℕ) → formula_at L x ≡ impossible) → Sound L
    sound_none L none [] B γ w b h won rest = rest w h won
    sound_none L none (Command c ∷ β) B γ w b h won rest =
        let s = by_command L c β B w h won in moved c w (β ++ γ) (sound_none L none β B γ (w ++ c ∷ []) b s.0 s.1 rest)
    sound_none L none (Procedure x ∷ β) B γ w b h won rest =
        let k = join_of t e (effect_number t w) in
        let W = after_effect t (winning t (assigned (formula_at L)) B β) k in
        absurd (false≢true (sym (winning_procedure t m (assigned (formula_at L)) B x β k (place-lt w h) ∙ ap (meets (has W)) (none x) ∙ impossible-meets (has W)) ∙ won))

    module _ (limit : ℕ) (L M : List (List ℕ)) (next : (x : ℕ) → next_formula limit t rs L x ≡ Some (formula_at M x)) (ih : Sound L) where
      -- the bodies of the round before decide
      bodies_decide : (x : ℕ) (W : ℕ) → assigned (formula_at M) x W ≡ by_owner (owner_of rs x) (λ b. has (winning t (assigned (formula_at L)) W b) 0) (bodies rs x)
      bodies_decide x W =
          given_some (next_formula limit t rs L x) (λ R. (A : ℕ) → meets (has A) R ≡ by_owner (owner_of rs x) (λ b. has (winning t (assigned (formula_at L)) A b) 0) (bodies rs x)) (formula_at M x) (next_says t m limit L rs x) (next x) W

      sound_next : Sound M
      sound_next [] B γ w b h won rest = rest w h won
      sound_next (Command c ∷ β) B γ w b h won rest =
          let s = by_command M c β B w h won in moved c w (β ++ γ) (sound_next β B γ (w ++ c ∷ []) b s.0 s.1 rest)
      sound_next (Procedure x ∷ β) B γ w b h won rest =
          go (owner_of rs x) refl (sym (winning_procedure t m (assigned (formula_at M)) B x β k (place-lt w h) ∙ bodies_decide x (after_effect t W k)) ∙ won) (λ v o i. sound_next β B γ v b o i rest)
        where
          k : ℕ
          k = join_of t e (effect_number t w)

          W : ℕ
          W = winning t (assigned (formula_at M)) B β

          small : winning t (assigned (formula_at M)) B β < 2 ^ t.count
          small = winning-lt t m (assigned (formula_at M)) B β b

          -- a body, and then what is left
          on : (c : List Symbol) → has (winning t (assigned (formula_at L)) (after_effect t W k) c) 0 ≡ true → ((v : List ℕ) → Below t.commands v → has W (join_of t e (effect_number t v)) ≡ true → Tree rs Leaf (commands v ++ (β ++ γ)))
              → Tree rs Leaf (commands w ++ (c ++ (β ++ γ)))
          on c i tail =
              ih c W (β ++ γ) w small h
              (sym (after_winning t m (assigned (formula_at L)) W k c 0 (place-lt w h) m.some ∙ ap (has (winning t (assigned (formula_at L)) W c)) (m.right k (place-lt w h))) ∙ i) tail

          go : (o : Option Owner) → owner_of rs x ≡ o → by_owner (owner_of rs x) (λ b. has (winning t (assigned (formula_at L)) (after_effect t W k) b) 0) (bodies rs x) ≡ true
              → ((v : List ℕ) → Below t.commands v → has W (join_of t e (effect_number t v)) ≡ true → Tree rs Leaf (commands v ++ (β ++ γ))) → Tree rs Leaf (commands w ++ (Procedure x ∷ (β ++ γ)))
          go None o d tail = absurd (false≢true (ap (λ v. by_owner v (λ b. has (winning t (assigned (formula_at L)) (after_effect t W k) b) 0) (bodies rs x)) (sym o) ∙ d))
          go (Some Field) o d tail =
              let p = any_in (λ b. has (winning t (assigned (formula_at L)) (after_effect t W k) b) 0) (bodies rs x) (ap (λ v. by_owner v (λ b. has (winning t (assigned (formula_at L)) (after_effect t W k) b) 0) (bodies rs x)) (sym o) ∙ d) in
              let r = body_of rs x p.0 p.1 in
              one w x (β ++ γ) refl (owner_belongs rs x Field o) r.0 r.1 (subst (λ c. Tree rs Leaf (commands w ++ (c ++ (β ++ γ)))) (sym r.2) (on p.0 p.2 tail))
          go (Some Station) o d tail =
              let a = ap (λ v. by_owner v (λ b. has (winning t (assigned (formula_at L)) (after_effect t W k) b) 0) (bodies rs x)) (sym o) ∙ d in
              every w x (β ++ γ) refl (owner_belongs rs x Station o) (λ r f. on r.body (all_in (λ b. has (winning t (assigned (formula_at L)) (after_effect t W k) b) 0) (of_body rs x r f) a) tail)

    sound_round : (limit : ℕ) → Within rs → (k : ℕ) (L : List (List ℕ)) → round limit rs t k ≡ Ok L → Sound L
    sound_round limit within zero L q = let z : first_round ≡ L = cc in sound_none L (λ x. ap (λ l. formula_at l x) (sym z) ∙ first_at x)
    sound_round limit within (suc k) M q =
        let f = round_follows limit rs within t k M q in
        sound_next limit f.last M (next_at limit rs within t f.last M f.next) (sound_round limit within k f.last f.is)

  pub wins_tree : (limit : ℕ) → Within rs → (k : ℕ) (L : List (List ℕ)) → round limit rs t k ≡ Ok L → (A e : ℕ) → A < 2 ^ t.count → e < t.count → (s : List Symbol)
      → has (winning t (assigned (formula_at L)) A s) e ≡ true → Tree rs (LeadsInto t A e) s
  wins_tree limit within k L q A e small start s won =
      subst (Tree rs (LeadsInto t A e)) (append-nil s)
      (sound_round (LeadsInto t A e) e start limit within k L q s A [] [] small tt (ap (has (winning t (assigned (formula_at L)) A s)) (m.right e start) ∙ won)
      (λ v o i. leaf v (append-nil (commands v)) (o, i)))
