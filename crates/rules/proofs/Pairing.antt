-- A pair permits exactly what both of its parts permit.
use Rattle.std.proofs.Common.{◌≡◌, ℕ, ◌<◌, min, ◌||◌, List, [], ◌∷◌, sym, refl, ap, ◌∙◌, inl, inr, ⊎_elim, arith}
use Rattle.std.proofs.lemmas.Bool.{or_parts, or_from, or_cases, or_left, or_right}
use Rattle.std.proofs.ByRecursion.{All-weaker}
use Rattle.rules.specs.declared.lists.Judgement.{Judgement}
use Rattle.rules.specs.declared.lists.Judgement.TheVariants.{Permitted as permitted, Forbidden as forbidden, Neither as neither}
use Rattle.rules.specs.Judgements.{Judged}
use Rattle.rules.specs.Meaning.{Meaning, Below, effect, Forbidden}
use Rattle.rules.specs.Pairs.{paired, PermitsBoth, JudgedBoth}

below_both : (m n : ℕ) (w : List ℕ) → Below m w → Below n w → Below (min m n) w
below_both m n [] p q = tt
below_both m n (c ∷ w) p q = (omega (arith, p.0, q.0), below_both m n w p.1 q.1)

module _ {A B : Type 0} (a : Meaning A) (b : Meaning B) where
  side_by_side : (w : List ℕ) → effect (paired a b) w ≡ (effect a w, effect b w)
  side_by_side [] = refl
  side_by_side (c ∷ w) = ap ((paired a b).join ((paired a b).command c)) (side_by_side w)

  breaks_either : (w : List ℕ) → (paired a b).breaks (effect (paired a b) w) ≡ (a.breaks (effect a w) || b.breaks (effect b w))
  breaks_either w = ap (paired a b).breaks (side_by_side w)

  left_below : (w : List ℕ) → Below (min a.commands b.commands) w → Below a.commands w
  left_below w = All-weaker (λ c. c < min a.commands b.commands) (λ c. c < a.commands) (λ c h. omega arith) w

  right_below : (w : List ℕ) → Below (min a.commands b.commands) w → Below b.commands w
  right_below w = All-weaker (λ c. c < min a.commands b.commands) (λ c. c < b.commands) (λ c h. omega arith) w

  pub permits_both : PermitsBoth a b (paired a b)
  permits_both = record {
    permitted = λ w. (
      (λ h. let p = or_parts (a.breaks (effect a w)) (b.breaks (effect b w)) (sym (breaks_either w) ∙ h.1) in
          ((left_below w h.0, p.0), (right_below w h.0, p.1))),
      (λ h. (
        below_both a.commands b.commands w h.0.0 h.1.0,
        breaks_either w ∙ or_from (a.breaks (effect a w)) (b.breaks (effect b w)) h.0.1 h.1.1,
      )),
    );
    forbidden = λ w. (
      (λ h. (
        left_below w h.0,
        right_below w h.0,
        ⊎_elim (λ p. inl (left_below w h.0, p)) (λ p. inr (right_below w h.0, p))
            (or_cases (a.breaks (effect a w)) (b.breaks (effect b w)) (sym (breaks_either w) ∙ h.1)),
      )),
      (λ h. (
        below_both a.commands b.commands w h.0 h.1,
        breaks_either w ∙ ⊎_elim (λ (p : Forbidden a w). or_left (a.breaks (effect a w)) (b.breaks (effect b w)) p.1) (λ (p : Forbidden b w). or_right (a.breaks (effect a w)) (b.breaks (effect b w)) p.1) h.2,
      )),
    );
  }

  pub judged_both : (w : List ℕ) (j : Judgement) → Judged (paired a b) w j → JudgedBoth a b w j
  judged_both w permitted h = (permits_both.permitted w).0 h
  judged_both w forbidden h = (permits_both.forbidden w).0 h
  judged_both w neither h = λ k. h (below_both a.commands b.commands w k.0 k.1)
