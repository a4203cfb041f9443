-- Judging a list, command by command.
use Rattle.std.proofs.Common.{refl, ◌≡◌, ℕ, ◌<◌, ◌≤◌, List, [], ◌∷◌, ◌++◌, map, length, Some, None, Option, MatchOption, Bor, sym, ap, ◌∙◌, subst, arith}
use denote.Param.Members.{Mut}
use Rattle.std.specs.Fn.{Called}
use Rattle.std.specs.Iterator.{YieldsThen}
use Rattle.std.specs.List.{FoldsTo}
use Rattle.std.proofs.lemmas.Fn.{chained_keeps}
use Rattle.std.proofs.lemmas.Iterator.{YieldsList}
use Rattle.std.proofs.lemmas.Iterator.Consumers.{YieldsList-turn, YieldsList-end}
use Rattle.std.proofs.lemmas.List.{map_push}
use Rattle.std.proofs.lemmas.Option.{MatchOption-at_some, MatchOption-at_none}
use Rattle.std.proofs.ByRecursion.{All-push, All-get_or}
use Rattle.rules.specs.Judgements.{HasEffect}
use Rattle.rules.specs.Meaning.{Meaning, Lawful, Below, effect}
use Rattle.rules.proofs.Effects.{effect_own, effect_push}

module _ {E : Type 0} (m : Meaning E) (law : Lawful m) where
  -- one turn: the command's effect is joined, or the rule lacks the command
  abbrev pub Turn : E → ℕ → Option E → Type 0
  Turn e c r = m.own e → MatchOption r (m.commands ≤ c) (λ x. (c < m.commands) × (x ≡ m.join e (m.command c)))

  -- e is the effect of w
  abbrev Taken : List ℕ → E → Type 0
  Taken w e = Below m.commands w × (e ≡ effect m w)

  taken_own : (w : List ℕ) (e : E) → Taken w e → m.own e
  taken_own w e (below, is) = subst m.own (sym is) (effect_own m law w below)

  taken_more : (w : List ℕ) (c : ℕ) (e x : E) → Taken w e → (c < m.commands) × (x ≡ m.join e (m.command c)) → Taken (w ++ c ∷ []) x
  taken_more w c e x (below, is) (lt, joined) =
      (All-push (λ k. k < m.commands) w c below lt, joined ∙ ap (λ y. m.join y (m.command c)) is ∙ sym (effect_push m law w c below lt))

  module _ {F : Type 0} (g : Mut F (E × (Bor ℕ × Unit {0})) (Option E)) (f : F)
      (turn : (e : E) (y : Bor ℕ) (r : Option E) (h : F) → Called g f (e, (y, tt)) r h → (h ≡ f) × Turn e y.now r) where
    -- the closure is as it was, and so far it has the effect of these commands
    abbrev So : List (Bor ℕ) → F × E → Type 0
    So ys p = (p.0 ≡ f) × Taken (map (λ y. y.now) ys) p.1

    at_turn : (h : F) (e : E) (y : Bor ℕ) (r : Option E) (k : F) → h ≡ f → Called g h (e, (y, tt)) r k → (k ≡ f) × Turn e y.now r
    at_turn h e y r k is call = turn e y r k (subst (λ j. Called g j (e, (y, tt)) r k) is call)

    -- a call that went on
    abbrev pub Goes : F × E → Bor ℕ → F × E → Type 0
    Goes p y q = (r : Option E) × Called g p.0 (p.1, (y, tt)) r q.0 × (r ≡ Some q.1)

    so_more : (ys : List (Bor ℕ)) (p : F × E) (y : Bor ℕ) (q : F × E) → So ys p → Goes p y q → So (ys ++ y ∷ []) q
    so_more ys p y q (kept, taken) (r, call, is) =
        let t = at_turn p.0 p.1 y r q.0 kept call in
        let k = MatchOption-at_some (m.commands ≤ y.now) (λ x. (y.now < m.commands) × (x ≡ m.join p.1 (m.command y.now))) q.1 is (t.1 (taken_own _ p.1 taken)) in
        (t.0, subst (λ v. Taken v q.1) (sym (map_push (λ (z : Bor ℕ). z.now) ys y)) (taken_more (map (λ (z : Bor ℕ). z.now) ys) y.now p.1 q.1 taken k))

    -- the loop went over the whole list, or ended at a call that gave nothing (it hands over a D)
    abbrev pub Ended : Type 0 → Option E → F → E → Option (Bor ℕ) → Type 0
    Ended D r h e o = MatchOption o (r ≡ Some e) (λ y. (v : Option E) × (k : F) × D × Called g h (e, (y, tt)) v k × (v ≡ None) × (r ≡ None))

    pub folded : {S : Type 0} {steps : S → Option (Bor ℕ) → S → Type 0} {s : S} {w : List ℕ} (D : Type 0) (u : S) (r : Option E) → (ys : List (Bor ℕ)) × (o : Option (Bor ℕ)) × (h : F) × (e : E) × YieldsThen steps s ys o u × FoldsTo {P = F × E} Goes (f, m.neutral) ys (h, e) × Ended D r h e o → YieldsList steps (λ y. y.now) s w
        → MatchOption r (Below m.commands w → ⊥) (HasEffect m w)
    folded {s = s} {w = w} D u r (ys, o, h, e, (t, yields, step), folds, ends) road = at o refl ends
      where
        so : So ys (h, e)
        so = chained_keeps _ So so_more ys (f, m.neutral) (h, e) (refl, (tt, refl)) folds

        at : (p : Option (Bor ℕ)) → o ≡ p → Ended D r h e p → MatchOption r (Below m.commands w → ⊥) (HasEffect m w)
        at None is done =
            let all = (YieldsList-end road ys t yields o u is step).0 in
            let k : Taken w e = subst (λ v. Taken v e) all so.1 in
            subst (λ v. MatchOption v (Below m.commands w → ⊥) (HasEffect m w)) (sym done) (record { below = k.0; is = k.1; own = taken_own w e k })
        at (Some x) is (v, k, d, call, none, gave) =
            let i = YieldsList-turn road ys t yields o u x is step in
            let lacks : m.commands ≤ x.now = MatchOption-at_none (m.commands ≤ x.now) (λ z. (x.now < m.commands) × (z ≡ m.join e (m.command x.now))) none ((at_turn h e x v k so.0 call).1 (taken_own _ e so.1)) in
            subst (λ z. MatchOption z (Below m.commands w → ⊥) (HasEffect m w)) (sym gave)
            (λ below. let b = All-get_or (λ c. c < m.commands) w (length ys) x.now i.0 below in omega (arith, i.1))
