-- Effects of lists under a lawful rule.
use Rattle.std.proofs.Common.{◌≡◌, ℕ, ◌<◌, List, [], ◌∷◌, ◌++◌, sym, ap, ◌∙◌}
use Rattle.rules.specs.Meaning.{Meaning, Lawful, Below, effect}

module _ {E : Type 0} (m : Meaning E) (law : Lawful m) where
  pub effect_own : (w : List ℕ) → Below m.commands w → m.own (effect m w)
  effect_own [] o = law.own_neutral
  effect_own (c ∷ w) (h, o) = law.own_join (m.command c) (effect m w) (law.own_command c h) (effect_own w o)

  pub effect-append : (u v : List ℕ) → Below m.commands u → Below m.commands v → effect m (u ++ v) ≡ m.join (effect m u) (effect m v)
  effect-append [] v o p = sym (law.left (effect m v) (effect_own v p))
  effect-append (c ∷ u) v (h, o) p =
      ap (m.join (m.command c)) (effect-append u v o p)
      ∙ sym (law.assoc (m.command c) (effect m u) (effect m v) (law.own_command c h) (effect_own u o) (effect_own v p))

  pub effect_push : (w : List ℕ) (c : ℕ) → Below m.commands w → c < m.commands → effect m (w ++ c ∷ []) ≡ m.join (effect m w) (m.command c)
  effect_push w c o h =
      effect-append w (c ∷ []) o (h, tt) ∙ ap (m.join (effect m w)) (law.right (m.command c) (law.own_command c h))
