-- A rule seen from outside, by lists of command numbers.
use Rattle.std.specs.Prelude.{◌≡◌, ℕ, ◌≤◌, Bool, true, List, ◌++◌}
use Rattle.rules.specs.Meaning.{Meaning, Below, effect}

pub record Behaviour : Type 0 where
  pub commands : ℕ
  pub same : List ℕ → List ℕ → Bool  -- the two lists have one effect
  pub breaks : List ℕ → Bool  -- the list's effect breaks the rule

abbrev pub behaviour : {E : Type 0} → Meaning E → Behaviour
behaviour m = record {
  commands = m.commands;
  same = λ u v. m.same (effect m u) (effect m v);
  breaks = λ w. m.breaks (effect m w);
}

-- What the laws of a rule leave of it, seen so: to have one effect is an equivalence, which lists keep when they are put one after the other.
pub record LawfulBehaviour (b : Behaviour) : Type 0 where
  pub some : 1 ≤ b.commands
  pub few : b.commands ≤ 16
  pub reflexive : (u : List ℕ) → Below b.commands u → b.same u u ≡ true
  pub symmetric : (u v : List ℕ) → Below b.commands u → Below b.commands v → b.same u v ≡ true → b.same v u ≡ true
  pub transitive : (u v w : List ℕ) → Below b.commands u → Below b.commands v → Below b.commands w → b.same u v ≡ true → b.same v w ≡ true → b.same u w ≡ true
  pub joined : (u v x y : List ℕ) → Below b.commands u → Below b.commands v → Below b.commands x → Below b.commands y
      → b.same u v ≡ true → b.same x y ≡ true → b.same (u ++ x) (v ++ y) ≡ true
  pub broken : (u v : List ℕ) → Below b.commands u → Below b.commands v → b.same u v ≡ true → b.breaks u ≡ b.breaks v
