-- What an order rule means: its effects, how they join, and which of them break it.
use Rattle.std.specs.Prelude.{◌≡◌, ℕ, ◌<◌, ◌≤◌, Bool, true, false, List, [], ◌∷◌, Decides}
use Rattle.std.specs.List.{AllByRecursion}

-- All that a rule with effects of type E offers, as one value.
pub record Meaning (E : Type 0) : Type 1 where
  pub commands : ℕ  -- C: the commands are the numbers below it
  pub own : E → Type 0  -- the values of E that are effects of this rule
  pub command : ℕ → E  -- the effect of a command below C
  pub neutral : E  -- the effect of doing nothing
  pub join : E → E → E  -- one effect after another, the left one first
  pub same : E → E → Bool
  pub breaks : E → Bool

-- The laws. Each speaks of the rule's own effects only.
pub record Lawful {E : Type 0} (m : Meaning E) : Type 0 where
  pub some : 1 ≤ m.commands
  pub few : m.commands ≤ 16
  pub own_neutral : m.own m.neutral
  pub own_command : (c : ℕ) → c < m.commands → m.own (m.command c)
  pub own_join : (a b : E) → m.own a → m.own b → m.own (m.join a b)
  pub assoc : (a b c : E) → m.own a → m.own b → m.own c → m.join (m.join a b) c ≡ m.join a (m.join b c)
  pub left : (a : E) → m.own a → m.join m.neutral a ≡ a
  pub right : (a : E) → m.own a → m.join a m.neutral ≡ a
  pub same_is : (a b : E) → m.own a → m.own b → Decides (m.same a b) (a ≡ b)

-- A list of commands, each below n.
abbrev pub Below : ℕ → List ℕ → Type 0
Below n w = AllByRecursion (λ c. c < n) w

-- The effect of a list of commands: the join of theirs, and the neutral one of none.
abbrev pub effect : {E : Type 0} → Meaning E → List ℕ → E
effect m [] = m.neutral
effect m (c ∷ w) = m.join (m.command c) (effect m w)

-- A list with a command at or above C is neither permitted nor forbidden.
abbrev pub Permitted : {E : Type 0} → Meaning E → List ℕ → Type 0
Permitted m w = Below m.commands w × (m.breaks (effect m w) ≡ false)

abbrev pub Forbidden : {E : Type 0} → Meaning E → List ℕ → Type 0
Forbidden m w = Below m.commands w × (m.breaks (effect m w) ≡ true)
