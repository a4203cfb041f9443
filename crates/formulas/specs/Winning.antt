-- Winning sets: the effects after which the field wins a list of symbols, where a set of effects is forbidden.
use Rattle.std.specs.Prelude.{ℕ, Bool, List, [], ◌∷◌, Some, None, Option}
use Rattle.foundation.specs.Bits.{has, number}
use Rattle.rules.specs.Lookups.{table_command}
use Rattle.rules.specs.Tables.{Table, join_of}
use Rattle.formulas.specs.declared.symbol.Symbol.{Symbol}
use Rattle.formulas.specs.declared.symbol.Symbol.TheVariants.{Command, Procedure}
use Rattle.formulas.specs.Formulas.{meets}

-- for each procedure and each set of effects, whether the field wins the procedure where that set is forbidden
abbrev pub Assignment : Type 0
Assignment = ℕ → ℕ → Bool

-- the field wins where every clause has a member in the set
abbrev pub assigned : (ℕ → List ℕ) → Assignment
assigned lists x A = meets (has A) (lists x)

module _ (t : Table) where
  -- the set of the effects e with f e
  abbrev pub effects_where : (ℕ → Bool) → ℕ
  effects_where f = number f t.count

  -- the effects that lead into A after e
  abbrev pub after_effect : ℕ → ℕ → ℕ
  after_effect A e = effects_where (λ k. has A (join_of t e k))

  -- the effects after which a command leads into A; one that the rule lacks never does
  abbrev pub before_command : Option ℕ → ℕ → ℕ
  before_command None A = 0
  before_command (Some c) A = effects_where (λ e. has A (join_of t e c))

  -- the effects after which the field wins a procedure, where it must come into A
  abbrev pub before_procedure : (ℕ → Bool) → ℕ → ℕ
  before_procedure wins A = effects_where (λ e. wins (after_effect A e))

  -- in front of a set, by one symbol
  abbrev pub before_symbol : Assignment → Symbol → ℕ → ℕ
  before_symbol φ (Command c) A = before_command (table_command t c) A
  before_symbol φ (Procedure x) A = before_procedure (φ x) A

  -- the winning set of a list
  abbrev pub winning : Assignment → ℕ → List Symbol → ℕ
  winning φ A [] = A
  winning φ A (s ∷ ss) = before_symbol φ s (winning φ A ss)
