-- The game itself, on lists of symbols.
use Rattle.std.specs.Prelude.{◌≡◌, ℕ, true, List, [], ◌∷◌, ◌++◌, map}
use Rattle.foundation.specs.Bits.{has}
use Rattle.rules.specs.Meaning.{Below}
use Rattle.rules.specs.Tables.{Table, number_of, join_of}
use Rattle.formulas.specs.declared.symbol.Owner.TheVariants.{Station, Field}
use Rattle.formulas.specs.declared.symbol.Symbol.{Symbol}
use Rattle.formulas.specs.declared.symbol.Symbol.TheVariants.{Command, Procedure}
use Rattle.formulas.specs.Symbols.{Entry, Of, Belongs}

-- a list of commands alone
abbrev pub commands : List ℕ → List Symbol
commands w = map Command w

-- s is a branch: commands, then the leftmost procedure x, then the rest
abbrev pub Branch : List Symbol → List ℕ → ℕ → List Symbol → Type 0
Branch s w x rest = s ≡ commands w ++ (Procedure x ∷ rest)

-- A finite tree of choices from s, with leaves in L. A step replaces the leftmost procedure by the body of one of its records:
-- at a field's branch the tree goes on by one record, at a station's by every one, and a list of commands alone is a leaf.
pub data Tree (rs : List Entry) (L : List ℕ → Type 0) : List Symbol → Type 0 where
  leaf : {s : List Symbol} (w : List ℕ) → s ≡ commands w → L w → Tree rs L s
  one : {s : List Symbol} (w : List ℕ) (x : ℕ) (rest : List Symbol) → Branch s w x rest → Belongs rs Field x
      → (r : Entry) → Of rs x r → Tree rs L (commands w ++ (r.body ++ rest)) → Tree rs L s
  every : {s : List Symbol} (w : List ℕ) (x : ℕ) (rest : List Symbol) → Branch s w x rest → Belongs rs Station x
      → ((r : Entry) → Of rs x r → Tree rs L (commands w ++ (r.body ++ rest))) → Tree rs L s

module _ (t : Table) where
  -- the number of the effect of a list of commands
  abbrev pub effect_number : List ℕ → ℕ
  effect_number [] = 0
  effect_number (c ∷ w) = join_of t (number_of t c) (effect_number w)

  -- the list has commands of the rule alone, and its effect after e lies in A
  abbrev pub LeadsInto : ℕ → ℕ → List ℕ → Type 0
  LeadsInto A e w = Below t.commands w × (has A (join_of t e (effect_number w)) ≡ true)
