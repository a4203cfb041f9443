-- What it says that a table numbers the effects of a rule.
use Rattle.std.specs.Prelude.{◌≡◌, ℕ, ◌<◌, ◌≤◌, true, false, ◌⊎◌, ◌↔◌, List, [], ◌∷◌, ◌++◌, length, Some, ◌≢◌, slice_index_or}
use Rattle.std.specs.List.{AllByRecursion, slice_get}
use Rattle.rules.specs.Behaviours.{Behaviour, behaviour}
use Rattle.foundation.specs.Bits.{has}
use Rattle.rules.specs.Meaning.{Meaning, Below, effect}
use Rattle.rules.specs.Tables.{Table, number_of, join_of}

-- the command c after the effect numbered i is looked at before the command d after the effect numbered j
abbrev pub Before : ℕ → ℕ → ℕ → ℕ → Type 0
Before i c j d = (i < j) ⊎ ((i ≡ j) × (c < d))

-- The effect numbered n was met by a command after one of a smaller number, and all that was looked at before has a smaller number.
pub record Meeting (commands : ℕ) (number : List ℕ → ℕ) (list : ℕ → List ℕ) (n : ℕ) : Type 0 where
  pub after : ℕ
  pub by : ℕ
  pub earlier : after < n
  pub command : by < commands
  pub is : list n ≡ list after ++ by ∷ []
  pub before : (i c : ℕ) → c < commands → Before i c after by → number (list i ++ c ∷ []) < n

-- The table numbers the effects that the lists of commands have.
pub record Numbers (b : Behaviour) (t : Table) : Type 0 where
  pub commands : t.commands ≡ b.commands
  pub number : List ℕ → ℕ  -- the number of a list's effect
  pub below : (w : List ℕ) → Below b.commands w → number w < t.count
  pub same : (u v : List ℕ) → Below b.commands u → Below b.commands v → (number u ≡ number v) ↔ (b.same u v ≡ true)
  pub list : ℕ → List ℕ  -- the list by which a number was met
  pub own : (n : ℕ) → n < t.count → Below b.commands (list n)
  pub met : (n : ℕ) → n < t.count → number (list n) ≡ n
  pub none : number [] ≡ 0
  pub first : list 0 ≡ []
  pub order : (n : ℕ) → 0 < n → n < t.count → Meeting b.commands number list n
  pub single : (c : ℕ) → c < b.commands → number_of t c ≡ number (c ∷ [])
  pub joins : (u v : List ℕ) → Below b.commands u → Below b.commands v → join_of t (number u) (number v) ≡ number (u ++ v)
  pub breaks : (w : List ℕ) → Below b.commands w → has t.breaking (number w) ≡ b.breaks w
  pub clear : (k : ℕ) → t.count ≤ k → has t.breaking k ≡ false

-- The table numbers the rule, and the slice that held old holds the effects by their numbers.
pub record Numbered {E : Type 0} (m : Meaning E) (t : Table) (old new : List E) : Type 0 where
  pub numbers : Numbers (behaviour m) t
  pub effects : (u v : List ℕ) → Below m.commands u → Below m.commands v → (numbers.number u ≡ numbers.number v) ↔ (effect m u ≡ effect m v)
  pub held : (w : List ℕ) → Below m.commands w → slice_get new (numbers.number w) ≡ Some (effect m w)
  pub kept : (k : ℕ) → t.count ≤ k → slice_get new k ≡ slice_get old k

-- The rule has more effects than there is room: so many that differ stand in the slice, and one more exists.
pub record Exceeds {E : Type 0} (m : Meaning E) (room : ℕ) (old new : List E) : Type 0 where
  pub lists : List (List ℕ)
  pub full : length lists ≡ room
  pub own : AllByRecursion (Below m.commands) lists
  pub differ : (i j : ℕ) → i < j → j < room → effect m (slice_index_or lists i []) ≢ effect m (slice_index_or lists j [])
  pub more : List ℕ
  pub more_own : Below m.commands more
  pub more_differs : (i : ℕ) → i < room → effect m (slice_index_or lists i []) ≢ effect m more
  pub held : (i : ℕ) → i < room → slice_get new i ≡ Some (effect m (slice_index_or lists i []))
  pub kept : (k : ℕ) → room ≤ k → slice_get new k ≡ slice_get old k
