-- An effect table as the code holds it, read as a table.
use Rattle.std.specs.Prelude.{◌≡◌, ℕ, ◌<◌, [], map, length, slice_index_or}
use Rattle.foundation.specs.declared.bounded.Bounded.{Bounded}
use Rattle.foundation.specs.declared.effect_set.EffectSet.{EffectSet}
use Rattle.rules.specs.Behaviours.{Behaviour, LawfulBehaviour}
use Rattle.foundation.specs.Bounds.{items}
use Rattle.rules.specs.Numbering.{Numbers}
use Rattle.rules.specs.Tables.{Table}

-- what its fields say
abbrev pub table_from : Bounded ℕ 16 → Bounded (Bounded ℕ 64) 64 → EffectSet → Table
table_from numbers joins breaking = record {
  commands = length (items numbers);
  count = length (items joins);
  numbers = items numbers;
  joins = map items (items joins);
  breaking = breaking;
}

-- each row of the joins has a number for each effect
abbrev pub Square : Table → Type 0
Square t = (i : ℕ) → i < t.count → length (slice_index_or t.joins i []) ≡ t.count

-- the table numbers the effects of some lawful rule
pub record NumbersSome (t : Table) : Type 0 where
  pub rule : Behaviour
  pub lawful : LawfulBehaviour rule
  pub numbers : Numbers rule t
