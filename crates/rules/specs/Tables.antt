-- The effect table: what is known of a rule once its effects have numbers.
use Rattle.std.specs.Prelude.{ℕ, Bool, List, [], ◌∷◌, ◌++◌, map, length, slice_index, slice_index_or, unwrap_or}
use Rattle.std.specs.List.{range_with_len}
use Rattle.rules.specs.Behaviours.{Behaviour}
use Rattle.foundation.specs.Bits.{number}
use Rattle.rules.specs.Meaning.{Meaning}
use Rattle.rules.specs.Register.{place}

pub record Table : Type 0 where
  pub commands : ℕ
  pub count : ℕ  -- how many effects there are
  pub numbers : List ℕ  -- the number of each command's effect
  pub joins : List (List ℕ)  -- row i has the numbers of effect i joined with each effect
  pub breaking : ℕ  -- the set of breaking numbers

abbrev pub number_of : Table → ℕ → ℕ
number_of t c = slice_index t.numbers c

abbrev pub join_of : Table → ℕ → ℕ → ℕ
join_of t i j = slice_index (slice_index_or t.joins i []) j

-- ---- the table of a register, of effects or of the lists that lead to them

-- the number of e in the register
abbrev pub numbered : {E : Type 0} → (E → E → Bool) → List E → E → ℕ
numbered same reg e = unwrap_or (place same 0 reg e) 0

abbrev pub join_row : {E : Type 0} → (E → E → Bool) → (E → E → E) → List E → E → List ℕ
join_row same join reg x = map (λ y. numbered same reg (join x y)) reg

abbrev pub breaking_set : {E : Type 0} → (E → Bool) → E → List E → ℕ
breaking_set breaks d reg = number (λ k. breaks (slice_index_or reg k d)) (length reg)

abbrev pub effects_table : {E : Type 0} → Meaning E → List E → Table
effects_table m reg = record {
  commands = m.commands;
  count = length reg;
  numbers = map (λ c. numbered m.same reg (m.command c)) (range_with_len 0 m.commands);
  joins = map (join_row m.same m.join reg) reg;
  breaking = breaking_set m.breaks m.neutral reg;
}

abbrev pub lists_table : Behaviour → List (List ℕ) → Table
lists_table b reg = record {
  commands = b.commands;
  count = length reg;
  numbers = map (λ c. numbered b.same reg (c ∷ [])) (range_with_len 0 b.commands);
  joins = map (join_row b.same ◌++◌ reg) reg;
  breaking = breaking_set b.breaks [] reg;
}
