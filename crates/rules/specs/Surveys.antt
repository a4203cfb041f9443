-- What making an effect table answers, and what it leaves in the caller's slice.
use Rattle.std.specs.Prelude.{◌≡◌, ℕ, ◌<◌, ◌≤◌, if◌then◌else◌, List, map, length, Ok, Err, Result, nat_lt}
use Rattle.std.specs.Result.{result_map_both as by_cases}
use Rattle.rules.specs.declared.fault.EffectsFault.{EffectsFault}
use Rattle.rules.specs.declared.fault.EffectsFault.TheVariants.{TooMany, ShortSlice}
use Rattle.rules.specs.declared.table.EffectTable.{EffectTable}
use Rattle.rules.specs.Behaviours.{Behaviour, behaviour}
use Rattle.rules.specs.Meaning.{Meaning, effect}
use Rattle.rules.specs.Numbering.{Numbered, Exceeds}
use Rattle.rules.specs.Register.{Survey, complete, overfull, entries, met_lists, written}
use Rattle.rules.specs.Tables.{Table, lists_table}
use Rattle.rules.specs.Views.{table_from}

abbrev pub view : EffectTable → Table
view t = table_from t.numbers t.joins t.breaking

abbrev pub viewed : Result EffectTable EffectsFault → Result Table EffectsFault
viewed = by_cases view (λ f. f)

abbrev pub tabled_by : Behaviour → Survey (List ℕ) → Result Table EffectsFault
tabled_by b (complete ws) = Ok (lists_table b ws)
tabled_by b (overfull ws w) = Err TooMany

-- the answer for a slice of n entries
abbrev pub tabled : Behaviour → ℕ → Result Table EffectsFault
tabled b n = if nat_lt n 64 then Err (ShortSlice n) else tabled_by b (met_lists b)

-- the slice after
abbrev pub slice_after : {E : Type 0} → Meaning E → List E → List E
slice_after m old = if nat_lt (length old) 64 then old else written (map (effect m) (entries (met_lists (behaviour m)))) old

-- In words: a table is answered that numbers the rule, and is refused exactly for a slice that is too short, else for a rule with too many effects.
abbrev pub Surveyed : {E : Type 0} → Meaning E → List E → List E → Result EffectTable EffectsFault → Type 0
Surveyed m old new (Ok t) = (64 ≤ length old) × Numbered m (view t) old new
Surveyed m old new (Err TooMany) = (64 ≤ length old) × Exceeds m 64 old new
Surveyed m old new (Err (ShortSlice n)) = (length old < 64) × (n ≡ length old) × (new ≡ old)

-- ---- between the steps of the code

-- met holds all effects of the rule, by number
pub record AllMet {E : Type 0} (m : Meaning E) (met : List E) : Type 0 where
  pub lists : List (List ℕ)
  pub closed : met_lists (behaviour m) ≡ complete lists
  pub effects : met ≡ map (effect m) lists
