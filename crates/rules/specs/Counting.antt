-- Counts: sums of weights modulo m.
use Rattle.std.specs.Prelude.{◌≡◌, ℕ, ◌+◌, ◌%◌, ◌<◌, ◌≤◌, true, not, ◌↔◌, List, length, nat_eq, slice_index, sum_by}
use Rattle.rules.specs.declared.fault.RuleFault.{RuleFault}
use Rattle.rules.specs.declared.fault.RuleFault.TheVariants.{ChartLength, ChartRecord, Modulus, WeightCount, Weight, Mask}
use Rattle.foundation.specs.Bits.{has}
use Rattle.rules.specs.Meaning.{Meaning, Below, effect, Permitted}

abbrev pub counted : ℕ → List ℕ → ℕ → Meaning ℕ
counted m weights mask = record {
  commands = length weights;
  own = λ e. e < m;
  command = λ c. slice_index weights c;
  neutral = 0;
  join = λ a b. (a + b) % m;
  same = nat_eq;
  breaks = λ e. not (has mask e);
}

-- the sum of the weights of a list's commands
abbrev pub total : List ℕ → List ℕ → ℕ
total weights w = sum_by (slice_index weights) w

-- x is the count with this modulus, these weights and this mask of permitted residues
pub record Counts (m : ℕ) (weights : List ℕ) (mask : ℕ) (x : Meaning ℕ) : Type 0 where
  pub commands : x.commands ≡ length weights
  pub sums : (w : List ℕ) → Below (length weights) w → effect x w ≡ total weights w % m
  pub permits : (w : List ℕ) → Permitted x w ↔ (Below (length weights) w × (has mask (total weights w % m) ≡ true))

-- ---- what makes a count, in the order in which it is looked at

abbrev pub Modular : ℕ → Type 0
Modular m = (1 ≤ m) × (m ≤ 64)

abbrev pub Few : List ℕ → Type 0
Few weights = (1 ≤ length weights) × (length weights ≤ 16)

-- the first n weights are below m
abbrev pub Residues : ℕ → List ℕ → ℕ → Type 0
Residues m weights n = (i : ℕ) → i < n → slice_index weights i < m

abbrev pub Masks : ℕ → ℕ → Type 0
Masks m mask = (k : ℕ) → has mask k ≡ true → k < m

-- these numbers are a count
abbrev pub Countable : ℕ → List ℕ → ℕ → Type 0
Countable m weights mask = Modular m × Few weights × Residues m weights (length weights) × Masks m mask

-- the first thing that is wrong with them
abbrev pub Uncountable : ℕ → List ℕ → ℕ → RuleFault → Type 0
Uncountable m weights mask Modulus = ¬ Modular m
Uncountable m weights mask WeightCount = Modular m × (¬ Few weights)
Uncountable m weights mask (Weight i) = Modular m × Few weights × (i < length weights) × (m ≤ slice_index weights i) × Residues m weights i
Uncountable m weights mask Mask = Modular m × Few weights × Residues m weights (length weights) × (¬ Masks m mask)
Uncountable m weights mask (ChartLength whole) = ⊥
Uncountable m weights mask (ChartRecord i) = ⊥
