-- Charts as finite automata: what the bytes name, and which lists are accepted.
use Rattle.std.specs.Prelude.{◌≡◌, ℕ, ◌*◌, ◌/◌, ◌%◌, ◌<◌, ◌≤◌, ◌⊎◌, ◌↔◌, List, [], ◌∷◌, length, take, drop, replicate}
use Rattle.rules.specs.declared.fault.RuleFault.{RuleFault}
use Rattle.rules.specs.declared.fault.RuleFault.TheVariants.{ChartLength, ChartRecord, Modulus, WeightCount, Weight, Mask}

-- ---- bytes

-- the records stand back to back, 12 bytes each
abbrev pub record_at : List ℕ → ℕ → List ℕ
record_at bytes i = take 12 (drop (12 * i) bytes)

-- an arrow from p by the command c to q
abbrev pub arrow_bytes : ℕ → ℕ → ℕ → List ℕ
arrow_bytes p c q = 0 ∷ p ∷ c ∷ q ∷ replicate 8 255

-- a final state
abbrev pub final_bytes : ℕ → List ℕ
final_bytes q = 1 ∷ q ∷ replicate 10 255

abbrev pub ArrowForm : List ℕ → ℕ → ℕ → ℕ → Type 0
ArrowForm bs p c q = (p < 8) × (c < 16) × (q < 8) × (bs ≡ arrow_bytes p c q)

abbrev pub FinalForm : List ℕ → ℕ → Type 0
FinalForm bs q = (q < 8) × (bs ≡ final_bytes q)

-- a record is one or the other
abbrev pub Formed : List ℕ → Type 0
Formed bs = ((p : ℕ) × (c : ℕ) × (q : ℕ) × ArrowForm bs p c q) ⊎ ((q : ℕ) × FinalForm bs q)

-- at most 1,024 whole records
abbrev pub Whole : List ℕ → Type 0
Whole bytes = (length bytes % 12 ≡ 0) × (length bytes ≤ 12288)

-- the bytes are a chart
abbrev pub Chartable : List ℕ → Type 0
Chartable bytes = Whole bytes × ((i : ℕ) → i < length bytes / 12 → Formed (record_at bytes i))

-- the first thing that is wrong with them
abbrev pub Unchartable : List ℕ → RuleFault → Type 0
Unchartable bytes (ChartLength n) = (¬ Whole bytes) × (n ≡ length bytes / 12)
Unchartable bytes (ChartRecord n) = Whole bytes × (n < length bytes / 12) × (¬ Formed (record_at bytes n)) × ((i : ℕ) → i < n → Formed (record_at bytes i))
Unchartable bytes Modulus = ⊥
Unchartable bytes WeightCount = ⊥
Unchartable bytes (Weight i) = ⊥
Unchartable bytes Mask = ⊥

-- ---- the automaton that the first n records name

abbrev pub Arrow : List ℕ → ℕ → ℕ → ℕ → ℕ → Type 0
Arrow bytes n p c q = (i : ℕ) × (i < n) × ArrowForm (record_at bytes i) p c q

abbrev pub Final : List ℕ → ℕ → ℕ → Type 0
Final bytes n q = (i : ℕ) × (i < n) × FinalForm (record_at bytes i) q

-- the list w leads from the state p to the state q, an arrow for each command
abbrev pub Leads : List ℕ → ℕ → List ℕ → ℕ → Type 0
Leads bytes p [] q = p ≡ q
Leads bytes p (c ∷ w) q = (r : ℕ) × Arrow bytes (length bytes / 12) p c r × Leads bytes r w q

-- from state 0 to a final state
abbrev pub Accepts : List ℕ → List ℕ → Type 0
Accepts bytes w = (q : ℕ) × Final bytes (length bytes / 12) q × Leads bytes 0 w q

-- the two lists lead between the same states
abbrev pub LeadAlike : List ℕ → List ℕ → List ℕ → Type 0
LeadAlike bytes u v = (p q : ℕ) → p < 8 → q < 8 → Leads bytes p u q ↔ Leads bytes p v q
