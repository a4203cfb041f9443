-- What the code reads from a record, and what it draws of it.
use Rattle.std.specs.Prelude.{ℕ, ◌+◌, ◌*◌, ◌^◌, ◌<◌, Bool, true, List, bit_or, slice_index, slice_set}
use Rattle.rules.specs.declared.chart.making.ChartRecord.{ChartRecord}
use Rattle.rules.specs.declared.chart.making.ChartRecord.TheVariants.{Arrow, Final}
use Rattle.rules.specs.Automata.{ArrowForm, FinalForm}

abbrev pub Reads : List ℕ → ChartRecord → Type 0
Reads bs (Arrow p c q) = ArrowForm bs p c q
Reads bs (Final q) = FinalForm bs q

-- states and command are in range
abbrev pub Inside : ChartRecord → Type 0
Inside (Arrow p c q) = (p < 8) × (c < 16) × (q < 8)
Inside (Final q) = q < 8

abbrev pub drawn_boxes : ChartRecord → List ℕ → List ℕ
drawn_boxes (Arrow p c q) boxes = slice_set boxes c (bit_or (slice_index boxes c) (2 ^ (8 * p + q)))
drawn_boxes (Final q) boxes = boxes

abbrev pub drawn_finals : ChartRecord → List Bool → List Bool
drawn_finals (Arrow p c q) finals = finals
drawn_finals (Final q) finals = slice_set finals q true
