-- How many items a bounded list holds, and that there is room for them.
use Rattle.std.specs.Prelude.{◌≡◌, ℕ, ◌≤◌, length}
use Rattle.std.proofs.Common.{arith, length-take}
use Rattle.foundation.specs.declared.bounded.Bounded.{Bounded}
use Rattle.foundation.specs.Bounds.{items}

pub length_items : {T : Type 0} {N : ℕ} (b : Bounded T N) → length (items b) ≡ b.len
length_items b = omega (arith, length-take b.len b.cells, b.few, b.whole)

pub items_fit : {T : Type 0} {N : ℕ} (b : Bounded T N) → length (items b) ≤ N
items_fit b = omega (arith, length_items b, b.few)
