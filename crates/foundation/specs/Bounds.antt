-- A bounded list by the items that it holds.
use Rattle.std.specs.Prelude.{ℕ, List, take}
use Rattle.foundation.specs.declared.bounded.Bounded.{Bounded}

abbrev pub items : {T : Type 0} {N : ℕ} → Bounded T N → List T
items b = take b.len b.cells
