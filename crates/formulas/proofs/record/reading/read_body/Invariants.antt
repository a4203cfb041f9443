use Rattle.std.proofs.Common.{◌≡◌, length}
use Rattle.foundation.specs.Bounds.{items}
use Rattle.formulas.proofs.Forms.{Reading}
use Rattle.formulas.proofs.record.reading.read_body.Given as goal

abbrev pub invariant-loop-byte : goal.invariant-loop-byte
invariant-loop-byte l = Reading l.bytes (items l.body) l.byte-index × (length (items l.body) ≡ l.byte-index)
