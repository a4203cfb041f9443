use Rattle.std.proofs.Common.{◌∙◌}
use Rattle.foundation.specs.Bounds.{items}
use Rattle.formulas.proofs.Forms.{entry_read, symbols_sound}
use Rattle.formulas.proofs.record.Record.read.Goals as goal

pub invariant_of-result : goal.invariant_of-result
invariant_of-result c = record {
  known = c.if-procedure-ge-PROCEDURES.false;
  sound = symbols_sound c.split_at.result.0.now (items c.in_ok-read_body.field-0) c.in_ok-read_body.ensures;
}

pub returns : goal.returns
returns c =
    entry_read c.args.bytes.now c.from-len.result c.split_at.result.0.now c.split_at.result.1.now c.from-len.ensures c.split_at.ensures.front c.split_at.ensures.back
    c.in_ok-ok.field-0 (items c.in_ok-read_body.field-0) c.if-bytes-ne-RECORD_LEN.false c.if-procedure-ge-PROCEDURES.false c.if-len-gt-LONGEST.false
    c.if-not-is_filled.ensures (c.in_ok-ok.ensures.value ∙ c.try_from.ensures) c.in_ok-read_body.ensures
