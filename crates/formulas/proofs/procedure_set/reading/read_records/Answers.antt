use Rattle.std.proofs.Common.{◌≡◌, ◌+◌, ◌<◌, [], ◌∷◌, ◌++◌, map, length, OnOk, Err, sym, ap, ◌∙◌, subst, arith}
use Rattle.std.specs.Iterator.Adapters.{enumerate_source, enumerate_count}
use Rattle.std.specs.Slice.Iter.{chunks_exact_rest}
use Rattle.std.proofs.lemmas.List.{length_push, map_push}
use Rattle.std.proofs.lemmas.Result.{err_from_is_err_and}
use Rattle.foundation.specs.Bounds.{items}
use Rattle.formulas.specs.declared.fault.RecordsFault.TheVariants.{Form}
use Rattle.formulas.specs.Entries.{entry_of}
use Rattle.formulas.specs.Records.{listed}
use Rattle.formulas.proofs.Passes.{Cut, Forming, read_some, read_none, cut_more, cut_there, cut_end, forming_start, forming_more, forming_stop, forming_end, whole_from}
use Rattle.formulas.proofs.procedure_set.reading.read_records.Goals as goal

pub loop-i-init : goal.loop-i-init
loop-i-init c =
    let none : enumerate_count c.into_iter-i-iterator.result ≡ 0 = cc in
    record {
      formed = subst (Forming c.args.bytes.now _) (sym none) (forming_start c.args.bytes.now (map entry_of (items c.empty-records.result)) (ap (map entry_of) c.empty-records.ensures));
      counted = ap length c.empty-records.ensures ∙ sym none;
      cut = subst (Cut c.args.bytes.now _) (sym none) (let whole : chunks_exact_rest (enumerate_source c.into_iter-i-iterator.result) ≡ c.args.bytes.now = cc in whole);
      size = cc;
    }

pub unwrap-requires : goal.unwrap-requires
unwrap-requires c =
    let before = c.loop-i.invariant in
    let step = c.in-Some.ensures.steps in
    let there = cut_there c.args.bytes.now (chunks_exact_rest (enumerate_source c.loop-i.i-iterator)) (chunks_exact_rest (enumerate_source c.next.new.self)) c.in-Some.piece.now
    (enumerate_count c.loop-i.i-iterator) before.cut step.0.1.0 (step.0.1.1 ∙ before.size) in
    c.push.ensures.room.1 (omega (arith, before.counted, there, c.if-whole-gt-MOST_RECORDS.false))

pub loop-i-preserved : goal.loop-i-preserved
loop-i-preserved c =
    let bytes = c.args.bytes.now in
    let old = items c.loop-i.records in
    let new = items c.push.new.self in
    let r = c.in_ok-record.«record» in
    let i = enumerate_count c.loop-i.i-iterator in
    let before = c.loop-i.invariant in
    let step = c.in-Some.ensures.steps in
    let left = chunks_exact_rest (enumerate_source c.loop-i.i-iterator) in
    let next = chunks_exact_rest (enumerate_source c.next.new.self) in
    let long : length c.in-Some.piece.now ≡ 12 = step.0.1.1 ∙ before.size in
    let e : new ≡ old ++ r ∷ [] = subst (λ x. OnOk x (new ≡ old ++ r ∷ [])) c.unwrap.ensures c.push.ensures.ok in
    record {
      formed = subst (Forming bytes _) (sym step.2)
          (forming_more bytes (map entry_of old) i before.formed left next c.in-Some.piece.now before.cut step.0.1.0 long (map entry_of new) (entry_of r)
          (read_some entry_of (Form c.in-Some.i) c.read.result r c.in_ok-record.ensures.value ∙ c.read.ensures) (ap (map entry_of) e ∙ map_push entry_of old r));
      counted = ap length e ∙ length_push old r ∙ ap (λ n. n + 1) before.counted ∙ sym step.2;
      cut = subst (Cut bytes next) (sym step.2) (cut_more bytes left next c.in-Some.piece.now i before.cut step.0.1.0 long);
      size = step.0.0 ∙ before.size;
    }

pub returns-in_err-record : goal.returns-in_err-record
returns-in_err-record c =
    let before = c.loop-i.invariant in
    let step = c.in-Some.ensures.steps in
    let none = read_none entry_of (Form c.in-Some.i) c.read.result c.in_err-record.field-0.0 c.in_err-record.ensures.value in
    let p = err_from_is_err_and c.from_residual.result c.from_residual.ensures.1 in
    ap listed (p.1 ∙ ap Err (p.2 ∙ none.0 ∙ ap Form step.1))
    ∙ forming_stop c.args.bytes.now (map entry_of (items c.loop-i.records)) (enumerate_count c.loop-i.i-iterator) before.formed (chunks_exact_rest (enumerate_source c.loop-i.i-iterator))
    (chunks_exact_rest (enumerate_source c.next.new.self)) c.in-Some.piece.now before.cut step.0.1.0 (step.0.1.1 ∙ before.size)
    (whole_from c.args.bytes.now c.if-bytes-ne0.false c.if-whole-eq0.false c.if-whole-gt-MOST_RECORDS.false) (none.1 ∙ c.read.ensures)

pub returns : goal.returns
returns c =
    let before = c.loop-i.invariant in
    let step = c.in-None.ensures.steps in
    let left = chunks_exact_rest (enumerate_source c.loop-i.i-iterator) in
    forming_end c.args.bytes.now (map entry_of (items c.loop-i.records)) (enumerate_count c.loop-i.i-iterator)
    (whole_from c.args.bytes.now c.if-bytes-ne0.false c.if-whole-eq0.false c.if-whole-gt-MOST_RECORDS.false)
    (cut_end c.args.bytes.now left (enumerate_count c.loop-i.i-iterator) before.cut (let short : length left < 12 = omega (arith, step.0.1.0, before.size) in short)) before.formed
