use Rattle.std.proofs.Common.{◌<◌, map, length, Err, ap, ◌∙◌, arith}
use Rattle.std.proofs.lemmas.List.{length-map}
use Rattle.std.proofs.lemmas.Result.{err_from_is_err_and}
use Rattle.foundation.specs.Bounds.{items}
use Rattle.formulas.specs.Entries.{entry_of}
use Rattle.formulas.specs.Records.{viewed}
use Rattle.formulas.proofs.InWords.{refused_early, refused_owner, refused_body, set_is_read, set_some, set_agreed, set_bodied}
use Rattle.formulas.proofs.OneAnswer.{read_answer}
use Rattle.formulas.proofs.procedure_set.ProcedureSet.read.Goals as goal

pub returns-in_err-records : goal.returns-in_err-records
returns-in_err-records c =
    let p = err_from_is_err_and c.from_residual.result c.from_residual.ensures.1 in
    read_answer c.args.bytes.now _ (refused_early c.args.bytes.now (viewed c.from_residual.result) c.in_err-records.field-0.0 (ap viewed (p.1 ∙ ap Err p.2)) c.in_err-records.ensures)

pub returns-in-Some : goal.returns-in-Some
returns-in-Some c =
    read_answer c.args.bytes.now _
    (refused_owner c.args.bytes.now (map entry_of (items c.in_ok-records.records)) (map entry_of c.as_slice-list.result.now) c.in_ok-records.ensures (ap (map entry_of) c.as_slice-list.ensures)
    c.in-Some.i c.in-Some.ensures)

pub returns-in-Some-first_unrecorded : goal.returns-in-Some-first_unrecorded
returns-in-Some-first_unrecorded c =
    read_answer c.args.bytes.now _
    (refused_body c.args.bytes.now (map entry_of (items c.in_ok-records.records)) (map entry_of c.as_slice-list.result.now) c.in_ok-records.ensures (ap (map entry_of) c.as_slice-list.ensures)
    c.in_default.ensures c.in-Some-first_unrecorded.i c.in-Some-first_unrecorded.ensures)

pub invariant_of-result : goal.invariant_of-result
invariant_of-result c =
    let bytes = c.args.bytes.now in
    let list = items c.in_ok-records.records in
    let rs = map entry_of list in
    let part = map entry_of c.as_slice-list.result.now in
    let ok = c.in_ok-records.ensures in
    let e = ap (map entry_of) c.as_slice-list.ensures in
    let agree = c.in_default.ensures in
    let some : 0 < length list = omega (arith, set_some bytes rs part ok e agree, length-map list entry_of) in
    record { some = some; agree = set_agreed bytes rs part ok e agree; named = set_bodied bytes rs part ok e agree c.in_default-first_unrecorded.ensures }

pub returns : goal.returns
returns c =
    read_answer c.args.bytes.now _
    (set_is_read c.args.bytes.now (map entry_of (items c.in_ok-records.records)) (map entry_of c.as_slice-list.result.now) c.in_ok-records.ensures (ap (map entry_of) c.as_slice-list.ensures)
    c.in_default.ensures c.in_default-first_unrecorded.ensures)
