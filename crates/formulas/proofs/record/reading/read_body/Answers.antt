use Rattle.std.proofs.Common.{◌≡◌, ◌+◌, [], ◌∷◌, ◌++◌, length, OnOk, sym, ap, ◌∙◌, subst}
use Rattle.std.specs.Option.{option_map}
use Rattle.std.proofs.lemmas.List.{length_push}
use Rattle.foundation.specs.Bounds.{items}
use Rattle.formulas.proofs.Forms.{Reading, reading_start, reading_more, reading_stop, reading_end}
use Rattle.formulas.proofs.record.reading.read_body.Goals as goal

pub loop-byte-init : goal.loop-byte-init
loop-byte-init c =
    let bytes = c.args.bytes.now in
    (subst (λ l. Reading bytes l 0) (sym c.empty-body.ensures) (reading_start bytes), ap length c.empty-body.ensures)

pub loop-byte-preserved : goal.loop-byte-preserved
loop-byte-preserved c =
    let bytes = c.args.bytes.now in
    let body = items c.loop-byte.body in
    let next = items c.push.new.self in
    let s = c.in_ok-symbol.symbol in
    let inv = c.loop-byte.invariant in
    let e : next ≡ body ++ s ∷ [] = subst (λ r. OnOk r (next ≡ body ++ s ∷ [])) c.unwrap.ensures c.push.ensures.ok in (
      reading_more bytes body next c.loop-byte.byte-index s c.loop-byte-test.true (c.in_ok-symbol.ensures.value ∙ c.try_from.ensures) e inv.0,
      ap length e ∙ length_push body s ∙ ap (λ n. n + 1) inv.1,
    )

pub returns-in_err-symbol : goal.returns-in_err-symbol
returns-in_err-symbol c =
    ap (option_map items) c.from_residual.ensures
    ∙ reading_stop c.args.bytes.now (items c.loop-byte.body) c.loop-byte.byte-index c.loop-byte-test.true (c.in_err-symbol.ensures.value ∙ c.try_from.ensures) c.loop-byte.invariant.0

pub returns : goal.returns
returns c = reading_end c.args.bytes.now (items c.loop-byte.body) c.loop-byte.byte-index c.loop-byte-test.false c.loop-byte.invariant.0
