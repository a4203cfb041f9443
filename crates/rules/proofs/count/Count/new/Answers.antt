use Rattle.std.proofs.Common.{rules, ◌≡◌, ◌^◌, ◌<◌, length, sym, ap, subst, arith}
use Rattle.std.proofs.lemmas.Bool.{eqb-false}
use Rattle.std.proofs.lemmas.Option.{MatchOption-at_some}
use Rattle.foundation.specs.Bounds.{items}
use Rattle.foundation.specs.Laws.Bounds.{items_fit}
use Rattle.rules.specs.Counting.{counted, Counts, Few, Masks, Residues}
use Rattle.rules.proofs.Counts.{counts, masks_from_shift, masks_from_width, shift_from_masks}
use Rattle.rules.proofs.count.Count.new.Goals as goal
use Rattle.rules.proofs.count.Count.new.Goals.{else-modulus-lt64-via-then-modulus-lt64+else-permitted-modulus-ne0, else-modulus-lt64-via-else-modulus-lt64}

pub returns-then-permitted-modulus-ne0 : goal.returns-then-permitted-modulus-ne0
returns-then-permitted-modulus-ne0 c =
    let ws = c.args.weights.now in
    let is = MatchOption-at_some (16 < length ws) (λ b. items b ≡ ws) c.in_ok-kept.kept c.in_ok-kept.ensures.ok_part c.from_slice.ensures in
    let few : Few ws = (omega (arith, eqb-false (length ws) 0 (sym c.if-is_empty.ensures)), omega (arith, ap length is, items_fit c.in_ok-kept.kept)) in
    let residues : Residues c.args.modulus ws (length ws) = search rules in
    record { made = ((omega arith, omega arith), few, residues, shift_from_masks c.args.modulus c.args.permitted c.if-permitted-modulus-ne0.true) }

pub returns : goal.returns
returns c =
    let m = c.args.modulus in
    let ws = c.args.weights.now in
    let is = MatchOption-at_some (16 < length ws) (λ b. items b ≡ ws) c.in_ok-kept.kept c.in_ok-kept.ensures.ok_part c.from_slice.ensures in
    let few : Few ws = (omega (arith, eqb-false (length ws) 0 (sym c.if-is_empty.ensures)), omega (arith, ap length is, items_fit c.in_ok-kept.kept)) in
    let residues : Residues m ws (length ws) = search rules in
    let masks : Masks m c.args.permitted =
    elim c.else-modulus-lt64.branch [
      | else-modulus-lt64-via-then-modulus-lt64+else-permitted-modulus-ne0 w ↦ masks_from_shift m c.args.permitted w.if-permitted-modulus-ne0.false
      | else-modulus-lt64-via-else-modulus-lt64 w ↦ let e : 64 ≡ m = omega (arith, w.if-modulus-lt64.false) in masks_from_width m c.args.permitted (subst (λ n. c.args.permitted < 2 ^ n) e (omega (arith, c.ranges.permitted.fits)))
    ] in
    record {
      made = (
        ((omega arith, omega arith), few, residues, masks),
        subst (λ l. Counts m ws c.args.permitted (counted m l c.args.permitted)) (sym is) (counts m ws c.args.permitted),
      );
    }
