use Rattle.std.proofs.Common.{rules, tests, ◌≡◌, ◌+◌, ◌*◌, ◌/◌, ◌^◌, eqb, [], ◌∷◌, ◌++◌, refl, sym, ap, ◌∙◌, subst, arith}
use lib.Bits.{bit_and, bit_or}
use Rattle.std.specs.List.{range_with_len}
use Rattle.std.proofs.lemmas.Iterator.{YieldsList-from_range}
use Rattle.foundation.specs.Laws.Bits.{bit_test}
use Rattle.rules.specs.Boxes.{pairs}
use Rattle.rules.proofs.Joins.{fold_on, Row, row-none, stepped, row_more, row_all}
use Rattle.rules.proofs.chart.row.Goals as goal

pub returns : goal.returns
returns c =
    let a = c.args.a in
    let b = c.args.b in
    let p = c.args.p in
    let row : Row a b p (range_with_len 0 8) c.fold.result =
    fold_on _ _ (range_with_len 0 8) 0 c.fold.result (Row a b p) c.fold.ensures.ran (YieldsList-from_range 0 8 8 refl (omega arith))
    (λ rs states r more f so k. (
      let is : more ≡ stepped b (eqb (bit_and (a / 2 ^ (8 * p + r)) 1) 1) states r = search (rules, tests) in
          subst (Row a b p (rs ++ r ∷ [])) (sym (is ∙ ap (λ t. stepped b t states r) (bit_test a (8 * p + r)))) (row_more a b p rs states r so),
      search rules,
    ))
    (row-none a b p) in
    record { small = row.0; bits = row_all a b p c.fold.result row }
