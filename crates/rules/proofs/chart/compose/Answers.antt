use Rattle.std.proofs.Common.{refl, rules, arith}
use Rattle.std.specs.List.{range_with_len}
use Rattle.std.proofs.lemmas.Iterator.{YieldsList-from_range}
use Rattle.rules.proofs.Joins.{fold_on, So, Turn, so_more, so_all}
use Rattle.rules.proofs.chart.compose.Goals as goal

pub returns : goal.returns
returns c =
    let a = c.args.a in
    let b = c.args.b in
    so_all a b c.fold.result
    (fold_on _ _ (range_with_len 0 8) 0 c.fold.result (So a b) c.fold.ensures.ran (YieldsList-from_range 0 8 8 refl (omega arith))
    (λ ps joined p more f so k. (let t : Turn a b joined p more = search rules in so_more a b ps joined p more so t, search rules)) (λ _ _. refl))
