use Rattle.std.proofs.Common.{◌≡◌, sym, ◌∙◌, arith}
use Rattle.rules.proofs.Tabling.{member_more, member_not}
use Rattle.formulas.proofs.winning_set.effects_where.Goals as goal
use Rattle.formulas.proofs.winning_set.effects_where.Goals.{then-passes, else-passes}

pub loop-k-preserved : goal.loop-k-preserved
loop-k-preserved g c = λ f h.
    let i = c.loop-k.k in
    let made = c.loop-k.invariant f h in
    let is : c.passes.result ≡ f i = h i (omega (arith, c.loop-k-test.true, c.effects-k-end.ensures)) c.passes.result c.passes.ensures in
    elim c.if-passes.branch [
      | then-passes w ↦
          w.passing-is ∙ w.with-passing.ensures.value
          ∙ member_more f 64 i c.loop-k.passing (omega (arith, c.loop-k-test.true, c.effects-k-end.ensures, c.args.table.now.few)) made (sym is ∙ w.if-passes.true)
      | else-passes w ↦ w.passing-is ∙ member_not f i c.loop-k.passing made (sym is ∙ w.if-passes.false)
    ]
