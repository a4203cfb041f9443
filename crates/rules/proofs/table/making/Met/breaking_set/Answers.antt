use Rattle.std.proofs.Common.{◌≡◌, ℕ, Bool, get_or, sym, ap, ◌∙◌, arith}
use Rattle.std.proofs.lemmas.List.{get_or_read}
use Rattle.rules.proofs.Tabling.{all_met, met_few, listed_read, listed_own, member_more, member_not}
use Rattle.rules.proofs.table.making.Met.breaking_set.Goals as goal
use Rattle.rules.proofs.table.making.Met.breaking_set.Goals.{then-breaks, else-breaks}

pub overflow_cast-i : goal.overflow_cast-i
overflow_cast-i g c =
    let m = g.R.OrderRule.meaning c.args.self.now.rule.now in
    let met = c.args.self.now.effects.now in
    omega (arith, met_few m (g.met.R.OrderRule.lawful c.args.self.now.rule.now) met (all_met g.row.R-Effect.coded m met c.args.self.now.all))

pub loop-i-preserved : goal.loop-i-preserved
loop-i-preserved g c =
    let m = g.R.OrderRule.meaning c.args.self.now.rule.now in
    let law = g.met.R.OrderRule.lawful c.args.self.now.rule.now in
    let met = c.args.self.now.effects.now in
    let all = all_met g.row.R-Effect.coded m met c.args.self.now.all in
    let i = c.loop-i.i in
    let e = c.e-item.result in
    let f : ℕ → Bool = λ k. m.breaks (get_or met k m.neutral) in
    let own = listed_own m law met all e (listed_read m law met all i e c.loop-i-test.true c.e-item.is) in
    let is : f i ≡ c.breaks.result = ap m.breaks (sym (get_or_read met i e c.loop-i-test.true c.e-item.is m.neutral)) ∙ sym (c.breaks.ensures own) in
    elim c.if-breaks.branch [
      | then-breaks w ↦ w.breaking-is ∙ w.with-breaking.ensures.value
          ∙ member_more f 64 i c.loop-i.breaking (omega (arith, met_few m law met all)) c.loop-i.invariant (is ∙ w.if-breaks.true)
      | else-breaks w ↦ w.breaking-is ∙ member_not f i c.loop-i.breaking c.loop-i.invariant (is ∙ w.if-breaks.false)
    ]
