use Rattle.std.proofs.Common.{sym, ◌∙◌}
use Rattle.std.proofs.lemmas.Option.{MatchOption-at_some}
use Rattle.rules.specs.Register.{Onward}
use Rattle.rules.proofs.Surveying.{rows_more, rows_off}
use Rattle.rules.proofs.register.extend.Goals as goal

pub returns-in_err-met : goal.returns-in_err-met
returns-in_err-met g c =
    let m = g.R.OrderRule.meaning c.args.rule.now in
    let step = MatchOption-at_some _ (Onward m c.args.from c.loop-c.c) c.unwrap-to.result c.unwrap-to.ensures c.lead.ensures in
    let a = rows_off m (g.met.R.OrderRule.lawful c.args.rule.now) c.args.slice.now c.loop-c.slice c.enter.new.slice c.loop-c.met c.loop-c.c c.args.from c.unwrap-to.result _
    c.requires.room c.requires.own step c.loop-c.invariant (sym c.in_err-met.was ∙ c.enter.ensures.count) c.enter.ensures.slice in
    record { count = c.from_residual.ensures ∙ a.0; slice = a.1 }

pub loop-c-preserved : goal.loop-c-preserved
loop-c-preserved g c =
    let m = g.R.OrderRule.meaning c.args.rule.now in
    let step = MatchOption-at_some _ (Onward m c.args.from c.loop-c.c) c.unwrap-to.result c.unwrap-to.ensures c.lead.ensures in
    rows_more m (g.met.R.OrderRule.lawful c.args.rule.now) c.args.slice.now c.loop-c.slice c.enter.new.slice c.loop-c.met c.loop-c.c c.args.from c.unwrap-to.result _
    c.requires.room c.requires.own step c.loop-c.invariant c.in_ok-met.met (sym c.in_ok-met.was ∙ c.enter.ensures.count) c.enter.ensures.slice
