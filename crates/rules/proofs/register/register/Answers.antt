use Rattle.std.proofs.Common.{set, sym, ◌∙◌}
use Rattle.rules.specs.Register.{met_effects}
use Rattle.rules.proofs.Surveying.{walks_start, walks_more, walks_off, walks_end, past_first, room_kept}
use Rattle.rules.proofs.register.register.Goals as goal

pub loop-i-init : goal.loop-i-init
loop-i-init g c =
    walks_start (g.R.OrderRule.meaning c.args.rule.now) (g.met.R.OrderRule.lawful c.args.rule.now) c.args.slice.now c.neutral.result c.requires c.neutral.ensures

pub returns-in_err-count : goal.returns-in_err-count
returns-in_err-count g c =
    let m = g.R.OrderRule.meaning c.args.rule.now in
    let law = g.met.R.OrderRule.lawful c.args.rule.now in
    let xs = c.args.slice.now in
    let v = c.neutral.result in
    let a = walks_off m law (set xs 0 v) c.loop-i.slice c.extend.new.slice c.loop-i.count c.loop-i.i c.index-slice-i.result _ (room_kept xs v c.requires) c.loop-i-test.true c.index-slice-i.is c.loop-i.invariant
    (sym c.in_err-count.was ∙ c.extend.ensures.count) c.extend.ensures.slice in
    let b = past_first m law xs c.extend.new.slice v _ a in
    record { count = c.from_residual.ensures ∙ b.0; slice = b.1 }

pub loop-i-preserved : goal.loop-i-preserved
loop-i-preserved g c =
    let xs = c.args.slice.now in
    let v = c.neutral.result in
    walks_more (g.R.OrderRule.meaning c.args.rule.now) (g.met.R.OrderRule.lawful c.args.rule.now) (set xs 0 v) c.loop-i.slice c.extend.new.slice c.loop-i.count c.loop-i.i c.index-slice-i.result _
    (room_kept xs v c.requires) c.loop-i-test.true c.index-slice-i.is c.loop-i.invariant
    c.in_ok-count.count (sym c.in_ok-count.was ∙ c.extend.ensures.count) c.extend.ensures.slice

pub returns : goal.returns
returns g c =
    let m = g.R.OrderRule.meaning c.args.rule.now in
    let law = g.met.R.OrderRule.lawful c.args.rule.now in
    let xs = c.args.slice.now in
    let v = c.neutral.result in
    let b = past_first m law xs c.loop-i.slice v _ (walks_end m law (set xs 0 v) c.loop-i.slice c.loop-i.count c.loop-i.i (met_effects m) c.loop-i-test.false c.loop-i.invariant) in
    record { count = b.0; slice = b.1 }
