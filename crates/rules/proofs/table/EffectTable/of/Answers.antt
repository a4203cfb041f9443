use Rattle.std.proofs.Common.{rules, ◌≡◌, Ok, Err, sym, ap, ◌∙◌, subst}
use Rattle.rules.specs.declared.fault.EffectsFault.TheVariants.{TooMany}
use Rattle.rules.specs.Numbering.{Numbered}
use Rattle.rules.specs.Surveys.{viewed, Surveyed}
use Rattle.rules.proofs.TableViews.{slice_is, refused, counted_is}
use Rattle.rules.proofs.table.EffectTable.of.Goals as goal

pub returns-in_err-count : goal.returns-in_err-count
returns-in_err-count g c =
    let m = g.R.OrderRule.meaning c.args.rule.now in
    let law = g.met.R.OrderRule.lawful c.args.rule.now in
    let r = refused m law c.args.slice.now c.register.new.slice c.if-slice-lt-MOST_EFFECTS.false c.register.ensures.slice (sym c.in_err-count.ensures.ok_part ∙ c.register.ensures.count) in
    let e : c.from_residual.result ≡ Err TooMany = search rules in
    record {
      value = ap viewed e ∙ r.answer;
      slice = slice_is m law c.args.slice.now c.register.new.slice c.if-slice-lt-MOST_EFFECTS.false c.register.ensures.slice;
      numbers = subst (Surveyed m c.args.slice.now c.register.new.slice) (sym e) (c.if-slice-lt-MOST_EFFECTS.false, r.exceeds);
    }

pub invariant_of-met : goal.invariant_of-met
invariant_of-met g c =
    let counted =
    counted_is (g.R.OrderRule.meaning c.args.rule.now) (g.met.R.OrderRule.lawful c.args.rule.now) c.args.slice.now c.register.new.slice c.if-slice-lt-MOST_EFFECTS.false c.register.ensures.slice
    c.in_ok-count.count (sym c.in_ok-count.ensures.ok_part ∙ c.register.ensures.count) in
    record { all = ∣ counted.part ∣₁ }

pub returns : goal.returns
returns g c =
    let m = g.R.OrderRule.meaning c.args.rule.now in
    let k = counted_is m (g.met.R.OrderRule.lawful c.args.rule.now) c.args.slice.now c.register.new.slice c.if-slice-lt-MOST_EFFECTS.false c.register.ensures.slice
    c.in_ok-count.count (sym c.in_ok-count.ensures.ok_part ∙ c.register.ensures.count) in
    record {
      value = ap Ok c.table.ensures ∙ k.answer;
      slice = k.slice;
      numbers = (c.if-slice-lt-MOST_EFFECTS.false, subst (λ t. Numbered m t c.args.slice.now c.register.new.slice) (sym c.table.ensures) k.numbered);
    }
