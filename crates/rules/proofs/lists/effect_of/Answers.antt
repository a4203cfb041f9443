use Rattle.std.proofs.Common.{rules}
use Rattle.std.proofs.lemmas.Iterator.{YieldsList-from_slice}
use Rattle.rules.proofs.Judging.{folded}
use Rattle.rules.proofs.lists.effect_of.Goals as goal

pub returns : goal.returns
returns g c =
    let m = g.R.OrderRule.meaning c.args.rule.now in
    let run = rw c.neutral.ensures at c.try_fold.ensures.ran in
    folded m (g.met.R.OrderRule.lawful c.args.rule.now) _ _ (λ e y r h k. search rules) _ _ _ run (YieldsList-from_slice c.args.list.now cc)
