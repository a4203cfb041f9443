use Rattle.std.proofs.Common.{ap, ◌∙◌}
use lib.Bits.{bit_or, or_zero_l}
use Rattle.foundation.specs.Sets.{members, gathered}
use Rattle.rules.specs.Surveys.{view}
use Rattle.formulas.specs.Formulas.{joins, joined}
use Rattle.formulas.proofs.Shifting.{joins_no, joins_yes, joins-all}
use Rattle.formulas.proofs.formula.shifting.joins.Goals as goal

pub loop-member-init : goal.loop-member-init
loop-member-init c =
    let t = view c.args.table.now in
    let rest = gathered (joins t c.args.e (members c.into_iter-member-iterator.result)) in
    ap (λ x. bit_or x rest) c.empty-joined.ensures.value ∙ or_zero_l rest ∙ ap (joined t c.args.e) c.into_iter-member-iterator.ensures.into_iter_gives.0

pub loop-member-preserved : goal.loop-member-preserved
loop-member-preserved c =
    joins_no c.args.table.now c.args.e c.args.clause c.loop-member.joined c.in-Some.member _ (members c.next.new.self) c.in-Some.ensures.steps c.loop-member.invariant c.in_default.ensures

pub loop-member-preserved-in-Some-join : goal.loop-member-preserved-in-Some-join
loop-member-preserved-in-Some-join c =
    joins_yes c.args.table.now c.args.e c.args.clause c.loop-member.joined c.in-Some.member _ (members c.next.new.self) c.in-Some.ensures.steps c.loop-member.invariant
    c.in-Some-join.join c.with-joined.result c.in-Some-join.ensures c.with-joined.ensures.value

pub returns : goal.returns
returns c = joins-all (view c.args.table.now) c.args.e c.args.clause c.loop-member.joined _ c.in-None.ensures.steps.0 c.loop-member.invariant
