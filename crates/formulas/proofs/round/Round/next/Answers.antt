use Rattle.std.proofs.Common.{[], sym, refl, ap, ◌∙◌, arith, length-set}
use Rattle.rules.specs.Surveys.{view}
use Rattle.formulas.specs.Records.{entries}
use Rattle.formulas.specs.RoundViews.{formulas_of, round_answer}
use Rattle.formulas.proofs.Nexts.{procedures_are, gathering_none, gathering_off, gathering_more, gathering_all}
use Rattle.formulas.proofs.round.Round.next.Goals as goal

pub loop-p-init : goal.loop-p-init
loop-p-init c = (refl, gathering_none (view c.args.problem.now.table.now) (entries c.args.problem.now.set.now) (formulas_of c.args.self.now) [])

pub returns-in_default : goal.returns-in_default
returns-in_default c =
    sym (ap round_answer (gathering_off (view c.args.problem.now.table.now) (entries c.args.problem.now.set.now) (formulas_of c.args.self.now) c.loop-p.formula-items c.loop-p.p (omega (arith, procedures_are, c.loop-p-test.true)) c.loop-p.invariant.1 (sym c.in_default.ensures)))

pub loop-p-preserved : goal.loop-p-preserved
loop-p-preserved c = (
  length-set c.loop-p.formula-items c.loop-p.p c.in-Ok.next ∙ c.loop-p.invariant.0,
  gathering_more (view c.args.problem.now.table.now) (entries c.args.problem.now.set.now) (formulas_of c.args.self.now) c.loop-p.formula-items c.loop-p.p (omega (arith, procedures_are, c.loop-p-test.true)) c.loop-p.invariant.1
      c.in-Ok.next (omega (arith, c.loop-p.invariant.0, c.loop-p-test.true)) (sym c.in-Ok.ensures),
)

pub returns : goal.returns
returns c =
    sym (ap round_answer (gathering_all (view c.args.problem.now.table.now) (entries c.args.problem.now.set.now) (formulas_of c.args.self.now) c.loop-p.formula-items c.loop-p.p (omega (arith, procedures_are, c.loop-p.invariant.0)) (omega (arith, procedures_are, c.loop-p-test.false)) c.loop-p.invariant.1))
