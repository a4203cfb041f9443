use Rattle.std.proofs.Common.{rules, ◌≡◌, length, get_or, subst, ap, ◌∙◌, arith}
use Rattle.formulas.specs.Clauses.{clause_list, Stands}
use Rattle.formulas.proofs.Normals.{climbs_ordered}
use Rattle.formulas.proofs.Offering.{spot_here, spot_end}
use Rattle.formulas.proofs.clauses.Clauses.place.Goals as goal

pub returns-then-lt : goal.returns-then-lt
returns-then-lt c =
    let F = clause_list c.args.self.now in
    let K = c.clause-item.result in
    let is : K ≡ get_or F c.loop-i.i K = c.clause-item.is ∙ ap (λ l. get_or l c.loop-i.i K) c.as_slice-clause-items.ensures in
    spot_here c.args.c F c.loop-i.i (omega (arith, c.loop-i-test.true, ap length c.as_slice-clause-items.ensures)) K is c.loop-i.invariant
    (climbs_ordered F c.args.self.now.rising) (search rules)

pub returns-after-loop-i : goal.returns-after-loop-i
returns-after-loop-i c =
    let F = clause_list c.args.self.now in
    let e : c.loop-i.i ≡ c.len.result = omega (arith, c.len.ensures, c.loop-i.invariant.0, c.loop-i-test.false, ap length c.as_slice-clause-items.ensures) in
    subst (Stands c.args.c F) e (spot_end c.args.c F c.loop-i.i (climbs_ordered F c.args.self.now.rising) (omega (arith, c.loop-i-test.false, ap length c.as_slice-clause-items.ensures)) c.loop-i.invariant)
