use Rattle.foundation.specs.Bounds.{items}
use Rattle.formulas.specs.Clauses.{clause_list}
use Rattle.formulas.proofs.Normals.{normal_test, test_normal, held_smallest}
use Rattle.formulas.proofs.Offering.{offer_held, offer_full, offer-entered, entered_form, entered_least, offer_also}
use Rattle.formulas.proofs.Offers.{offer_err, never_ok}
use Rattle.formulas.proofs.clauses.Clauses.offer.Goals as goal

pub entered-requires : goal.entered-requires
entered-requires c = c.in-Some.ensures.within_list

pub returns-in_err-self : goal.returns-in_err-self
returns-in_err-self c =
    let r = c.from_residual.result in
    let bad = c.from_residual.ensures.0 in
    let full = offer_full c.args.c (clause_list c.args.self.now) c.in-Some.at c.in-Some.ensures c.in_err-self.ensures in
    record { value = offer_err c.args.c (clause_list c.args.self.now) r bad full; means = never_ok r _ bad; smallest = never_ok r _ bad }

pub invariant_of-self : goal.invariant_of-self
invariant_of-self c =
    let old = c.args.self.now in
    let sets = c.in_ok-self.field-0 in
    let n = entered_form c.args.c (clause_list old) c.in-Some.at c.in-Some.ensures (test_normal (clause_list old) old.rising old.apart) sets c.in_ok-self.ensures in
    record { rising = n.rising; apart = normal_test (items sets) n }

pub returns-in_default : goal.returns-in_default
returns-in_default c =
    let F = clause_list c.args.self.now in
    let e = offer_held c.args.c F c.in_default.ensures in
    let old = c.args.self.now in
    record { value = e; means = offer_also c.args.c F F e; smallest = held_smallest c.args.c F (test_normal F old.rising old.apart) c.in_default.ensures }

pub returns-in_ok-self : goal.returns-in_ok-self
returns-in_ok-self c =
    let old = c.args.self.now in
    let F = clause_list old in
    let sets = c.in_ok-self.field-0 in
    let e = offer-entered c.args.c F c.in-Some.at c.in-Some.ensures sets c.in_ok-self.ensures in
    record {
      value = e;
      means = offer_also c.args.c F (items sets) e;
      smallest = entered_least c.args.c F c.in-Some.at c.in-Some.ensures (test_normal F old.rising old.apart) sets c.in_ok-self.ensures;
    }
