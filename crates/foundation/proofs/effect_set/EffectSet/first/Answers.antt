use Rattle.std.proofs.Common.{◌≡◌, ◌<◌, false, eqb, sym, refl, ap, ◌∙◌, arith}
use Rattle.std.proofs.lemmas.Bool.{eqb-true, eqb-false}
use Rattle.std.specs.List.{slice_get}
use Rattle.foundation.specs.Sets.{members}
use Rattle.foundation.specs.Laws.Members.{members_more, members-none}
use Rattle.foundation.specs.Laws.Sets.{first_trailing}
use Rattle.foundation.proofs.effect_set.EffectSet.first.Goals as goal

pub returns-then-is_empty-clause-members : goal.returns-then-is_empty-clause-members
returns-then-is_empty-clause-members c = c.if-is_empty.ensures.members.0 refl

pub returns-then-is_empty-clause-listed : goal.returns-then-is_empty-clause-listed
returns-then-is_empty-clause-listed c =
    sym (ap (λ x. slice_get (members x) 0) (eqb-true c.args.self 0 (sym c.if-is_empty.ensures.value)) ∙ ap (λ l. slice_get l 0) members-none)

pub returns-else-is_empty-clause-members : goal.returns-else-is_empty-clause-members
returns-else-is_empty-clause-members c =
    let e : eqb c.args.self 0 ≡ false = sym c.if-is_empty.ensures.value in
    let p : 0 < c.args.self = omega (arith, eqb-false c.args.self 0 e) in
    rw c.self.view_is (first_trailing 64 c.args.self p (omega (arith, c.self.view_is)))

pub returns-else-is_empty-clause-listed : goal.returns-else-is_empty-clause-listed
returns-else-is_empty-clause-listed c =
    let e : eqb c.args.self 0 ≡ false = sym c.if-is_empty.ensures.value in
    let p : 0 < c.args.self = omega (arith, eqb-false c.args.self 0 e) in
    rw c.self.view_is (ap (λ l. slice_get l 0) (sym (members_more 64 c.args.self p (omega (arith, c.self.view_is)))))
