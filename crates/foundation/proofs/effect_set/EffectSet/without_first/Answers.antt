use Rattle.std.proofs.Common.{◌≡◌, ◌^◌, ◌<◌, not, ◌&&◌, eqb, [], drop, sym, refl, ap, ◌∙◌, arith}
use lib.Count.{count_trailing_zeros}
use Rattle.std.proofs.lemmas.Bool.{eqb-true, eqb-false}
use Rattle.foundation.specs.Sets.{members}
use Rattle.foundation.specs.Laws.Members.{members_more, members-none}
use Rattle.foundation.specs.Laws.Sets.{without_first_lem}
use Rattle.foundation.proofs.effect_set.EffectSet.without_first.Goals as goal

pub returns-then-is_empty : goal.returns-then-is_empty
returns-then-is_empty c =
    let s = c.args.self in
    let e = c.if-is_empty.ensures in
    let n : members s ≡ [] = ap members (eqb-true s 0 (sym e.value)) ∙ members-none in
    rw c.self.view_is (record {
      members = λ k. e.members.0 refl k ∙ sym (ap (λ b. b && not (eqb k (count_trailing_zeros 64 s))) (e.members.0 refl k));
      listed = n ∙ sym (ap (drop 1) n);
    })

pub returns-else-is_empty : goal.returns-else-is_empty
returns-else-is_empty c =
    let s = c.args.self in
    let p : 0 < s = omega (arith, eqb-false s 0 (sym c.if-is_empty.ensures.value)) in
    let w : s < 2 ^ 64 = omega (arith, c.self.view_is) in
    rw c.self.view_is (record { members = λ k. without_first_lem 64 s k p w; listed = ap (drop 1) (sym (members_more 64 s p w)) })
