use Rattle.std.proofs.Common.{◌≡◌, ℕ, ◌<◌, ◌∷◌, [], ◌++◌, map, length, IsSome, OnOk, sym, ap, ◌∙◌, subst, arith}
use Rattle.std.specs.List.{range_with_len}
use Rattle.std.proofs.lemmas.List.FromFn.{length-map-range_with_len, map-range_with_len_more}
use Rattle.foundation.specs.Bounds.{items}
use Rattle.rules.specs.Register.{place}
use Rattle.rules.specs.Tables.{numbered}
use Rattle.rules.proofs.Tabling.{all_met, listed_command, listed-known}
use Rattle.rules.proofs.table.making.Met.number_commands.Goals as goal

pub number_of-requires-clause-known : goal.number_of-requires-clause-known
number_of-requires-clause-known g c =
    let m = g.R.OrderRule.meaning c.args.self.now.rule.now in
    let law = g.met.R.OrderRule.lawful c.args.self.now.rule.now in
    let met = c.args.self.now.effects.now in
    let all = all_met g.row.R-Effect.coded m met c.args.self.now.all in
    let i = c.loop-c.c in
    let lt : i < m.commands = omega (arith, c.commands-c-end.ensures) in
    let some = c.command.ensures.some lt in
    let is : c.unwrap-effect.result ≡ m.command i = cc in
    subst (λ e. IsSome (place m.same 0 met e)) (sym is) (listed-known m law met all (m.command i) (listed_command m law met all i lt))

pub unwrap-requires : goal.unwrap-requires
unwrap-requires g c =
    let m = g.R.OrderRule.meaning c.args.self.now.rule.now in
    let size = ap length c.loop-c.invariant ∙ length-map-range_with_len (λ d. numbered m.same c.args.self.now.effects.now (m.command d)) 0 c.loop-c.c in
    c.push.ensures.room.1 (omega (arith, size, c.commands-c-end.ensures, (g.met.R.OrderRule.lawful c.args.self.now.rule.now).few))

pub loop-c-preserved : goal.loop-c-preserved
loop-c-preserved g c =
    let m = g.R.OrderRule.meaning c.args.self.now.rule.now in
    let i = c.loop-c.c in
    let f : ℕ → ℕ = λ d. numbered m.same c.args.self.now.effects.now (m.command d) in
    let lt : i < m.commands = omega (arith, c.commands-c-end.ensures) in
    let some = c.command.ensures.some lt in
    let is : c.unwrap-effect.result ≡ m.command i = cc in
    let pushed : items c.push.new.self ≡ items c.loop-c.numbers ++ c.number_of.result ∷ [] = subst (λ r. OnOk r (items c.push.new.self ≡ items c.loop-c.numbers ++ c.number_of.result ∷ [])) c.unwrap.ensures c.push.ensures.ok in
    pushed
    ∙ ap (λ xs. xs ++ c.number_of.result ∷ []) c.loop-c.invariant
    ∙ ap (λ x. map f (range_with_len 0 i) ++ x ∷ []) (c.number_of.ensures ∙ ap (numbered m.same c.args.self.now.effects.now) is)
    ∙ sym (map-range_with_len_more f 0 i i (omega arith))
