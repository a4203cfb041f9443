use Rattle.std.proofs.Common.{Some, None, ◌∙◌, arith}
use Rattle.formulas.specs.Solutions.{solution_viewed}
use Rattle.formulas.proofs.SolvedInWords.{answer_says, answer_is}
use Rattle.formulas.proofs.solution.Solution.of.Goals as goal

pub returns-in-Some : goal.returns-in-Some
returns-in-Some c =
    let s = c.args.set.now in
    let t = c.args.table.now in
    let a = c.args.allowance in
    let e = answer_is s t a (omega (arith, c.if-allowance-eq0.false)) (omega (arith, c.if-allowance-gt-MOST_ROUNDS.false)) c.commands.result c.commands.ensures (Some c.in-Some.record) c.in-Some.ensures in
    record { value = e; words = answer_says s t a _ e }

pub returns : goal.returns
returns c =
    let s = c.args.set.now in
    let t = c.args.table.now in
    let a = c.args.allowance in
    let e = c.settle_within.ensures ∙ answer_is s t a (omega (arith, c.if-allowance-eq0.false)) (omega (arith, c.if-allowance-gt-MOST_ROUNDS.false)) c.commands.result c.commands.ensures None c.in_default.ensures in
    record { value = e; words = answer_says s t a (solution_viewed c.settle_within.result) e }
