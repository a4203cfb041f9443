use Rattle.std.proofs.Common.{rules, tests}
use Rattle.std.proofs.lemmas.Iterator.{cases_from_any, YieldsList-from_slice}
use Rattle.std.proofs.lemmas.Iterator.Consumers.{YieldsList-from_enumerate}
use Rattle.rules.proofs.Charting.{Ends, accepting_is}
use Rattle.rules.proofs.chart.accepts.Goals as goal

pub returns : goal.returns
returns c =
    let finals = c.args.finals.now in
    let a = c.args.a in
    accepting_is finals a c.any.result c.told-finals
    (cases_from_any _ _ _ (Ends finals a) (λ p. Ends finals a p → ⊥) c.any.ensures.ran (YieldsList-from_enumerate (YieldsList-from_slice finals cc) cc) (λ x q k. search (rules, tests)) (λ x q k. search (rules, tests)))
