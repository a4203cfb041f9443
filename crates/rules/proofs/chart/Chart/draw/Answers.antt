use Rattle.std.proofs.Common.{◌<◌, length, subst, arith}
use Rattle.rules.specs.ChartRecords.{Inside}
use Rattle.rules.proofs.Charting.{boxed_more}
use Rattle.rules.proofs.chart.Chart.draw.Goals as goal

pub invariant_of-self : goal.invariant_of-self
invariant_of-self c =
    let inside = subst Inside c.in-Arrow.is c.requires in
    let d : c.from.result < length c.args.self.now.boxes = omega (arith, c.from.ensures, inside.1) in
    record { boxed = boxed_more c.args.self.now.boxes c.from.result _ d c.args.self.now.boxed }
