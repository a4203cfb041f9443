use Rattle.std.proofs.Common.{refl}
use Rattle.rules.specs.Boxes.{identity}
use Rattle.rules.proofs.chart.ChartOrderRule.neutral.Goals as goal

pub returns : goal.returns
unfolding identity
returns c = refl
