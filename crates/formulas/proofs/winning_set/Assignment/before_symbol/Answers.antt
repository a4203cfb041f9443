use Rattle.rules.specs.Surveys.{view}
use Rattle.formulas.proofs.Monoids.{table_monoid, command_below}
use Rattle.formulas.proofs.winning_set.Assignment.before_symbol.Goals as goal

pub before-requires : goal.before-requires
before-requires g c = command_below (view c.args.self.now.table.now) (table_monoid c.args.self.now.table.now) c.in-Command.c c.in-Some.effect c.in-Some.ensures
