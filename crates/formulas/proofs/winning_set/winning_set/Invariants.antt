use Rattle.std.proofs.Common.{◌≡◌}
use Rattle.std.specs.Iterator.Adapters.{rev_source}
use Rattle.std.specs.Slice.Iter.{iter_rest}
use Rattle.rules.specs.Surveys.{view}
use Rattle.formulas.specs.Winning.{assigned, winning}
use Rattle.formulas.proofs.winning_set.winning_set.Given as goal

abbrev pub invariant-loop-symbol : goal.invariant-loop-symbol
invariant-loop-symbol g l =
    winning (view l.table) (assigned (g.L.ClauseLists.lists l.lists)) l.winning (iter_rest (rev_source l.symbol-iterator))
    ≡ winning (view l.table) (assigned (g.L.ClauseLists.lists l.lists)) l.initial.winning l.list
