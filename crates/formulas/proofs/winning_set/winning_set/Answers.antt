use Rattle.std.proofs.Common.{◌≡◌, [], ◌∷◌, sym, ap, ◌∙◌, subst}
use Rattle.std.specs.Iterator.Adapters.{rev_source}
use Rattle.std.specs.Slice.Iter.{iter_rest}
use Rattle.rules.specs.Surveys.{view}
use Rattle.formulas.specs.Equations.{WonByTrees}
use Rattle.formulas.specs.Winning.{assigned, winning}
use Rattle.formulas.proofs.Least.{lists_trees}
use Rattle.formulas.proofs.Monoids.{table_monoid}
use Rattle.formulas.proofs.Winning.{winning-append, winning-none}
use Rattle.formulas.proofs.winning_set.winning_set.Goals as goal

pub loop-symbol-init : goal.loop-symbol-init
loop-symbol-init g c =
    let whole : iter_rest (rev_source c.into_iter-symbol-iterator.result) ≡ c.args.list.now = cc in
    ap (winning (view c.args.table.now) (assigned (g.L.ClauseLists.lists c.args.lists.now)) c.args.target) whole

pub loop-symbol-preserved : goal.loop-symbol-preserved
loop-symbol-preserved g c =
    let t = view c.args.table.now in
    let φ = assigned (g.L.ClauseLists.lists c.args.lists.now) in
    let left = iter_rest (rev_source c.next.new.self) in
    ap (λ A. winning t φ A left) c.before_symbol-winning.ensures
    ∙ sym (winning-append t (table_monoid c.args.table.now) φ c.loop-symbol.winning left (c.in-Some.symbol.now ∷ []))
    ∙ ap (winning t φ c.loop-symbol.winning) (sym c.in-Some.ensures.steps)
    ∙ c.loop-symbol.invariant

pub returns : goal.returns
returns g c =
    let t = view c.args.table.now in
    let lists = g.L.ClauseLists.lists c.args.lists.now in
    let A = c.args.target in
    let s = c.args.list.now in
    let e : c.loop-symbol.winning ≡ winning t (assigned lists) A s = sym (winning-none t (table_monoid c.args.table.now) (assigned lists) c.loop-symbol.winning _ c.in-None.ensures.steps.0) ∙ c.loop-symbol.invariant in
    record {
      value = e;
      trees = λ rs settled small. subst (WonByTrees rs t A s) (sym e) (lists_trees t (table_monoid c.args.table.now) rs lists settled A s small);
    }
