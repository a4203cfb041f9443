use Rattle.std.proofs.Common.{refl}
use Rattle.rules.specs.Surveys.{view}
use Rattle.formulas.specs.RoundViews.{formulas_of}
use Rattle.formulas.specs.Rounds.{formula_at}
use Rattle.formulas.proofs.Least.{form_answer}
use Rattle.formulas.proofs.Monoids.{table_monoid}
use Rattle.formulas.proofs.solution.Solution.form_formula.Goals as goal

pub returns : goal.returns
returns c =
    let L = formulas_of c.self.inside.round in
    rw (← c.self.view_is) (record {
      value = c.body_formula.ensures;
      trees = λ rs settled. form_answer (view c.args.table.now) (table_monoid c.args.table.now) rs (formula_at L) settled L (λ x. refl) c.args.form.now c.body_formula.result c.body_formula.ensures;
    })
