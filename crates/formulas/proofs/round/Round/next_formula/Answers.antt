use Rattle.std.proofs.Common.{◌+◌, length, Some, sym, ap, ◌∙◌, subst, arith}
use Rattle.std.specs.Option.{option_map}
use Rattle.std.proofs.lemmas.List.{length-map}
use Rattle.rules.specs.Surveys.{view}
use Rattle.formulas.specs.Entries.{entry_of}
use Rattle.formulas.specs.FormulaViews.{formula_list}
use Rattle.formulas.specs.Records.{entries}
use Rattle.formulas.specs.RoundViews.{formulas_of}
use Rattle.formulas.specs.Formulas.{impossible}
use Rattle.formulas.specs.Rounds.{body_formula}
use Rattle.formulas.proofs.CombiningOn.{Combining, entry_there, of_found, combining_start, combining_other, combining_none, combining_unmixed, combining_more, combining_end}
use Rattle.formulas.proofs.Shifting.{err_found}
use Rattle.formulas.proofs.round.Round.next_formula.Goals as goal
use Rattle.formulas.proofs.round.Round.next_formula.Goals.{then-procedure-p+in_ok-formula+in_ok-combine, else-procedure-p}

pub loop-record-init : goal.loop-record-init
loop-record-init c = combining_start 64 (view c.args.problem.now.table.now) (formulas_of c.args.self.now) (entries c.args.problem.now.set.now) c.args.p c.in-Some.owner c.in-Some.ensures

pub returns-in_err-formula : goal.returns-in_err-formula
returns-in_err-formula c =
    let t = view c.args.problem.now.table.now in
    let L = formulas_of c.args.self.now in
    let i = c.loop-record.record-index in
    err_found c.from_residual.result c.from_residual.ensures.0
    ∙ combining_none 64 t L (entries c.args.problem.now.set.now) c.args.p c.in-Some.owner (option_map formula_list c.loop-record.so_far) i (entry_of c.record-item.result)
    (entry_there c.records-record-items.result.now (entries c.args.problem.now.set.now) i c.record-item.result c.records-record-items.ensures c.loop-record-test.true c.record-item.is)
    c.loop-record.invariant (sym c.procedure.ensures ∙ c.if-procedure-p.true) (c.in_err-formula.ensures ∙ ap (body_formula 64 t L) c.body.ensures)

pub returns-in_err-combine : goal.returns-in_err-combine
returns-in_err-combine c =
    let t = view c.args.problem.now.table.now in
    let L = formulas_of c.args.self.now in
    let i = c.loop-record.record-index in
    let G = formula_list c.in_ok-formula.formula in
    err_found c.from_residual-in_err-combine.result c.from_residual-in_err-combine.ensures.0
    ∙ combining_unmixed 64 t L (entries c.args.problem.now.set.now) c.args.p c.in-Some.owner (option_map formula_list c.loop-record.so_far) i (entry_of c.record-item.result)
    (entry_there c.records-record-items.result.now (entries c.args.problem.now.set.now) i c.record-item.result c.records-record-items.ensures c.loop-record-test.true c.record-item.is)
    c.loop-record.invariant (sym c.procedure.ensures ∙ c.if-procedure-p.true) G (c.in_ok-formula.ensures ∙ ap (body_formula 64 t L) c.body.ensures) c.in_err-combine.ensures

pub loop-record-preserved : goal.loop-record-preserved
loop-record-preserved c =
    let t = view c.args.problem.now.table.now in
    let L = formulas_of c.args.self.now in
    let rs = entries c.args.problem.now.set.now in
    let i = c.loop-record.record-index in
    let o = c.in-Some.owner in
    let so_far = option_map formula_list c.loop-record.so_far in
    let at = entry_there c.records-record-items.result.now rs i c.record-item.result c.records-record-items.ensures c.loop-record-test.true c.record-item.is in
    elim c.if-procedure-p.branch [
      | then-procedure-p+in_ok-formula+in_ok-combine w ↦
          let G = formula_list w.in_ok-formula.formula in
          let H = formula_list w.in_ok-combine.field-0 in
          subst (λ f. Combining 64 t L rs c.args.p o (option_map formula_list f) (i + 1)) (sym w.so_far-is)
          (combining_more 64 t L rs c.args.p o so_far i (entry_of c.record-item.result) at c.loop-record.invariant (sym c.procedure.ensures ∙ w.if-procedure-p.true)
          G (w.in_ok-formula.ensures ∙ ap (body_formula 64 t L) w.body.ensures) H w.in_ok-combine.ensures)
      | else-procedure-p w ↦
          subst (λ f. Combining 64 t L rs c.args.p o (option_map formula_list f) (i + 1)) (sym w.so_far-is)
          (combining_other 64 t L rs c.args.p o so_far i (entry_of c.record-item.result) at c.loop-record.invariant (λ e. w.if-procedure-p.false (c.procedure.ensures ∙ e)))
    ]

pub returns : goal.returns
returns c =
    let records = c.records-record-items.result.now in
    let i = c.loop-record.record-index in
    ap Some (of_found formula_list c.loop-record.so_far c.impossible-2.result c.unwrap_or.result impossible c.unwrap_or.ensures c.impossible-2.ensures)
    ∙ combining_end 64 (view c.args.problem.now.table.now) (formulas_of c.args.self.now) (entries c.args.problem.now.set.now) c.args.p c.in-Some.owner (option_map formula_list c.loop-record.so_far) i
    (omega (arith, c.loop-record-test.false, ap length c.records-record-items.ensures, length-map records entry_of)) c.loop-record.invariant
