use Rattle.std.proofs.Common.{replicate, Ok, sym, ap, subst, arith}
use Rattle.std.proofs.lemmas.Result.{err_from_is_err_and}
use Rattle.rules.specs.Surveys.{view}
use Rattle.formulas.specs.Records.{entries}
use Rattle.formulas.specs.Solutions.{settled_of}
use Rattle.formulas.specs.Solving.{Solved}
use Rattle.judge.specs.Reports.{held}
use Rattle.judge.proofs.Examining.{posed, refused}
use Rattle.judge.proofs.Telling.{set_told}
use Rattle.judge.proofs.report.examine.Goals as goal

pub returns-in_err-set : goal.returns-in_err-set
returns-in_err-set c =
    let p = err_from_is_err_and c.from_residual-in_err-set.result c.from_residual-in_err-set.ensures.1 in
    rw (p.1, p.2) (c.in_ok-rule.ensures.0, (c.in-Some.records.now, ap held c.in-Some.is, c.in_err-set.ensures.words))

pub returns-in_err-table : goal.returns-in_err-table
returns-in_err-table c =
    let x = c.in_ok-rule.rule in
    let made = c.in_ok-rule.ensures in
    let p = err_from_is_err_and c.from_residual-in_err-table.result c.from_residual-in_err-table.ensures.1 in
    rw (p.1, p.2)
    (refused c.args.chart.now x.boxes x.finals x.boxed made.0 made.1 (held c.args.procs) c.in-Some.records.now (entries c.in_ok-set.set) (ap held c.in-Some.is) c.in_ok-set.ensures.words
    (replicate 64 0) c.of.new.slice c.of.result c.in_err-table.field-0.0 (omega arith) c.of.ensures.numbers c.in_err-table.was)

pub returns-in_err-solution : goal.returns-in_err-solution
returns-in_err-solution c =
    let x = c.in_ok-rule.rule in
    let made = c.in_ok-rule.ensures in
    let p = err_from_is_err_and c.from_residual-in_err-solution.result c.from_residual-in_err-solution.ensures.1 in
    rw (p.1, p.2) (
      c.in-Some.records.now,
      ap held c.in-Some.is,
      record {
        posed = posed c.args.chart.now x.boxes x.finals x.boxed made.0 made.1 c.in-Some.records.now (entries c.in_ok-set.set) c.in_ok-set.ensures.words
            c.in_ok-table.table (replicate 64 0) c.of.new.slice c.in_ok-table.ensures.numbers;
        refused = c.in_err-solution.ensures.words;
      },
    )

pub returns : goal.returns
returns c =
    let x = c.in_ok-rule.rule in
    let made = c.in_ok-rule.ensures in
    let set = c.in_ok-set.set in
    let solution = settled_of c.in_ok-solution.solution in (
      c.in-Some.records.now,
      ap held c.in-Some.is,
      record {
        posed = posed c.args.chart.now x.boxes x.finals x.boxed made.0 made.1 c.in-Some.records.now (entries set) c.in_ok-set.ensures.words
            c.in_ok-table.table (replicate 64 0) c.of.new.slice c.in_ok-table.ensures.numbers;
        effects = c.effects.ensures;
        formulas = solution.formulas;
        solved = subst (λ n. Solved (entries set) (view c.in_ok-table.table) 1000 (Ok (record { number = n; formulas = solution.formulas }))) (sym c.round.ensures) c.in_ok-solution.ensures.words;
        rows = c.rows.ensures;
        tells = set_told set solution.formulas _ c.rows.ensures;
      },
    )
