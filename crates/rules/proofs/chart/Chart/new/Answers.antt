use Rattle.std.proofs.Common.{rules, of_calls, drop, ◌≡◌, ◌+◌, ◌*◌, ◌/◌, length, Err, MatchResult, sym, ap, ◌∙◌, subst, arith, below_more, length-drop}
use Rattle.std.proofs.lemmas.Option.{MatchOption-at_some, MatchOption-at_none}
use Rattle.std.specs.Iterator.Adapters.{enumerate_count}
use Rattle.rules.specs.declared.fault.RuleFault.TheVariants.{ChartRecord}
use Rattle.rules.specs.Automata.{Formed, Chartable, Unchartable, record_at}
use Rattle.rules.specs.Boxes.{Drawn, Charts, charted}
use Rattle.rules.specs.ChartRecords.{Reads, drawn_finals}
use Rattle.rules.proofs.ChartBytes.{next_record}
use Rattle.rules.proofs.Charting.{drawn_more, reads_formed, length_boxes, length_finals, charts}
use Rattle.rules.proofs.chart.Chart.new.Goals as goal

pub returns-in_err-ok_or : goal.returns-in_err-ok_or
returns-in_err-ok_or c =
    let bytes = c.args.bytes.now in
    let i = enumerate_count c.loop-i.i-iterator in
    let inv = c.loop-i.invariant in
    let s = c.in-Some.ensures.steps in
    let next = next_record bytes _ c.in-Some.record.now _ i inv.rest s.0.1.0 (s.0.1.1 ∙ inv.size) inv.within in
    let e : c.from_residual.result ≡ Err (ChartRecord c.in-Some.i) = search rules in
    let unformed = MatchOption-at_none (Formed c.in-Some.record.now → ⊥) (λ x. Reads c.in-Some.record.now x) c.in_err-ok_or.ensures.ok_part c.read.ensures in
    let fault : Unchartable bytes (ChartRecord i) = ((c.if-bytes-ne0.false, omega arith), omega (arith, next.within), subst (λ r. Formed r → ⊥) next.is unformed, inv.formed) in
    subst (λ r. MatchResult r (λ x. Chartable bytes × Charts bytes (charted x.boxes x.finals)) (λ f. Unchartable bytes f)) (sym e) (subst (λ n. Unchartable bytes (ChartRecord n)) (sym s.1) fault)

pub loop-i-preserved : goal.loop-i-preserved
loop-i-preserved c =
    let bytes = c.args.bytes.now in
    let i = enumerate_count c.loop-i.i-iterator in
    let inv = c.loop-i.invariant in
    let s = c.in-Some.ensures.steps in
    let next = next_record bytes _ c.in-Some.record.now _ i inv.rest s.0.1.0 (s.0.1.1 ∙ inv.size) inv.within in
    let item = c.in_ok-ok_or.field-0 in
    let read : Reads (record_at bytes i) item = subst (λ r. Reads r item) next.is (MatchOption-at_some (Formed c.in-Some.record.now → ⊥) (λ x. Reads c.in-Some.record.now x) item c.in_ok-ok_or.ensures.ok_part c.read.ensures) in
    let boxes = c.loop-i.chart.boxes in
    let finals = c.loop-i.chart.finals in
    record {
      can_next = search of_calls;
      is_finite = search of_calls;
      size = s.0.0 ∙ inv.size;
      within = omega (arith, next.within, s.2);
      rest = next.rest ∙ ap (λ n. drop (12 * n) bytes) (sym s.2);
      drawn = subst (λ n. Drawn bytes n c.draw.new.self.boxes c.draw.new.self.finals) (sym s.2)
          (subst (λ f. Drawn bytes (i + 1) c.draw.new.self.boxes f) (sym c.draw.ensures.finals)
          (subst (λ b. Drawn bytes (i + 1) b (drawn_finals item finals)) (sym c.draw.ensures.boxes) (drawn_more bytes i boxes finals item inv.boxes inv.finals read inv.drawn)));
      formed = λ j h. below_more (λ k. Formed (record_at bytes k)) i inv.formed (reads_formed (record_at bytes i) item read) j (omega (arith, h, s.2));
      boxes = ap length c.draw.ensures.boxes ∙ length_boxes item boxes ∙ inv.boxes;
      finals = ap length c.draw.ensures.finals ∙ length_finals item finals ∙ inv.finals;
    }

pub returns : goal.returns
returns c =
    let bytes = c.args.bytes.now in
    let i = enumerate_count c.loop-i.i-iterator in
    let inv = c.loop-i.invariant in
    let s = c.in-None.ensures.steps in
    let all : i ≡ length bytes / 12 = omega (arith, inv.within, ap length inv.rest, length-drop (12 * i) bytes, s.0.1.0, inv.size) in (
      ((c.if-bytes-ne0.false, omega arith), λ j h. inv.formed j (omega arith)),
      charts bytes c.loop-i.chart.boxes c.loop-i.chart.finals c.loop-i.chart.boxed (subst (λ n. Drawn bytes n c.loop-i.chart.boxes c.loop-i.chart.finals) all inv.drawn),
    )
