use Rattle.std.proofs.Common.{◌≡◌, ℕ, ◌*◌, ◌≤◌, ◌<◌, length, drop}
use Rattle.std.specs.Iterator.Adapters.{enumerate_source, enumerate_count}
use Rattle.std.specs.Slice.Iter.{chunks_exact_rest, chunks_exact_size}
use Rattle.rules.specs.Automata.{Formed, record_at}
use Rattle.rules.specs.Boxes.{Drawn}
use Rattle.rules.proofs.chart.Chart.new.Given as goal

abbrev pub invariant-loop-i : goal.invariant-loop-i
invariant-loop-i l = record {
  can_next : (goal.iterator-loop-i).can_next l.i-iterator;
  is_finite : (goal.iterator-loop-i).is_finite l.i-iterator;
  size : chunks_exact_size (enumerate_source l.i-iterator) ≡ 12;
  within : 12 * enumerate_count l.i-iterator ≤ length l.bytes;
  rest : chunks_exact_rest (enumerate_source l.i-iterator) ≡ drop (12 * enumerate_count l.i-iterator) l.bytes;
  drawn : Drawn l.bytes (enumerate_count l.i-iterator) l.chart.boxes l.chart.finals;
  formed : (j : ℕ) → j < enumerate_count l.i-iterator → Formed (record_at l.bytes j);
  boxes : length l.chart.boxes ≡ 16;
  finals : length l.chart.finals ≡ 8;
}
