use Rattle.std.proofs.Common.{◌≡◌, map, length}
use Rattle.std.specs.Iterator.Adapters.{enumerate_source, enumerate_count}
use Rattle.std.specs.Slice.Iter.{chunks_exact_rest, chunks_exact_size}
use Rattle.foundation.specs.Bounds.{items}
use Rattle.formulas.specs.Entries.{entry_of}
use Rattle.formulas.proofs.Passes.{Cut, Forming}
use Rattle.formulas.proofs.procedure_set.reading.read_records.Given as goal

abbrev pub invariant-loop-i : goal.invariant-loop-i
invariant-loop-i l = record {
  formed : Forming l.bytes (map entry_of (items l.records)) (enumerate_count l.i-iterator);
  counted : length (items l.records) ≡ enumerate_count l.i-iterator;
  cut : Cut l.bytes (chunks_exact_rest (enumerate_source l.i-iterator)) (enumerate_count l.i-iterator);
  size : chunks_exact_size (enumerate_source l.i-iterator) ≡ 12;
}
