-- What a chart and a count mean, read off the fields of the code.
use Rattle.std.specs.Prelude.{ℕ}
use Rattle.foundation.specs.Bounds.{items}
use Rattle.rules.specs.declared.chart.Chart.{Chart}
use Rattle.rules.specs.declared.count.Count.{Count}
use Rattle.rules.specs.Boxes.{charted}
use Rattle.rules.specs.Counting.{counted}
use Rattle.rules.specs.Laws.Boxes.{charted_lawful}
use Rattle.rules.specs.Laws.Counting.{counted_lawful}
use Rattle.rules.specs.Meaning.{Meaning, Lawful}

abbrev pub chart_meaning : Chart → Meaning ℕ
chart_meaning x = charted x.boxes x.finals

pub chart_lawful : (x : Chart) → Lawful (chart_meaning x)
chart_lawful x = charted_lawful x.boxes x.finals x.boxed

abbrev pub count_meaning : Count → Meaning ℕ
count_meaning x = counted x.modulus (items x.weights) x.permitted

pub count_lawful : (x : Count) → Lawful (count_meaning x)
count_lawful x = counted_lawful x.modulus x.weights x.permitted x.modular x.some x.residues
