-- A record as the code holds it, read as a record of a set.
use Rattle.foundation.specs.Bounds.{items}
use Rattle.formulas.specs.declared.record.Record.{Record}
use Rattle.formulas.specs.Symbols.{Entry}

abbrev pub entry_of : Record → Entry
entry_of r = record { procedure = r.procedure; owner = r.owner; body = items r.body }
