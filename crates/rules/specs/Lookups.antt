-- What an effect table answers: None for a number that is none of its own.
use Rattle.std.specs.Prelude.{ℕ, if◌then◌else◌, ◌&&◌, Some, None, Option, nat_lt}
use Rattle.std.specs.List.{slice_get}
use Rattle.rules.specs.Tables.{Table, join_of}

abbrev pub table_command : Table → ℕ → Option ℕ
table_command t c = slice_get t.numbers c

abbrev pub table_join : Table → ℕ → ℕ → Option ℕ
table_join t i j = if nat_lt i t.count && nat_lt j t.count then Some (join_of t i j) else None
