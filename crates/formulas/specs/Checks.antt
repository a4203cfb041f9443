-- Tests on the records of a set.
use Rattle.std.specs.Prelude.{Bool, true, false, List, is_some, Some, None, Option}
use Rattle.std.specs.List.{list_all}
use Rattle.formulas.specs.declared.symbol.Owner.{Owner}
use Rattle.formulas.specs.declared.symbol.Owner.TheVariants.{Station, Field}
use Rattle.formulas.specs.declared.symbol.Symbol.{Symbol}
use Rattle.formulas.specs.declared.symbol.Symbol.TheVariants.{Command, Procedure}
use Rattle.formulas.specs.Symbols.{Entry, owner_of}

abbrev pub names_owner : Option Owner → Owner → Bool
names_owner None o = false
names_owner (Some Station) Station = true
names_owner (Some Station) Field = false
names_owner (Some Field) Station = false
names_owner (Some Field) Field = true

-- r names the owner that the first record of its procedure names
abbrev pub agreed : List Entry → Entry → Bool
agreed rs r = names_owner (owner_of rs r.procedure) r.owner

-- a procedure has a record
abbrev pub recorded : List Entry → Symbol → Bool
recorded rs (Command c) = true
recorded rs (Procedure x) = is_some (owner_of rs x)

-- each procedure in the body of r has a record
abbrev pub bodied : List Entry → Entry → Bool
bodied rs r = list_all (recorded rs) r.body
