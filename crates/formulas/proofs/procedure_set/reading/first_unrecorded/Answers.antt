use Rattle.std.proofs.Common.{map}
use Rattle.formulas.specs.Checks.{bodied}
use Rattle.std.proofs.Common.{not, rules}
use Rattle.std.proofs.lemmas.Iterator.{YieldsList-from_slice}
use Rattle.std.proofs.lemmas.Iterator.Search.{position_from_yields_List}
use borrow.Author.Tests.{tests}
use Rattle.formulas.specs.Entries.{entry_of}
use Rattle.formulas.proofs.Searches.{first_bad_from}
use Rattle.formulas.proofs.procedure_set.reading.first_unrecorded.Goals as goal

pub returns : goal.returns
returns c =
    let good = bodied (map entry_of c.args.records.now) in
    first_bad_from good entry_of c.args.records.now c.position.result
    (position_from_yields_List (λ r. not (good (entry_of r))) _ _ c.position.result c.position.ensures.ran (YieldsList-from_slice c.args.records.now cc) (λ x b q k. search (rules, tests)))
