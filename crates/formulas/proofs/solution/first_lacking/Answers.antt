use Rattle.std.proofs.Common.{not, rules, ap, ◌∙◌}
use Rattle.std.proofs.lemmas.Iterator.{YieldsList-from_slice}
use Rattle.std.proofs.lemmas.Iterator.Search.{position_from_yields_List}
use borrow.Author.Tests.{tests}
use Rattle.formulas.specs.Entries.{entry_of}
use Rattle.formulas.specs.Searches.{first_bad}
use Rattle.formulas.specs.Solving.{known_body}
use Rattle.formulas.proofs.Searches.{first_bad_from}
use Rattle.formulas.proofs.solution.first_lacking.Goals as goal

pub returns : goal.returns
returns c =
    let good = known_body c.args.commands in
    first_bad_from good entry_of c.records.result.now c.position.result
    (position_from_yields_List (λ r. not (good (entry_of r))) _ _ c.position.result c.position.ensures.ran (YieldsList-from_slice c.records.result.now cc) (λ x b q k. search (rules, tests)))
    ∙ ap (first_bad good 0) c.records.ensures
