use Rattle.std.proofs.Common.{◌≡◌, rules, ◌==◌, ◌∙◌}
use Rattle.std.specs.Option.{option_map}
use Rattle.std.proofs.lemmas.Iterator.{YieldsList-from_slice}
use Rattle.std.proofs.lemmas.Iterator.Search.{find_from_yields_List}
use borrow.Author.Tests.{tests}
use Rattle.formulas.specs.Entries.{entry_of}
use Rattle.formulas.proofs.FirstOwners.{owner_found}
use Rattle.formulas.proofs.procedure_set.lookup.first_owner.Goals as goal

pub returns : goal.returns
returns c =
    let rs = c.args.records.now in
    let owned : c.map.result ≡ option_map (λ r. r.now.owner) c.find.result = search rules in
    owned
    ∙ owner_found entry_of c.args.p rs c.find.result
    (find_from_yields_List (λ r. r.procedure == c.args.p) _ _ c.find.result c.find.ensures.ran (YieldsList-from_slice rs cc) (λ x b q k. search (rules, tests)))
