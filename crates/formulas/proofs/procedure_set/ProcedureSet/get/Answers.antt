use Rattle.std.proofs.Common.{sym, ap, ◌∙◌}
use Rattle.std.specs.Option.{option_map}
use Rattle.foundation.specs.Bounds.{items}
use Rattle.formulas.specs.Entries.{entry_of}
use Rattle.std.proofs.lemmas.Option.{slice_get-map}
use Rattle.formulas.proofs.procedure_set.ProcedureSet.get.Goals as goal

pub returns : goal.returns
returns c = ap (option_map entry_of) c.get.ensures ∙ sym (slice_get-map entry_of (items c.args.self.now.records) c.args.i)
