use Rattle.std.proofs.Common.{sym, ◌∙◌}
use Rattle.std.proofs.lemmas.List.{length-map}
use Rattle.foundation.specs.Bounds.{items}
use Rattle.formulas.specs.Entries.{entry_of}
use Rattle.formulas.proofs.procedure_set.ProcedureSet.len.Goals as goal

pub returns : goal.returns
returns c = c.len.ensures ∙ sym (length-map (items c.args.self.now.records) entry_of)
