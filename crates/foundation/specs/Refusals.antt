-- How a refusal is written.
use Rattle.std.specs.Prelude.{ℕ, List, ◌++◌, codes, decimal}
use Rattle.foundation.specs.declared.refusal.Layer.{Layer}
use Rattle.foundation.specs.declared.refusal.Layer.TheVariants.{Records, Rule, Effects, Solve}
use Rattle.foundation.specs.declared.refusal.Refusal.{Refusal}

abbrev pub layer_name : Layer → List ℕ
layer_name Records = codes "records"
layer_name Rule = codes "rule"
layer_name Effects = codes "effects"
layer_name Solve = codes "solve"

abbrev pub refusal_text : Refusal → List ℕ
refusal_text r = codes "refused " ++ (decimal r.number ++ (codes " " ++ (layer_name r.layer ++ (codes " " ++ decimal r.place))))
