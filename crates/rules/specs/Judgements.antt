-- What the answer about one list of commands says, case by case.
use Rattle.std.specs.Prelude.{◌≡◌, ℕ, List, codes}
use Rattle.rules.specs.declared.lists.Judgement.{Judgement}
use Rattle.rules.specs.declared.lists.Judgement.TheVariants.{Permitted as permitted, Forbidden as forbidden, Neither as neither}
use Rattle.rules.specs.Meaning.{Meaning, Below, effect, Permitted, Forbidden}

-- e is the effect of w
pub record HasEffect {E : Type 0} (m : Meaning E) (w : List ℕ) (e : E) : Type 0 where
  pub below : Below m.commands w
  pub is : e ≡ effect m w
  pub own : m.own e

abbrev pub Judged : {E : Type 0} → Meaning E → List ℕ → Judgement → Type 0
Judged m w permitted = Permitted m w
Judged m w forbidden = Forbidden m w
Judged m w neither = ¬ Below m.commands w

abbrev pub judgement_name : Judgement → List ℕ
judgement_name permitted = codes "permitted"
judgement_name forbidden = codes "forbidden"
judgement_name neither = codes "neither"
