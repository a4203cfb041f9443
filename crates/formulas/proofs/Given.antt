-- What holds of a result, where there is one.
use Rattle.std.proofs.Common.{◌≡◌, ℕ, Some, None, Option, subst, arith}
use Rattle.formulas.specs.Steps.{bind}

abbrev pub Given : {X : Type 0} → Option X → (X → Type 0) → Type 0
Given None P = Unit {0}
Given (Some x) P = P x

pub given_bind : {X Y : Type 0} (o : Option X) (f : X → Option Y) (P : X → Type 0) (Q : Y → Type 0) → Given o P → ((x : X) → P x → Given (f x) Q) → Given (bind o f) Q
given_bind None f P Q h k = tt
given_bind (Some x) f P Q h k = k x h

pub given_weaker : {X : Type 0} (o : Option X) (P Q : X → Type 0) → Given o P → ((x : X) → P x → Q x) → Given o Q
given_weaker None P Q h k = tt
given_weaker (Some x) P Q h k = k x h

pub given_some : {X : Type 0} (o : Option X) (P : X → Type 0) (x : X) → Given o P → o ≡ Some x → P x
given_some None P x h e = let z : ◌≡◌ {A = ℕ} 0 1 = cc in absurd (omega arith)
given_some (Some y) P x h e = let z : y ≡ x = cc in subst P z h
