-- Clauses that the code holds, by their numbers, and how an offer comes out.
use Rattle.std.specs.Prelude.{◌≡◌, ℕ, ◌≤◌, Bool, true, false, ◌&&◌, ◌⊎◌, ◌↔◌, List, ◌∷◌, ◌++◌, length, take, drop, Some, None, Ok, Err, Option, Result}
use mathlib.Core.List.{Memᴰ}
use Rattle.foundation.specs.Bounds.{items}
use Rattle.foundation.specs.Sets.{within, hits}
use Rattle.std.specs.List.{list_any}
use Rattle.formulas.specs.declared.clauses.Clauses.{Clauses}
use Rattle.formulas.specs.declared.fault.Overflow.{Overflow}
use Rattle.formulas.specs.Formulas.{meets, offer, offers, outside, placed}

abbrev pub clause_list : Clauses → List ℕ
clause_list c = items c.sets

-- C at the place i of F, without the clauses after it that contain C
abbrev pub entering : ℕ → List ℕ → ℕ → List ℕ
entering C F i = take i F ++ (C ∷ outside C (drop i F))

-- C is new to F, and i is its place in the rising order: no clause before it contains C
pub record Stands (C : ℕ) (F : List ℕ) (i : ℕ) : Type 0 where
  pub new : list_any (λ K. within K C) F ≡ false
  pub within_list : i ≤ length F
  pub front : outside C (take i F) ≡ take i F
  pub is : placed C (outside C F) ≡ entering C F i

-- where C stands in F; None where a clause of F lies within C, so that C says nothing new
abbrev pub Spots : ℕ → List ℕ → Option ℕ → Type 0
Spots C F None = list_any (λ K. within K C) F ≡ true
Spots C F (Some i) = Stands C F i

-- what is left of the clauses F where C was offered
abbrev pub Offered : ℕ → List ℕ → List ℕ → Result (Unit {0}) Overflow → Type 0
Offered C F G (Ok u) = offer 64 C F ≡ Some G
Offered C F G (Err e) = (offer 64 C F ≡ None) × (G ≡ F)

-- what is left of the clauses F where each of Cs was offered in order
abbrev pub OfferedAll : List ℕ → List ℕ → List ℕ → Result (Unit {0}) Overflow → Type 0
OfferedAll F Cs G (Ok u) = offers 64 F Cs ≡ Some G
OfferedAll F Cs G (Err e) = offers 64 F Cs ≡ None

-- G meets the sets that F meets and in which C has a member
abbrev pub AndAlso : List ℕ → ℕ → List ℕ → Type 0
AndAlso F C G = (A : ℕ → Bool) → meets A G ≡ (meets A F && hits A C)

-- G has exactly the smallest of C and the clauses of F: those within which no other of them lies
abbrev pub SmallestOf : List ℕ → ℕ → List ℕ → Type 0
SmallestOf F C G = (K : ℕ) → Memᴰ K G ↔ ((Memᴰ K F ⊎ (K ≡ C)) × ((L : ℕ) → Memᴰ L F ⊎ (L ≡ C) → within L K ≡ true → L ≡ K))
