-- The owner of a procedure, by std's search for its first record.
use Rattle.std.proofs.Common.{◌≡◌, ℕ, Bool, true, false, cond, ◌==◌, List, [], ◌∷◌, map, Some, None, Option, refl, ap, ◌∙◌, Bor}
use Rattle.std.specs.Option.{option_map}
use Rattle.std.specs.List.{find}
use Rattle.formulas.specs.Symbols.{Entry, owner_of}

module _ {X : Type 0} (f : X → Entry) (x : ℕ) where
  found_owner : (xs : List X) → option_map (λ r. (f r).owner) (find (λ r. (f r).procedure == x) xs) ≡ owner_of (map f xs) x
  found_owner [] = refl
  found_owner (y ∷ ys) = go ((f y).procedure == x) (found_owner ys)
    where
      go : (b : Bool) → option_map (λ r. (f r).owner) (find (λ r. (f r).procedure == x) ys) ≡ owner_of (map f ys) x
          → option_map (λ r. (f r).owner) (cond b (Some y) (find (λ r. (f r).procedure == x) ys)) ≡ cond b (Some (f y).owner) (owner_of (map f ys) x)
      go true e = refl
      go false e = e

  behind : (o : Option (Bor X)) → option_map (λ r. (f r.now).owner) o ≡ option_map (λ r. (f r).owner) (option_map (λ r. r.now) o)
  behind None = refl
  behind (Some r) = refl

  -- where the search finds o, its owner is the procedure's
  pub owner_found : (xs : List X) (o : Option (Bor X)) → option_map (λ r. r.now) o ≡ find (λ r. (f r).procedure == x) xs → option_map (λ r. (f r.now).owner) o ≡ owner_of (map f xs) x
  owner_found xs o e = behind o ∙ ap (option_map (λ r. (f r).owner)) e ∙ found_owner xs
