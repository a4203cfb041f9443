-- The formula of a list of symbols, worked out from its end.
use Rattle.std.proofs.Common.{◌≡◌, ℕ, List, [], ◌∷◌, ◌++◌, length, Some, None, Option, sym, ap, ◌∙◌, append_assoc, append-nil, arith}
use Rattle.std.specs.List.{push}
use Rattle.rules.specs.Tables.{Table}
use Rattle.formulas.specs.declared.symbol.Symbol.{Symbol}
use Rattle.formulas.specs.Formulas.{neutral}
use Rattle.formulas.specs.Rounds.{in_front, body_formula}
use Rattle.formulas.specs.Steps.{bind}

module _ (limit : ℕ) (t : Table) (L : List (List ℕ)) (body : List Symbol) where
  -- behind the symbols that are left, the body has the formula F
  pub record Behind (left : List Symbol) (F : List ℕ) : Type 0 where
    pub done : List Symbol
    pub whole : left ++ done ≡ body
    pub formula : body_formula limit t L done ≡ Some F

  pub behind_start : (left : List Symbol) (F : List ℕ) → left ≡ body → F ≡ neutral → Behind left F
  behind_start left F e f = record { done = []; whole = append-nil left ∙ e; formula = ap Some (sym f) }

  module _ (left next : List Symbol) (s : Symbol) (F : List ℕ) (cut : left ≡ push next s) (b : Behind left F) where
    with_front : next ++ s ∷ b.done ≡ body
    with_front = sym (append_assoc next (s ∷ []) b.done) ∙ ap (λ l. l ++ b.done) (sym cut) ∙ b.whole

    front_is : (o : Option (List ℕ)) → in_front limit t L s F ≡ o → body_formula limit t L (s ∷ b.done) ≡ o
    front_is o e = ap (λ x. bind x (in_front limit t L s)) b.formula ∙ e

    pub behind_more : (G : List ℕ) → in_front limit t L s F ≡ Some G → Behind next G
    behind_more G e = record { done = s ∷ b.done; whole = with_front; formula = front_is (Some G) e }

    -- where a part has none, the whole has none
    pub behind_none : in_front limit t L s F ≡ None → body_formula limit t L body ≡ None
    behind_none e = ap (body_formula limit t L) (sym with_front) ∙ go next
      where
        go : (xs : List Symbol) → body_formula limit t L (xs ++ s ∷ b.done) ≡ None
        go [] = front_is None e
        go (x ∷ xs) = ap (λ o. bind o (in_front limit t L x)) (go xs)

  pub behind_all : (left : List Symbol) (F : List ℕ) → length left ≡ 0 → Behind left F → body_formula limit t L body ≡ Some F
  behind_all [] F h b = ap (body_formula limit t L) (sym b.whole) ∙ b.formula
  behind_all (x ∷ left) F h b = absurd (omega arith)
