-- The formulas of a round, gathered by the number of their procedures.
use Rattle.std.proofs.Common.{◌≡◌, ℕ, suc, ◌+◌, ◌-◌, ◌<◌, ◌≤◌, List, [], ◌∷◌, ◌++◌, map, length, take, set, Some, None, Ok, Err, Option, Result, sym, refl, ap, ◌∙◌, arith}
use Rattle.std.specs.List.{range_with_len}
use Rattle.std.proofs.lemmas.List.{append_assoc, append-nil, map-append, take_all, take_more_set}
use Rattle.rules.specs.Tables.{Table}
use Rattle.formulas.specs.FormulaViews.{FormulaSeen, formula_list}
use Rattle.formulas.specs.Rounds.{procedures, next_formula, with_first, each_formula, next_round}
use Rattle.formulas.specs.Symbols.{Entry}

pub procedures_are : procedures ≡ 32
unfolding procedures
procedures_are = refl

-- what was gathered, and then the rest
abbrev prefixed : List (List ℕ) → Result (List (List ℕ)) ℕ → Result (List (List ℕ)) ℕ
prefixed xs (Ok ys) = Ok (xs ++ ys)
prefixed xs (Err x) = Err x

module _ (f : ℕ → Option (List ℕ)) where
  each_none : (p n : ℕ) (xs : List (List ℕ)) → f p ≡ None → prefixed xs (each_formula f (range_with_len p (suc n))) ≡ Err p
  each_none p n xs e = ap (λ o. prefixed xs (with_first p o (each_formula f (range_with_len (p + 1) n)))) e

  each_more : (p n : ℕ) (xs : List (List ℕ)) (F : List ℕ) → f p ≡ Some F → prefixed xs (each_formula f (range_with_len p (suc n))) ≡ prefixed (xs ++ F ∷ []) (each_formula f (range_with_len (p + 1) n))
  each_more p n xs F e = ap (λ o. prefixed xs (with_first p o (each_formula f (range_with_len (p + 1) n)))) e ∙ go (each_formula f (range_with_len (p + 1) n))
    where
      go : (r : Result (List (List ℕ)) ℕ) → prefixed xs (with_first p (Some F) r) ≡ prefixed (xs ++ F ∷ []) r
      go (Ok ys) = ap Ok (sym (append_assoc xs (F ∷ []) ys))
      go (Err y) = refl

module _ (t : Table) (rs : List Entry) (L : List (List ℕ)) where
  -- the formulas of the procedures below p were found
  abbrev pub Gathering : List FormulaSeen → ℕ → Type 0
  Gathering fs p = prefixed (map formula_list (take p fs)) (each_formula (next_formula 64 t rs L) (range_with_len p (procedures - p))) ≡ next_round 64 rs t L

  pub gathering_none : (fs : List FormulaSeen) → Gathering fs 0
  gathering_none fs = let n : procedures - 0 ≡ procedures = omega arith in ap (λ n. prefixed [] (each_formula (next_formula 64 t rs L) (range_with_len 0 n))) n ∙ go (next_round 64 rs t L)
    where
      go : (r : Result (List (List ℕ)) ℕ) → prefixed [] r ≡ r
      go (Ok ys) = refl
      go (Err y) = refl

  module _ (fs : List FormulaSeen) (p : ℕ) (h : p < procedures) (g : Gathering fs p) where
    left : procedures - p ≡ suc (procedures - (p + 1))
    left = omega arith

    pub gathering_off : next_formula 64 t rs L p ≡ None → next_round 64 rs t L ≡ Err p
    gathering_off e =
        sym g ∙ ap (λ n. prefixed (map formula_list (take p fs)) (each_formula (next_formula 64 t rs L) (range_with_len p n))) left
        ∙ each_none (next_formula 64 t rs L) p (procedures - (p + 1)) (map formula_list (take p fs)) e

    pub gathering_more : (x : FormulaSeen) → p < length fs → next_formula 64 t rs L p ≡ Some (formula_list x) → Gathering (set fs p x) (p + 1)
    gathering_more x l e =
        ap (λ ys. prefixed ys (each_formula (next_formula 64 t rs L) (range_with_len (p + 1) (procedures - (p + 1))))) (ap (map formula_list) (take_more_set fs p x l) ∙ map-append formula_list (take p fs) (x ∷ []))
        ∙ sym (each_more (next_formula 64 t rs L) p (procedures - (p + 1)) (map formula_list (take p fs)) (formula_list x) e)
        ∙ ap (λ n. prefixed (map formula_list (take p fs)) (each_formula (next_formula 64 t rs L) (range_with_len p n))) (sym left) ∙ g

  pub gathering_all : (fs : List FormulaSeen) (p : ℕ) → length fs ≡ procedures → procedures ≤ p → Gathering fs p → next_round 64 rs t L ≡ Ok (map formula_list fs)
  gathering_all fs p n h g =
      let z : procedures - p ≡ 0 = omega arith in
      sym g ∙ ap (λ n. prefixed (map formula_list (take p fs)) (each_formula (next_formula 64 t rs L) (range_with_len p n))) z
      ∙ ap Ok (append-nil (map formula_list (take p fs)) ∙ ap (map formula_list) (take_all p fs (omega arith)))
