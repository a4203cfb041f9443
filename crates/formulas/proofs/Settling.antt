-- The rounds of a solve, step by step.
use Rattle.std.proofs.Common.{◌≡◌, ℕ, suc, ◌+◌, ◌-◌, ◌<◌, true, false, cond, List, Ok, Err, Decides, Result, sym, ap, ◌∙◌, arith}
use Rattle.std.specs.Cmp.Derive.Mapped.{pointwise-map}
use Rattle.std.specs.Cmp.Lexicographic.{pointwise, pointwise_decides}
use Rattle.std.specs.Ordering.{on}
use Rattle.std.specs.Str.{bytes_eq}
use Rattle.std.proofs.lemmas.Slice.Eq.{bytes_eq-Decides}
use Rattle.std.proofs.lemmas.Bool.{cond-true, cond-false}
use Rattle.rules.specs.Tables.{Table}
use Rattle.formulas.specs.declared.fault.SolveFault.{SolveFault}
use Rattle.formulas.specs.declared.fault.SolveFault.TheVariants.{TooManyClauses, Unsettled}
use Rattle.formulas.specs.declared.round.Round.{Round}
use Rattle.formulas.specs.FormulaViews.{formula_list}
use Rattle.formulas.specs.RoundViews.{formulas_of, round_answer}
use Rattle.formulas.specs.Rounds.{next_round}
use Rattle.formulas.specs.Solving.{same_rounds, settle_on, settle}
use Rattle.formulas.specs.Symbols.{Entry}

-- ---- equal rounds

pub same_decides : (L M : List (List ℕ)) → Decides (same_rounds L M) (L ≡ M)
same_decides = pointwise_decides {E = bytes_eq} bytes_eq-Decides

-- the test of two rounds that the code makes
pub tested_rounds : (a b : Round) → pointwise (on formula_list bytes_eq) a.formulas b.formulas ≡ same_rounds (formulas_of a) (formulas_of b)
tested_rounds a b = sym (pointwise-map formula_list bytes_eq a.formulas b.formulas)

-- ---- the answer for one round

answered_ok : (x : Result (List (List ℕ)) ℕ) (M : List (List ℕ)) → Ok M ≡ round_answer x → x ≡ Ok M
answered_ok (Ok L) M e = let z : M ≡ L = cc in ap Ok (sym z)
answered_ok (Err y) M e = absurd (let z : ◌≡◌ {A = ℕ} 0 1 = cc in omega arith)

module _ (rs : List Entry) (t : Table) (a d : ℕ) (L : List (List ℕ)) (h : d < a) where
  one_more : settle rs t (a - d) d L ≡ settle_on (next_round 64 rs t L) L d (settle rs t (a - (d + 1)) (d + 1))
  one_more = let n : a - d ≡ suc (a - (d + 1)) = omega arith in ap (λ n. settle rs t n d L) n

  pub settle_off : (f : SolveFault) → Err f ≡ round_answer (next_round 64 rs t L) → settle rs t (a - d) d L ≡ Err f
  settle_off f e = one_more ∙ go (next_round 64 rs t L) e
    where
      go : (x : Result (List (List ℕ)) ℕ) → Err f ≡ round_answer x → settle_on x L d (settle rs t (a - (d + 1)) (d + 1)) ≡ Err f
      go (Ok M) e = absurd (let z : ◌≡◌ {A = ℕ} 0 1 = cc in omega arith)
      go (Err y) e = let z : f ≡ TooManyClauses y = cc in ap Err (sym z)

  module _ (M : List (List ℕ)) (e : Ok M ≡ round_answer (next_round 64 rs t L)) where
    then_next : settle rs t (a - d) d L ≡ cond (same_rounds M L) (Ok (record { number = d + 1; formulas = M })) (settle rs t (a - (d + 1)) (d + 1) M)
    then_next = one_more ∙ ap (λ x. settle_on x L d (settle rs t (a - (d + 1)) (d + 1))) (answered_ok (next_round 64 rs t L) M e)

    pub settle_here : true ≡ same_rounds M L → settle rs t (a - d) d L ≡ Ok (record { number = d + 1; formulas = M })
    settle_here s = then_next ∙ cond-true (same_rounds M L) _ _ (sym s)

    pub settle_more : false ≡ same_rounds M L → settle rs t (a - d) d L ≡ settle rs t (a - (d + 1)) (d + 1) M
    settle_more s = then_next ∙ cond-false (same_rounds M L) _ _ (sym s)

pub settle_none : (rs : List Entry) (t : Table) (a d : ℕ) (L : List (List ℕ)) → d ≡ a → settle rs t (a - d) d L ≡ Err (Unsettled a)
settle_none rs t a d L h = let n : a - d ≡ 0 = omega arith in ap (λ n. settle rs t n d L) n ∙ ap (λ k. Err (Unsettled k)) h
