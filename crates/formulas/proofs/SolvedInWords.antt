-- What a solve answers, in words.
use Rattle.std.proofs.Common.{◌≡◌, ℕ, zero, suc, ◌+◌, ◌<◌, ◌≤◌, Bool, true, false, cond, ◌&&◌, ltb, leb, ◌⊎◌, List, Some, None, Ok, Err, Option, Result, sym, refl, ap, ◌∙◌, subst, inl, inr, true≢false, arith}
use mathlib.Core.List.{Memᴰ}
use Rattle.std.specs.List.{slice_get}
use Rattle.std.proofs.lemmas.Bool.{ltb-true, ltb-false, lt-ltb, leb-true, le-leb, and_parts, and_from, cond-true, cases_lt, both_ways}
use Rattle.foundation.specs.Laws.Tests.{all_in, not_all_in}
use Rattle.rules.specs.declared.table.EffectTable.{EffectTable}
use Rattle.rules.specs.Surveys.{view}
use Rattle.rules.specs.Tables.{Table}
use Rattle.formulas.specs.declared.fault.SolveFault.{SolveFault}
use Rattle.formulas.specs.declared.fault.SolveFault.TheVariants.{Allowance, UnknownCommand, TooManyClauses, Unsettled}
use Rattle.formulas.specs.declared.procedure_set.ProcedureSet.{ProcedureSet}
use Rattle.formulas.specs.declared.symbol.Symbol.{Symbol}
use Rattle.formulas.specs.declared.symbol.Symbol.TheVariants.{Command, Procedure}
use Rattle.formulas.specs.Equations.{FirstSettled}
use Rattle.formulas.specs.Records.{entries}
use Rattle.formulas.specs.Rounds.{first_round, on_round, next_round, round}
use Rattle.formulas.specs.Searches.{first_bad}
use Rattle.formulas.specs.Solving.{Settled, same_rounds, settle_on, known, known_body, unless_lacking, settle, solved, Allowed, Foreign, NoneForeign, UnsettledUntil, Solved}
use Rattle.formulas.specs.Symbols.{Entry, Agree}
use Rattle.formulas.proofs.Least.{least_solution}
use Rattle.formulas.proofs.Monoids.{Monoid, table_monoid}
use Rattle.formulas.proofs.Records.{nth_member, set_agrees}
use Rattle.formulas.proofs.Rounds.{Within, set_within}
use Rattle.formulas.proofs.Searches.{none_bad, First, first_is}
use Rattle.formulas.proofs.Settling.{same_decides}

module _ (rs : List Entry) (t : Table) where
  -- ---- commands that the rule lacks

  known_here : (n : ℕ) (r : Entry) → known_body t.commands r ≡ true → slice_get rs n ≡ Some r → Foreign rs t n → ⊥
  known_here n r k e f =
      let s : r ≡ f.here = let g = f.stands in cc in
      let h : known t.commands (Command f.command) ≡ true = all_in (known t.commands) f.named (ap (known_body t.commands) (sym s) ∙ k) in
      omega (arith, ltb-true f.command t.commands h, f.lacking)

  none_foreign : first_bad (known_body t.commands) 0 rs ≡ None → NoneForeign rs t
  none_foreign e n f =
      known_here n f.here (all_in (known_body t.commands) (nth_member f.here rs n f.stands) (none_bad (known_body t.commands) 0 rs e)) f.stands f

  first_foreign : (n : ℕ) → first_bad (known_body t.commands) 0 rs ≡ Some n → Foreign rs t n × ((i : ℕ) → i < n → Foreign rs t i → ⊥)
  first_foreign n e = (here (not_all_in (known t.commands) f.item.body f.fails), λ i h g. known_here i g.here (f.before i g.here h g.stands) g.stands g)
    where
      f : First (known_body t.commands) rs n
      f = first_is (known_body t.commands) n rs e

      here : (s : Symbol) × Memᴰ s f.item.body × (known t.commands s ≡ false) → Foreign rs t n
      here (Command c, m, k) = record { here = f.item; stands = f.stands; command = c; named = m; lacking = omega (arith, ltb-false c t.commands k) }
      here (Procedure x, m, k) = absurd (true≢false k)

  -- ---- the rounds

  abbrev Ends : ℕ → Result Settled SolveFault → Type 0
  Ends last (Ok s) = (s.number ≤ last) × FirstSettled rs t 64 s.number s.formulas
  Ends last (Err Allowance) = ⊥
  Ends last (Err (UnknownCommand i)) = ⊥
  Ends last (Err (TooManyClauses x)) = (k : ℕ) × (L : List (List ℕ)) × (k < last) × UnsettledUntil rs t k L × (next_round 64 rs t L ≡ Err x)
  Ends last (Err (Unsettled n)) = (n ≡ last) × ((L : List (List ℕ)) × UnsettledUntil rs t last L)

  round_next : (k : ℕ) (L M : List (List ℕ)) → round 64 rs t k ≡ Ok L → next_round 64 rs t L ≡ Ok M → round 64 rs t (k + 1) ≡ Ok M
  round_next k L M e f = let n : k + 1 ≡ suc k = omega arith in ap (round 64 rs t) n ∙ ap (λ r. on_round r (next_round 64 rs t)) e ∙ f

  until_next : (k : ℕ) (L M : List (List ℕ)) → UnsettledUntil rs t k L → next_round 64 rs t L ≡ Ok M → (M ≡ L → ⊥) → UnsettledUntil rs t (k + 1) M
  until_next k L M u f new = record { is = round_next k L M u.is f; apart = λ j h e. go j h e (cases_lt j k) }
    where
      go : (j : ℕ) → j < k + 1 → round 64 rs t (suc j) ≡ round 64 rs t j → (j < k) ⊎ (k ≤ j) → ⊥
      go j h e (inl l) = u.apart j l e
      go j h e (inr l) =
          let d : j ≡ k = omega arith in
          let n : k + 1 ≡ suc k = omega arith in
          let z : Ok M ≡ Ok L = sym (round_next k L M u.is f) ∙ ap (round 64 rs t) n ∙ subst (λ j. round 64 rs t (suc j) ≡ round 64 rs t j) d e ∙ u.is in
          new (let y : M ≡ L = cc in y)

  settles_at : (k : ℕ) (L M : List (List ℕ)) → UnsettledUntil rs t k L → next_round 64 rs t L ≡ Ok M → M ≡ L → FirstSettled rs t 64 (k + 1) M
  settles_at k L M u f same = record { before = k; after = omega arith; is = round_next k L M u.is f; equal = u.is ∙ ap Ok (sym same); earlier = u.apart }

  ends : (n k : ℕ) (L : List (List ℕ)) → UnsettledUntil rs t k L → Ends (k + n) (settle rs t n k L)
  ends zero k L u = let z : k + 0 ≡ k = omega arith in (sym z, (L, subst (λ j. UnsettledUntil rs t j L) (sym z) u))
  ends (suc n) k L u = go (next_round 64 rs t L) refl (λ M. ends n (k + 1) M)
    where
      on : (r : Result Settled SolveFault) → Ends (k + 1 + n) r → Ends (k + suc n) r
      on r = let z : k + 1 + n ≡ k + suc n = omega arith in subst (λ j. Ends j r) z

      split : (M : List (List ℕ)) → next_round 64 rs t L ≡ Ok M → (b : Bool) → same_rounds M L ≡ b → (UnsettledUntil rs t (k + 1) M → Ends (k + 1 + n) (settle rs t n (k + 1) M)) → Ends (k + suc n) (cond b (Ok (record { number = k + 1; formulas = M })) (settle rs t n (k + 1) M))
      split M f true s ih = (omega arith, settles_at k L M u f ((same_decides M L).0 s))
      split M f false s ih = on (settle rs t n (k + 1) M) (ih (until_next k L M u f (λ e. both_ways (same_rounds M L) s ((same_decides M L).1 e))))

      go : (r : Result (List (List ℕ)) ℕ) → next_round 64 rs t L ≡ r → ((M : List (List ℕ)) → UnsettledUntil rs t (k + 1) M → Ends (k + 1 + n) (settle rs t n (k + 1) M)) → Ends (k + suc n) (settle_on r L k (settle rs t n (k + 1)))
      go (Err x) f ih = (k, L, omega arith, u, f)
      go (Ok M) f ih = split M f (same_rounds M L) refl (ih M)

  start : UnsettledUntil rs t 0 first_round
  start = record { is = refl; apart = λ j h. absurd (omega arith) }

  module _ (agree : Agree rs) (within : Within rs) (m : Monoid t) (allowance : ℕ) where
    ended : Allowed rs t allowance → NoneForeign rs t → (r : Result Settled SolveFault) → Ends (0 + allowance) r → Solved rs t allowance r
    ended a k (Ok s) e = (a, k, omega (arith, e.0), e.1, least_solution rs agree t m 64 within s.number s.formulas e.1)
    ended a k (Err Allowance) e = absurd e
    ended a k (Err (UnknownCommand i)) e = absurd e
    ended a k (Err (TooManyClauses x)) e = (a, k, (e.0, e.1, omega (arith, e.2), e.3, e.4))
    ended a k (Err (Unsettled n)) e = let z : 0 + allowance ≡ allowance = omega arith in (a, k, e.0 ∙ z, (e.1.0, subst (λ j. UnsettledUntil rs t j e.1.0) z e.1.1))

    pub solved_says : Solved rs t allowance (solved rs t allowance)
    solved_says = go (ltb 0 allowance && leb allowance 1000) refl (first_bad (known_body t.commands) 0 rs) refl
      where
        allowed : (ltb 0 allowance && leb allowance 1000) ≡ true → Allowed rs t allowance
        allowed e = let p = and_parts (ltb 0 allowance) (leb allowance 1000) e in (ltb-true 0 allowance p.0, leb-true allowance 1000 p.1)

        go : (b : Bool) → (ltb 0 allowance && leb allowance 1000) ≡ b → (o : Option ℕ) → first_bad (known_body t.commands) 0 rs ≡ o → Solved rs t allowance (cond b (unless_lacking o (settle rs t allowance 0 first_round)) (Err Allowance))
        go false e o q = λ a. both_ways (ltb 0 allowance && leb allowance 1000) e (and_from (ltb 0 allowance) (leb allowance 1000) (lt-ltb 0 allowance a.0) (le-leb allowance 1000 a.1))
        go true e (Some n) q = let f = first_foreign n q in (allowed e, f.0, f.1)
        go true e None q = ended (allowed e) (none_foreign q) (settle rs t allowance 0 first_round) (ends allowance 0 first_round start)

-- ---- the code's answer

module _ (s : ProcedureSet) (table : EffectTable) (allowance : ℕ) where
  pub answer_says : (r : Result Settled SolveFault) → r ≡ solved (entries s) (view table) allowance → Solved (entries s) (view table) allowance r
  answer_says r e = subst (Solved (entries s) (view table) allowance) (sym e) (solved_says (entries s) (view table) (set_agrees s) (set_within s) (table_monoid table) allowance)

  module _ (some : 0 < allowance) (few : allowance ≤ 1000) (commands : ℕ) (are : commands ≡ (view table).commands) (o : Option ℕ) (found : o ≡ first_bad (known_body commands) 0 (entries s)) where
    pub answer_is : unless_lacking o (settle (entries s) (view table) allowance 0 first_round) ≡ solved (entries s) (view table) allowance
    answer_is =
        ap (λ o. unless_lacking o (settle (entries s) (view table) allowance 0 first_round)) (found ∙ ap (λ n. first_bad (known_body n) 0 (entries s)) are)
        ∙ sym (cond-true (ltb 0 allowance && leb allowance 1000) (unless_lacking (first_bad (known_body (view table).commands) 0 (entries s)) (settle (entries s) (view table) allowance 0 first_round)) (Err Allowance)
        (and_from (ltb 0 allowance) (leb allowance 1000) (lt-ltb 0 allowance some) (le-leb allowance 1000 few)))
