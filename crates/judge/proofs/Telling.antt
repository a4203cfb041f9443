-- The rows of a report say in words what they should.
use Rattle.std.proofs.Common.{◌≡◌, ℕ, zero, suc, ◌+◌, ◌<◌, ◌≤◌, ◌⊎◌, List, [], ◌∷◌, ◌++◌, map, length, get_or, Some, None, Option, sym, refl, ap, ◌∙◌, subst, inl, inr, ⊎_elim, arith}
use mathlib.Core.List.Memᴰ
use mathlib.Core.List.{Memᴰ}
use Rattle.std.specs.List.Sorted.{IsStrictlyIncreasing}
use Rattle.std.proofs.lemmas.List.{append-nil, length-append, length_push, get_or_append_left, get_or_push, map_push}
use Rattle.std.proofs.lemmas.Bool.{cases_lt}
use Rattle.formulas.specs.declared.procedure_set.ProcedureSet.{ProcedureSet}
use Rattle.formulas.specs.declared.symbol.Owner.{Owner}
use Rattle.formulas.specs.Records.{entries}
use Rattle.formulas.specs.Rounds.{procedures, formula_at}
use Rattle.formulas.specs.Symbols.{Entry, owner_of}
use Rattle.formulas.proofs.Nexts.{procedures_are}
use Rattle.formulas.proofs.Records.{owner_belongs, owner_some, set_range}
use Rattle.judge.specs.declared.report.Row.{Row}
use Rattle.judge.specs.Rows.{row_of, rows_below, rows_of, Tells}

-- ---- numbers that rise and stay below n

pub record Rises (n : ℕ) (xs : List ℕ) : Type 0 where
  pub below : (k : ℕ) → k < length xs → get_or xs k 0 < n
  pub climbs : IsStrictlyIncreasing xs

rises_none : Rises 0 []
rises_none = record { below = λ k h. absurd (omega arith); climbs = λ k h. absurd (omega arith) }

rises_on : (n : ℕ) (xs : List ℕ) → Rises n xs → Rises (suc n) xs
rises_on n xs r = record { below = λ k h. omega (arith, r.below k h); climbs = r.climbs }

rises_push : (n : ℕ) (xs : List ℕ) → Rises n xs → Rises (suc n) (xs ++ n ∷ [])
rises_push n xs r = record { below = λ k h. below k h (cases_lt k (length xs)); climbs = λ k h. climbs k h (cases_lt (k + 1) (length xs)) }
  where
    more : length (xs ++ n ∷ []) ≡ length xs + 1
    more = length_push xs n

    old_at : (k : ℕ) → k < length xs → get_or (xs ++ n ∷ []) k 0 ≡ get_or xs k 0
    old_at k h = get_or_append_left xs (n ∷ []) 0 k h

    new_at : (k : ℕ) → length xs ≡ k → get_or (xs ++ n ∷ []) k 0 ≡ n
    new_at k h = get_or_push xs n 0 k h

    below : (k : ℕ) → k < length (xs ++ n ∷ []) → (k < length xs) ⊎ (length xs ≤ k) → get_or (xs ++ n ∷ []) k 0 < suc n
    below k h (inl l) = omega (arith, old_at k l, r.below k l)
    below k h (inr l) = omega (arith, new_at k (omega (arith, more)))

    climbs : (k : ℕ) → k + 1 < length (xs ++ n ∷ []) → (k + 1 < length xs) ⊎ (length xs ≤ k + 1) → get_or (xs ++ n ∷ []) k 0 < get_or (xs ++ n ∷ []) (k + 1) 0
    climbs k h (inl l) = omega (arith, old_at k (omega arith), old_at (k + 1) l, r.climbs k l)
    climbs k h (inr l) = omega (arith, old_at k (omega (arith, more)), r.below k (omega (arith, more)), new_at (k + 1) (omega (arith, more)))

-- ---- the rows of the procedures below n

module _ (rs : List Entry) (L : List (List ℕ)) where
  -- there are not too many for the room
  pub rows_few : (n : ℕ) → length (rows_below rs L n) ≤ n
  rows_few zero = omega arith
  rows_few (suc n) = go (owner_of rs n) (rows_few n)
    where
      go : (o : Option Owner) → length (rows_below rs L n) ≤ n → length (rows_below rs L n ++ row_of L n o) ≤ suc n
      go None h = omega (arith, ap length (append-nil (rows_below rs L n)))
      go (Some o) h = omega (arith, length-append (rows_below rs L n) (row_of L n (Some o)))

  -- ---- in words

  -- what a row says of its procedure holds
  record Right (w : Row) : Type 0 where
    owner : owner_of rs w.procedure ≡ Some w.owner
    clauses : w.clauses ≡ length (formula_at L w.procedure)

  rows_right : (n : ℕ) (w : Row) → Memᴰ w (rows_below rs L n) → Right w
  rows_right zero w m = absurd (Memᴰ.not-nil m)
  rows_right (suc n) w m =
      ⊎_elim (λ (k : Memᴰ w (rows_below rs L n)). rows_right n w k)
      (λ (k : Memᴰ w (row_of L n (owner_of rs n))). go (owner_of rs n) refl k) (Memᴰ.append_cases (rows_below rs L n) m)
    where
      go : (o : Option Owner) → owner_of rs n ≡ o → Memᴰ w (row_of L n o) → Right w
      go None e k = absurd (Memᴰ.not-nil k)
      go (Some o) e k = subst Right (sym (Memᴰ.eq_of_singleton k)) (record { owner = e; clauses = refl })

  -- each procedure below n that has an owner has a row
  rows_every : (n x : ℕ) (o : Owner) → x < n → owner_of rs x ≡ Some o → (w : Row) × Memᴰ w (rows_below rs L n) × (w.procedure ≡ x)
  rows_every zero x o h e = absurd (omega arith)
  rows_every (suc n) x o h e = go (λ l. rows_every n x o l e) (cases_lt x n)
    where
      go : (x < n → (w : Row) × Memᴰ w (rows_below rs L n) × (w.procedure ≡ x)) → (x < n) ⊎ (n ≤ x) → (w : Row) × Memᴰ w (rows_below rs L (suc n)) × (w.procedure ≡ x)
      go below (inl l) = let w = below l in (w.0, Memᴰ.append_left (row_of L n (owner_of rs n)) w.1, w.2)
      go below (inr l) =
          let same : n ≡ x = omega arith in
          let own : owner_of rs n ≡ Some o = ap (owner_of rs) same ∙ e in
          let w : Row = record { procedure = n; owner = o; clauses = length (formula_at L n) } in
          (w, Memᴰ.append_right (rows_below rs L n) (subst (λ v. Memᴰ w (row_of L n v)) (sym own) (Memᴰ.head refl)), same)

  rows_rise : (n : ℕ) → Rises n (map (λ (w : Row). w.procedure) (rows_below rs L n))
  rows_rise zero = rises_none
  rows_rise (suc n) = go (owner_of rs n) (rows_rise n)
    where
      go : (o : Option Owner) → Rises n (map (λ (w : Row). w.procedure) (rows_below rs L n)) → Rises (suc n) (map (λ (w : Row). w.procedure) (rows_below rs L n ++ row_of L n o))
      go None h = subst (λ ws. Rises (suc n) (map (λ (w : Row). w.procedure) ws)) (sym (append-nil (rows_below rs L n))) (rises_on n (map (λ (w : Row). w.procedure) (rows_below rs L n)) h)
      go (Some o) h =
          subst (Rises (suc n)) (sym (map_push (λ (w : Row). w.procedure) (rows_below rs L n) (record { procedure = n; owner = o; clauses = length (formula_at L n) })))
          (rises_push n (map (λ (w : Row). w.procedure) (rows_below rs L n)) h)

  -- all rows, where no record is of a procedure past the last
  told : ((r : Entry) → Memᴰ r rs → r.procedure < procedures) → Tells rs L (rows_of rs L)
  told known = record {
    owner = λ w m. owner_belongs rs w.procedure w.owner (rows_right procedures w m).owner;
    clauses = λ w m. (rows_right procedures w m).clauses;
    every = λ r m.
        let o = owner_some rs r.procedure r (record { stands = m; names = refl }) in
        rows_every procedures r.procedure o.0 (known r m) o.1;
    rising = (rows_rise procedures).climbs;
  }

-- the rows of a set
pub set_told : (s : ProcedureSet) (L : List (List ℕ)) (rows : List Row) → rows ≡ rows_of (entries s) L → Tells (entries s) L rows
set_told s L rows e = subst (Tells (entries s) L) (sym e) (told (entries s) L (λ r m. omega (arith, procedures_are, (set_range s r m).known)))
