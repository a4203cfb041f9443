-- The rows of a report: one for each procedure with a record.
use Rattle.std.specs.Prelude.{◌≡◌, ℕ, zero, suc, List, [], ◌∷◌, ◌++◌, map, length, Some, None, Option}
use mathlib.Core.List.{Memᴰ}
use Rattle.std.specs.List.Sorted.{IsStrictlyIncreasing}
use Rattle.formulas.specs.declared.symbol.Owner.{Owner}
use Rattle.formulas.specs.Rounds.{procedures, formula_at}
use Rattle.formulas.specs.Symbols.{Entry, Belongs, owner_of}
use Rattle.judge.specs.declared.report.Row.{Row}

-- ---- by computing

-- the row of the procedure x, which has the owner given; none where it has no owner
abbrev pub row_of : List (List ℕ) → ℕ → Option Owner → List Row
row_of L x None = []
row_of L x (Some o) = record { procedure = x; owner = o; clauses = length (formula_at L x) } ∷ []

module _ (rs : List Entry) (L : List (List ℕ)) where
  -- the rows of the procedures below n
  abbrev pub rows_below : ℕ → List Row
  rows_below zero = []
  rows_below (suc n) = rows_below n ++ row_of L n (owner_of rs n)

  -- the rows of the records rs, whose procedures have the formulas L
  abbrev pub rows_of : List Row
  rows_of = rows_below procedures

  -- ---- in words

  -- each row has a procedure with a record, its owner and how many clauses its formula has; each procedure with a record has a row; the numbers rise
  pub record Tells (rows : List Row) : Type 0 where
    pub owner : (w : Row) → Memᴰ w rows → Belongs rs w.owner w.procedure
    pub clauses : (w : Row) → Memᴰ w rows → w.clauses ≡ length (formula_at L w.procedure)
    pub every : (r : Entry) → Memᴰ r rs → (w : Row) × Memᴰ w rows × (w.procedure ≡ r.procedure)
    pub rising : IsStrictlyIncreasing (map (λ (w : Row). w.procedure) rows)
