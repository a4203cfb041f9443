-- The equations, and their least solution.
use Rattle.std.specs.Prelude.{◌≡◌, ℕ, suc, ◌^◌, ◌<◌, true, false, List, Ok, Decides, ◌≢◌}
use mathlib.Core.List.{Memᴰ}
use Rattle.foundation.specs.Bits.{has}
use Rattle.rules.specs.Tables.{Table}
use Rattle.formulas.specs.declared.symbol.Owner.TheVariants.{Station, Field}
use Rattle.formulas.specs.declared.symbol.Symbol.{Symbol}
use Rattle.formulas.specs.Formulas.{meets, Normal, BelowWidth}
use Rattle.formulas.specs.Rounds.{formula_at, round}
use Rattle.formulas.specs.Symbols.{Entry, Of, Belongs, Agree}
use Rattle.formulas.specs.Trees.{Tree, LeadsInto}
use Rattle.formulas.specs.Winning.{Assignment, assigned, winning}

module _ (rs : List Entry) (t : Table) where
  -- the field wins the body of r from the start, if it wins each procedure as φ says
  abbrev pub WinsBody : Assignment → ℕ → Entry → Type 0
  WinsBody φ A r = has (winning t φ A r.body) 0 ≡ true

  -- φ solves the equations, for sets A of effects: a station's procedure is won where all its bodies are, a field's where one of them is, and one without records nowhere.
  pub record Solves (φ : Assignment) : Type 0 where
    pub station : (x A : ℕ) → A < 2 ^ t.count → Belongs rs Station x → Decides (φ x A) ((r : Entry) → Of rs x r → WinsBody φ A r)
    pub field : (x A : ℕ) → A < 2 ^ t.count → Belongs rs Field x → Decides (φ x A) ((r : Entry) × Of rs x r × WinsBody φ A r)
    pub without : (x A : ℕ) → A < 2 ^ t.count → ((r : Entry) → Of rs x r → ⊥) → φ x A ≡ false

  -- the formulas solve the equations, the field wins by them only where it does by every solution, and their clauses are the smallest ones, in rising order
  pub record LeastSolution (L : List (List ℕ)) : Type 0 where
    pub solves : Solves (assigned (formula_at L))
    pub least : (φ : Assignment) → Solves φ → (x A : ℕ) → A < 2 ^ t.count → assigned (formula_at L) x A ≡ true → φ x A ≡ true
    pub smallest : (x : ℕ) → Normal (formula_at L x)
    pub numbers : (x : ℕ) → BelowWidth t.count (formula_at L x)

  -- L is round k, which is equal to the round before it; of the earlier rounds none is
  pub record FirstSettled (limit k : ℕ) (L : List (List ℕ)) : Type 0 where
    pub before : ℕ
    pub after : k ≡ suc before
    pub is : round limit rs t k ≡ Ok L
    pub equal : round limit rs t before ≡ Ok L
    pub earlier : (j : ℕ) → j < before → round limit rs t (suc j) ≢ round limit rs t j

  -- F is a formula of the list s: it meets a set of effects exactly where the field has a tree under that set
  abbrev pub MeetsByTrees : List Symbol → List ℕ → Type 0
  MeetsByTrees s F = (A : ℕ) → A < 2 ^ t.count → Decides (meets (has A) F) (Tree rs (LeadsInto t A 0) s)

-- the lists of clauses are the settled formulas of the records rs
pub record SettledLists (rs : List Entry) (t : Table) (lists : ℕ → List ℕ) : Type 0 where
  pub agree : Agree rs
  pub known : (r : Entry) → Memᴰ r rs → r.procedure < 32
  pub number : ℕ
  pub formulas : List (List ℕ)
  pub are : (x : ℕ) → lists x ≡ formula_at formulas x
  pub settled : FirstSettled rs t 64 number formulas

-- W has exactly the effects after which the field has a tree on s, where A is forbidden
abbrev pub WonByTrees : List Entry → Table → ℕ → List Symbol → ℕ → Type 0
WonByTrees rs t A s W = (e : ℕ) → e < t.count → Decides (has W e) (Tree rs (LeadsInto t A e) s)
