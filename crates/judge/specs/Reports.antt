-- What the judge reports of a chart's bytes and, if there are any, the bytes of procedures.
use Rattle.std.specs.Prelude.{◌≡◌, ℕ, ◌<◌, ◌≤◌, List, [], length, Some, None, Ok, Err, Decides, Option, Result, slice_index_or}
use Rattle.std.specs.Borrow.{Bor}
use Rattle.std.specs.List.{AllByRecursion}
use Rattle.foundation.specs.Bounds.{items}
use Rattle.rules.specs.declared.fault.EffectsFault.TheVariants.{TooMany, ShortSlice}
use Rattle.rules.specs.Automata.{Chartable, Unchartable, Accepts, LeadAlike}
use Rattle.rules.specs.Behaviours.{Behaviour}
use Rattle.rules.specs.Meaning.{Below}
use Rattle.rules.specs.Numbering.{Numbers}
use Rattle.rules.specs.Tables.{Table}
use Rattle.formulas.specs.declared.fault.SolveFault.{SolveFault}
use Rattle.formulas.specs.Records.{Read}
use Rattle.formulas.specs.Solving.{Solved}
use Rattle.formulas.specs.Symbols.{Entry}
use Rattle.judge.specs.declared.fault.JudgeFault.{JudgeFault}
use Rattle.judge.specs.declared.fault.JudgeFault.TheVariants.{Rule, Records, Effects, Solve}
use Rattle.judge.specs.declared.report.Report.{Report}
use Rattle.judge.specs.Rows.{rows_of, Tells}

-- b is the behaviour of the automaton that the bytes name
pub record Automatic (bytes : List ℕ) (b : Behaviour) : Type 0 where
  pub commands : b.commands ≡ 16
  pub same : (u v : List ℕ) → Below 16 u → Below 16 v → Decides (b.same u v) (LeadAlike bytes u v)
  pub breaks : (w : List ℕ) → Below 16 w → Decides (b.breaks w) (Accepts bytes w → ⊥)

-- the list behind a reference, where there is one
abbrev pub held : Option (Bor (List ℕ)) → Option (List ℕ)
held None = None
held (Some s) = Some s.now

-- there are 65 lists of which no two lead between the same states
pub record TooManyEffects (bytes : List ℕ) : Type 0 where
  pub chart : Chartable bytes
  pub lists : List (List ℕ)
  pub many : length lists ≡ 65
  pub own : AllByRecursion (Below 16) lists
  pub differ : (i j : ℕ) → i < j → j < 65 → LeadAlike bytes (slice_index_or lists i []) (slice_index_or lists j []) → ⊥

-- what is to be solved: a table that numbers the effects of the automaton, at most 64, and the records that were read
pub record Posed (chart procs : List ℕ) : Type 0 where
  pub chartable : Chartable chart
  pub rule : Behaviour
  pub automatic : Automatic chart rule
  pub table : Table
  pub numbers : Numbers rule table
  pub few : table.count ≤ 64
  pub records : List Entry
  pub read : Read procs (Ok records)

-- The report has the number of effects, the number of the first settled round, whose formulas are the least solution, and the rows of that solution.
pub record Reports (chart procs : List ℕ) (r : Report) : Type 0 where
  pub posed : Posed chart procs
  pub effects : r.effects ≡ posed.table.count
  pub formulas : List (List ℕ)
  pub solved : Solved posed.records posed.table 1000 (Ok (record { number = r.rounds; formulas = formulas }))
  pub rows : items r.rows ≡ rows_of posed.records formulas
  pub tells : Tells posed.records formulas (items r.rows)

-- what is to be solved is refused
pub record Unsolved (chart procs : List ℕ) (f : SolveFault) : Type 0 where
  pub posed : Posed chart procs
  pub refused : Solved posed.records posed.table 1000 (Err f)

-- The chart comes first, then whether there are procedures, then their records, the effects and the solution.
abbrev pub Reported : List ℕ → Option (List ℕ) → Result (Option Report) JudgeFault → Type 0
Reported chart procs (Ok (Some r)) = (p : List ℕ) × (procs ≡ Some p) × Reports chart p r
Reported chart procs (Ok None) = Chartable chart × (procs ≡ None)
Reported chart procs (Err (Rule f)) = Unchartable chart f
Reported chart procs (Err (Records f)) = Chartable chart × ((p : List ℕ) × (procs ≡ Some p) × Read p (Err f))
Reported chart procs (Err (Effects TooMany)) = TooManyEffects chart × ((p : List ℕ) × (rs : List Entry) × (procs ≡ Some p) × Read p (Ok rs))
Reported chart procs (Err (Effects (ShortSlice n))) = ⊥
Reported chart procs (Err (Solve f)) = (p : List ℕ) × (procs ≡ Some p) × Unsolved chart p f
