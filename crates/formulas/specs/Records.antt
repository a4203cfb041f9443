-- What reading a procedure set answers.
use Rattle.std.specs.Prelude.{◌≡◌, ℕ, ◌/◌, ◌%◌, ◌<◌, ◌≤◌, Bool, if◌then◌else◌, ◌&&◌, List, [], ◌∷◌, map, length, is_some, Some, None, Ok, Err, Option, Result, ◌==◌, nat_le, nat_lt}
use mathlib.Core.List.{Memᴰ}
use Rattle.std.specs.List.{range_with_len, slice_get}
use Rattle.std.specs.Result.{result_map_both as by_cases}
use Rattle.foundation.specs.Bounds.{items}
use Rattle.foundation.specs.declared.bounded.Bounded.{Bounded}
use Rattle.rules.specs.Automata.{record_at}
use Rattle.formulas.specs.declared.fault.RecordsFault.{RecordsFault}
use Rattle.formulas.specs.declared.fault.RecordsFault.TheVariants.{Length, Form, Owner as Stray, Unrecorded}
use Rattle.formulas.specs.declared.procedure_set.ProcedureSet.{ProcedureSet}
use Rattle.formulas.specs.declared.record.Record.{Record}
use Rattle.formulas.specs.declared.symbol.Symbol.TheVariants.{Procedure}
use Rattle.formulas.specs.Checks.{agreed, bodied}
use Rattle.formulas.specs.Entries.{entry_of}
use Rattle.formulas.specs.RecordForms.{RecordForm, entry_in}
use Rattle.formulas.specs.Searches.{first_bad}
use Rattle.formulas.specs.Steps.{bind_ok}
use Rattle.formulas.specs.Symbols.{Entry, Of, Agree, Named}

-- ---- views

abbrev pub entries : ProcedureSet → List Entry
entries s = map entry_of (items s.records)

abbrev pub viewed : Result ProcedureSet RecordsFault → Result (List Entry) RecordsFault
viewed = by_cases entries (λ f. f)

abbrev pub listed : Result (Bounded Record 128) RecordsFault → Result (List Entry) RecordsFault
listed = by_cases (λ b. map entry_of (items b)) (λ f. f)

-- ---- by computing

-- 1 to 128 whole records
abbrev pub whole : List ℕ → Bool
whole bytes = length bytes % 12 == 0 && (nat_lt 0 (length bytes) && nat_le (length bytes) 1536)

-- the bytes of each whole record
abbrev pub pieces : List ℕ → List (List ℕ)
pieces bytes = map (record_at bytes) (range_with_len 0 (length bytes / 12))

-- refused at a place, where there is one; else the answer stands
abbrev pub unless : {X : Type 0} → (ℕ → RecordsFault) → Option ℕ → Result X RecordsFault → Result X RecordsFault
unless fault None r = r
unless fault (Some n) r = Err (fault n)

-- the first pass: each record has a record's form
abbrev pub formed : List ℕ → Bool
formed bs = is_some (entry_in bs)

abbrev pub before : Option Entry → List Entry → List Entry
before None rs = rs
before (Some r) rs = r ∷ rs

-- the records that pieces of that form say
abbrev pub said : List (List ℕ) → List Entry
said [] = []
said (bs ∷ ps) = before (entry_in bs) (said ps)

abbrev pub read_records : List ℕ → Result (List Entry) RecordsFault
read_records bytes =
    if whole bytes
    then unless Form (first_bad formed 0 (pieces bytes)) (Ok (said (pieces bytes)))
    else Err (Length (length bytes / 12))

-- the second pass looks at the owners, the third at the bodies
abbrev pub checked : List Entry → Result (List Entry) RecordsFault
checked rs = unless Stray (first_bad (agreed rs) 0 rs) (unless Unrecorded (first_bad (bodied rs) 0 rs) (Ok rs))

abbrev pub read_set : List ℕ → Result (List Entry) RecordsFault
read_set bytes = bind_ok (read_records bytes) checked

-- ---- in words

-- 1 to 128 whole records
abbrev pub Whole : List ℕ → Type 0
Whole bytes = (length bytes % 12 ≡ 0) × (0 < length bytes) × (length bytes ≤ 1536)

-- the set that the bytes say: as many records as whole ones, each with its bytes at its place
pub record Says (bytes : List ℕ) (rs : List Entry) : Type 0 where
  pub sized : Whole bytes
  pub count : length rs ≡ length bytes / 12
  pub forms : (i : ℕ) (r : Entry) → slice_get rs i ≡ Some r → RecordForm (record_at bytes i) r

-- record n names another owner than an earlier record of its procedure
pub record Strays (rs : List Entry) (n : ℕ) : Type 0 where
  pub here : Entry
  pub stands : slice_get rs n ≡ Some here
  pub place : ℕ
  pub earlier : place < n
  pub other : Entry
  pub stood : slice_get rs place ≡ Some other
  pub same : other.procedure ≡ here.procedure
  pub apart : other.owner ≡ here.owner → ⊥

-- the body of record n names a procedure without a record
pub record Lacks (rs : List Entry) (n : ℕ) : Type 0 where
  pub here : Entry
  pub stands : slice_get rs n ≡ Some here
  pub procedure : ℕ
  pub names : Memᴰ (Procedure procedure) here.body
  pub missing : (r : Entry) → Of rs procedure r → ⊥

-- A set is read if the bytes say it, its records agree and it has every procedure that it names; else the first fault is told: of the length, then of a form, then of an owner, then of a body.
abbrev pub Read : List ℕ → Result (List Entry) RecordsFault → Type 0
Read bytes (Ok rs) = Says bytes rs × Agree rs × Named rs
Read bytes (Err (Length n)) = (Whole bytes → ⊥) × (n ≡ length bytes / 12)
Read bytes (Err (Form n)) = Whole bytes × (n < length bytes / 12) × ((r : Entry) → RecordForm (record_at bytes n) r → ⊥) × ((i : ℕ) → i < n → (r : Entry) × RecordForm (record_at bytes i) r)
Read bytes (Err (Stray n)) = (rs : List Entry) × Says bytes rs × Strays rs n × ((i : ℕ) → i < n → Strays rs i → ⊥)
Read bytes (Err (Unrecorded n)) = (rs : List Entry) × Says bytes rs × Agree rs × Lacks rs n × ((i : ℕ) → i < n → Lacks rs i → ⊥)
