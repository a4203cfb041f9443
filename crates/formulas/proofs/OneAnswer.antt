-- The words fix the answer: what they allow is what reading by computing answers.
use Rattle.std.proofs.Common.{◌≡◌, ℕ, zero, suc, ◌/◌, ◌<◌, ◌≤◌, Bool, true, false, List, [], ◌∷◌, length, is_some, Some, None, Ok, Err, Option, Result, sym, refl, ap, ◌∙◌, subst, ⊎_elim, arith}
use mathlib.Core.List.{Memᴰ}
use Rattle.std.specs.List.{slice_get, list_all}
use Rattle.std.proofs.lemmas.Option.{slice_get_past}
use Rattle.std.proofs.lemmas.Bool.{cases_lt, cond-true, cond-false}
use Rattle.foundation.specs.Laws.Tests.{in_all}
use Rattle.rules.specs.Automata.{record_at}
use Rattle.formulas.specs.declared.fault.RecordsFault.{RecordsFault}
use Rattle.formulas.specs.declared.fault.RecordsFault.TheVariants.{Length, Form, Owner as Stray, Unrecorded}
use Rattle.formulas.specs.declared.symbol.Symbol.{Symbol}
use Rattle.formulas.specs.declared.symbol.Symbol.TheVariants.{Command, Procedure}
use Rattle.formulas.specs.Checks.{names_owner, agreed, recorded, bodied}
use Rattle.formulas.specs.RecordForms.{RecordForm, entry_in}
use Rattle.formulas.specs.Records.{whole, pieces, unless, formed, said, checked, read_set, Says, Strays, Lacks, Read}
use Rattle.formulas.specs.Searches.{first_bad}
use Rattle.formulas.specs.Steps.{bind_ok}
use Rattle.formulas.specs.Symbols.{Entry, Agree, Named}
use Rattle.formulas.proofs.InWords.{whole_fact, whole_test, piece_at, piece_is, has_form, read_set_reads, said_nth, says_from, strays, strays_fails, lacks, lacks_fails}
use Rattle.formulas.proofs.Records.{belongs_owner, member_nth, names_same, of_recorded}
use Rattle.formulas.proofs.Searches.{first_found, none_from}
use Rattle.formulas.proofs.WordForms.{form_read, read_form}

-- a test that cannot fail
not_failing : (t : Bool) → (t ≡ false → ⊥) → t ≡ true
not_failing true h = refl
not_failing false h = absurd (h refl)

not_passing : (t : Bool) → (t ≡ true → ⊥) → t ≡ false
not_passing true h = absurd (h refl)
not_passing false h = refl

nth_some : {X : Type 0} (xs : List X) (i : ℕ) → i < length xs → (x : X) × (slice_get xs i ≡ Some x)
nth_some [] i h = absurd (omega arith)
nth_some (x ∷ xs) zero h = (x, refl)
nth_some (x ∷ xs) (suc i) h = nth_some xs i (omega arith)

same_places : {X : Type 0} (xs ys : List X) → ((i : ℕ) → slice_get xs i ≡ slice_get ys i) → xs ≡ ys
same_places [] [] h = refl
same_places {X} [] (y ∷ ys) h = let n : ◌≡◌ {A = Option X} None (Some y) = h 0 in let z : ◌≡◌ {A = ℕ} 0 1 = cc in absurd (omega arith)
same_places {X} (x ∷ xs) [] h = let n : ◌≡◌ {A = Option X} (Some x) None = h 0 in let z : ◌≡◌ {A = ℕ} 0 1 = cc in absurd (omega arith)
same_places {X} (x ∷ xs) (y ∷ ys) h =
    let s : ◌≡◌ {A = Option X} (Some x) (Some y) = h 0 in
    let e : x ≡ y = cc in
    ap (λ z. z ∷ xs) e ∙ ap (λ l. y ∷ l) (same_places xs ys (λ i. h (suc i)))

-- ---- the bytes say one set

module _ (bytes : List ℕ) (rs : List Entry) (s : Says bytes rs) where
  said_at : (i : ℕ) → i < length bytes / 12 → (r : Entry) × (slice_get rs i ≡ Some r) × (Some r ≡ entry_in (record_at bytes i))
  said_at i h =
      let w = nth_some rs i (omega (arith, s.count)) in
      (w.0, w.1, read_form (record_at bytes i) w.0 (s.forms i w.0 w.1))

  all-formed : list_all formed (pieces bytes) ≡ true
  all-formed = in_all formed (pieces bytes) (λ b m.
      let n = member_nth b (pieces bytes) m in
      let p = piece_is bytes n.0 b n.1 in
      let w = said_at n.0 p.0 in
      ap formed p.1 ∙ ap is_some (sym w.2))

  said_is : said (pieces bytes) ≡ rs
  said_is = same_places (said (pieces bytes)) rs (λ i. ⊎_elim (inside i) (outside i) (cases_lt i (length bytes / 12)))
    where
      size : length (said (pieces bytes)) ≡ length bytes / 12
      size = (says_from bytes s.sized all-formed).count

      inside : (i : ℕ) → i < length bytes / 12 → slice_get (said (pieces bytes)) i ≡ slice_get rs i
      inside i h =
          let w = said_at i h in
          let v = nth_some (said (pieces bytes)) i (omega (arith, size)) in
          let b = said_nth (pieces bytes) all-formed i v.0 v.1 in
          v.1 ∙ b.2 ∙ ap entry_in (piece_is bytes i b.0 b.1).1 ∙ sym w.2 ∙ sym w.1

      outside : (i : ℕ) → length bytes / 12 ≤ i → slice_get (said (pieces bytes)) i ≡ slice_get rs i
      outside i h = slice_get_past (said (pieces bytes)) i (omega (arith, size)) ∙ sym (slice_get_past rs i (omega (arith, s.count)))

  pub checked_set : checked rs ≡ read_set bytes
  checked_set =
      sym (ap checked said_is)
      ∙ sym (ap (λ x. bind_ok x checked) (cond-true (whole bytes) _ (Err (Length (length bytes / 12))) (whole_test bytes s.sized) ∙ ap (λ o. unless Form o (Ok (said (pieces bytes)))) (none_from formed 0 (pieces bytes) all-formed)))

-- ---- where the words hold, the tests pass

agree_passes : (rs : List Entry) → Agree rs → list_all (agreed rs) rs ≡ true
agree_passes rs agree = in_all (agreed rs) rs (λ r m.
    ap (λ o. names_owner o r.owner) (belongs_owner rs agree r.procedure r.owner (r, record { stands = m; names = refl }, refl)) ∙ names_same r.owner)

named_passes : (rs : List Entry) → Named rs → list_all (bodied rs) rs ≡ true
named_passes rs named = in_all (bodied rs) rs (λ r m. in_all (recorded rs) r.body (symbol r m))
  where
    symbol : (r : Entry) → Memᴰ r rs → (s : Symbol) → Memᴰ s r.body → recorded rs s ≡ true
    symbol r m (Command c) k = refl
    symbol r m (Procedure x) k = let w = named r x m k in of_recorded rs x w.0 w.1

first_stray_lem : (rs : List Entry) (n : ℕ) → Strays rs n → ((i : ℕ) → i < n → Strays rs i → ⊥) → first_bad (agreed rs) 0 rs ≡ Some n
first_stray_lem rs n s none =
    let before : (j : ℕ) (y : Entry) → j < n → slice_get rs j ≡ Some y → agreed rs y ≡ true = λ j y h e. not_failing (agreed rs y) (λ f. none j h (strays rs j y e f)) in
    first_found (agreed rs) rs n (record {
      item = s.here;
      stands = s.stands;
      fails = not_passing (agreed rs s.here) (λ t. strays_fails rs n s t (before s.place s.other s.earlier s.stood));
      before = before;
    })

first_lack : (rs : List Entry) (n : ℕ) → Lacks rs n → ((i : ℕ) → i < n → Lacks rs i → ⊥) → first_bad (bodied rs) 0 rs ≡ Some n
first_lack rs n l none = first_found (bodied rs) rs n (record {
  item = l.here;
  stands = l.stands;
  fails = not_passing (bodied rs l.here) (lacks_fails rs n l);
  before = λ j y h e. not_failing (bodied rs y) (λ f. none j h (lacks rs j y e f));
})

first_formless : (bytes : List ℕ) (n : ℕ) → n < length bytes / 12 → ((r : Entry) → RecordForm (record_at bytes n) r → ⊥) → ((i : ℕ) → i < n → (r : Entry) × RecordForm (record_at bytes i) r)
    → first_bad formed 0 (pieces bytes) ≡ Some n
first_formless bytes n h none have = first_found formed (pieces bytes) n (record {
  item = record_at bytes n;
  stands = piece_at bytes n h;
  fails = not_passing (formed (record_at bytes n)) (λ t. let w = has_form (record_at bytes n) t in none w.0 (form_read (record_at bytes n) w.0 w.1));
  before = λ j y l e. let w = have j l in ap formed (piece_is bytes j y e).1 ∙ ap is_some (sym (read_form (record_at bytes j) w.0 w.1));
})

pub read_fixes : (bytes : List ℕ) (r : Result (List Entry) RecordsFault) → Read bytes r → r ≡ read_set bytes
read_fixes bytes (Ok rs) (s, agree, named) =
    sym (ap (λ o. unless Stray o (unless Unrecorded (first_bad (bodied rs) 0 rs) (Ok rs))) (none_from (agreed rs) 0 rs (agree_passes rs agree))
    ∙ ap (λ o. unless Unrecorded o (Ok rs)) (none_from (bodied rs) 0 rs (named_passes rs named))) ∙ checked_set bytes rs s
read_fixes bytes (Err (Length n)) (not_whole, e) =
    ap (λ k. Err (Length k)) e
    ∙ sym (ap (λ x. bind_ok x checked) (cond-false (whole bytes) (unless Form (first_bad formed 0 (pieces bytes)) (Ok (said (pieces bytes)))) (Err (Length (length bytes / 12))) (not_passing (whole bytes) (λ t. not_whole (whole_fact bytes t)))))
read_fixes bytes (Err (Form n)) (w, h, none, have) =
    sym (ap (λ x. bind_ok x checked) (cond-true (whole bytes) (unless Form (first_bad formed 0 (pieces bytes)) (Ok (said (pieces bytes)))) (Err (Length (length bytes / 12))) (whole_test bytes w)
    ∙ ap (λ o. unless Form o (Ok (said (pieces bytes)))) (first_formless bytes n h none have)))
read_fixes bytes (Err (Stray n)) (rs, s, t, none) =
    sym (ap (λ o. unless Stray o (unless Unrecorded (first_bad (bodied rs) 0 rs) (Ok rs))) (first_stray_lem rs n t none)) ∙ checked_set bytes rs s
read_fixes bytes (Err (Unrecorded n)) (rs, s, agree, l, none) =
    sym (ap (λ o. unless Stray o (unless Unrecorded (first_bad (bodied rs) 0 rs) (Ok rs))) (none_from (agreed rs) 0 rs (agree_passes rs agree))
    ∙ ap (λ o. unless Unrecorded o (Ok rs)) (first_lack rs n l none)) ∙ checked_set bytes rs s

-- an answer, by computing, in words, and as the only one
pub read_answer : (bytes : List ℕ) (r : Result (List Entry) RecordsFault) → r ≡ read_set bytes
    → record { value : r ≡ read_set bytes; words : Read bytes r; only : (x : Result (List Entry) RecordsFault) → Read bytes x → x ≡ r }
read_answer bytes r e = record { value = e; words = subst (Read bytes) (sym e) (read_set_reads bytes); only = λ x h. read_fixes bytes x h ∙ sym e }
