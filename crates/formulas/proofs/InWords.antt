-- Reading by computing answers what the words say.
use Rattle.std.proofs.Common.{◌≡◌, ℕ, zero, suc, ◌+◌, ◌/◌, ◌%◌, ◌<◌, ◌≤◌, Bool, true, false, cond, eqb, ltb, leb, List, [], ◌∷◌, map, length, is_some, Some, None, Ok, Err, Option, Result, sym, refl, ap, ◌∙◌, subst, ⊎_elim, arith}
use mathlib.Core.List.{Memᴰ}
use Rattle.std.specs.List.{range_with_len, slice_get, list_all}
use Rattle.std.proofs.lemmas.List.FromFn.{length-map-range_with_len}
use Rattle.std.proofs.lemmas.Bool.{and_parts, and_from, cases_lt, eqb-true, eq-eqb, leb-true, le-leb, ltb-true, lt-ltb}
use Rattle.foundation.specs.Laws.Tests.{all_in, not_all_in}
use Rattle.rules.specs.Automata.{record_at}
use Rattle.formulas.specs.declared.fault.RecordsFault.{RecordsFault}
use Rattle.formulas.specs.declared.fault.RecordsFault.TheVariants.{Length, Form, Owner as Stray, Unrecorded}
use Rattle.formulas.specs.declared.symbol.Symbol.{Symbol}
use Rattle.formulas.specs.declared.symbol.Symbol.TheVariants.{Command, Procedure}
use Rattle.formulas.specs.Checks.{names_owner, agreed, recorded, bodied}
use Rattle.formulas.specs.RecordForms.{RecordForm, entry_in}
use Rattle.formulas.specs.Records.{whole, pieces, unless, formed, before, said, read_records, checked, read_set, Whole, Says, Strays, Lacks, Read}
use Rattle.formulas.specs.Searches.{first_bad}
use Rattle.formulas.specs.Steps.{bind_ok}
use Rattle.formulas.specs.Symbols.{Entry, owner_of}
use Rattle.formulas.proofs.Records.{owner_early, names_same, agreed_owner, agree_from, recorded_of, of_recorded, named_from}
use Rattle.formulas.proofs.Searches.{none_bad, First, first_is}
use Rattle.formulas.proofs.WordForms.{form_read, read_form}

-- ---- the length

pub whole_fact : (bytes : List ℕ) → whole bytes ≡ true → Whole bytes
whole_fact bytes e =
    let p = and_parts (eqb (length bytes % 12) 0) _ e in
    let q = and_parts (ltb 0 (length bytes)) (leb (length bytes) 1536) p.1 in
    (eqb-true (length bytes % 12) 0 p.0, ltb-true 0 (length bytes) q.0, leb-true (length bytes) 1536 q.1)

pub whole_test : (bytes : List ℕ) → Whole bytes → whole bytes ≡ true
whole_test bytes w = and_from (eqb (length bytes % 12) 0) _ (eq-eqb (length bytes % 12) 0 w.0) (and_from (ltb 0 (length bytes)) _ (lt-ltb 0 (length bytes) w.1) (le-leb (length bytes) 1536 w.2))

-- ---- the pieces, by number

counted_nth : {X : Type 0} (f : ℕ → X) (a n i : ℕ) → i < n → slice_get (map f (range_with_len a n)) i ≡ Some (f (a + i))
counted_nth f a zero i h = absurd (omega arith)
counted_nth f a (suc n) zero h = let k : a ≡ a + 0 = omega arith in ap (λ j. Some (f j)) k
counted_nth f a (suc n) (suc i) h = let k : a + 1 + i ≡ a + suc i = omega arith in counted_nth f (a + 1) n i (omega arith) ∙ ap (λ j. Some (f j)) k

counted-some : {X : Type 0} (f : ℕ → X) (a n i : ℕ) (x : X) → slice_get (map f (range_with_len a n)) i ≡ Some x → (i < n) × (x ≡ f (a + i))
counted-some f a zero i x e = let z : ◌≡◌ {A = ℕ} 0 1 = cc in absurd (omega arith)
counted-some f a (suc n) zero x e = let k : a ≡ a + 0 = omega arith in (omega arith, (let s : x ≡ f a = cc in s) ∙ ap f k)
counted-some f a (suc n) (suc i) x e =
    let w = counted-some f (a + 1) n i x e in
    let k : a + 1 + i ≡ a + suc i = omega arith in
    (omega (arith, w.0), w.1 ∙ ap f k)

module _ (bytes : List ℕ) where
  pub piece_at : (i : ℕ) → i < length bytes / 12 → slice_get (pieces bytes) i ≡ Some (record_at bytes i)
  piece_at i h = let k : 0 + i ≡ i = omega arith in counted_nth (record_at bytes) 0 (length bytes / 12) i h ∙ ap (λ j. Some (record_at bytes j)) k

  pub piece_is : (i : ℕ) (b : List ℕ) → slice_get (pieces bytes) i ≡ Some b → (i < length bytes / 12) × (b ≡ record_at bytes i)
  piece_is i b e =
      let w = counted-some (record_at bytes) 0 (length bytes / 12) i b e in
      let k : 0 + i ≡ i = omega arith in
      (w.0, w.1 ∙ ap (record_at bytes) k)

-- ---- the forms

unread : (bs : List ℕ) → formed bs ≡ false → (r : Entry) → RecordForm bs r → ⊥
unread bs e r f = let t : formed bs ≡ true = ap is_some (sym (read_form bs r f)) in let z : ◌≡◌ {A = Bool} true false = sym t ∙ e in let n : ◌≡◌ {A = ℕ} 0 1 = cc in omega arith

pub has_form : (bs : List ℕ) → formed bs ≡ true → (r : Entry) × (Some r ≡ entry_in bs)
has_form bs e = go (entry_in bs) e
  where
    go : (o : Option Entry) → is_some o ≡ true → (r : Entry) × (Some r ≡ o)
    go None e = let z : ◌≡◌ {A = ℕ} 0 1 = cc in absurd (omega arith)
    go (Some r) e = (r, refl)

said_all : (b : List ℕ) (ps : List (List ℕ)) → formed b ≡ true → (r : Entry) × (Some r ≡ entry_in b) × (said (b ∷ ps) ≡ r ∷ said ps)
said_all b ps e = let w = has_form b e in (w.0, w.1, ap (λ o. before o (said ps)) (sym w.1))

pub said-length : (ps : List (List ℕ)) → list_all formed ps ≡ true → length (said ps) ≡ length ps
said-length [] e = refl
said-length (b ∷ ps) e =
    let p = and_parts (formed b) (list_all formed ps) e in
    let w = said_all b ps p.0 in
    ap length w.2 ∙ ap suc (said-length ps p.1)

pub said_nth : (ps : List (List ℕ)) → list_all formed ps ≡ true → (i : ℕ) (r : Entry) → slice_get (said ps) i ≡ Some r → (b : List ℕ) × (slice_get ps i ≡ Some b) × (Some r ≡ entry_in b)
said_nth [] e i r h = let z : ◌≡◌ {A = ℕ} 0 1 = cc in absurd (omega arith)
said_nth (b ∷ ps) e i r h =
    let p = and_parts (formed b) (list_all formed ps) e in
    let w = said_all b ps p.0 in
    go w.0 w.1 i (ap (λ l. slice_get l i) (sym w.2) ∙ h) (said_nth ps p.1)
  where
    go : (s : Entry) → Some s ≡ entry_in b → (j : ℕ) → slice_get (s ∷ said ps) j ≡ Some r → ((k : ℕ) (q : Entry) → slice_get (said ps) k ≡ Some q → (c : List ℕ) × (slice_get ps k ≡ Some c) × (Some q ≡ entry_in c))
        → (c : List ℕ) × (slice_get (b ∷ ps) j ≡ Some c) × (Some r ≡ entry_in c)
    go s f zero h below = (b, refl, sym h ∙ f)
    go s f (suc j) h below = below j r h

pub says_from : (bytes : List ℕ) → Whole bytes → list_all formed (pieces bytes) ≡ true → Says bytes (said (pieces bytes))
says_from bytes w e = record {
  sized = w;
  count = said-length (pieces bytes) e ∙ length-map-range_with_len (record_at bytes) 0 (length bytes / 12);
  forms = λ i r h.
      let s = said_nth (pieces bytes) e i r h in
      subst (λ b. RecordForm b r) (piece_is bytes i s.0 s.1).1 (form_read s.0 r s.2);
}

-- ---- owners

module _ (rs : List Entry) (n : ℕ) (here : Entry) (stands : slice_get rs n ≡ Some here) (fails : agreed rs here ≡ false) where
  pub strays : Strays rs n
  strays =
      let o = owner_early rs here.procedure n here stands refl in
      let apart : (o.first.owner ≡ here.owner) → ⊥ = λ e.
      let t : agreed rs here ≡ true = ap (λ x. names_owner x here.owner) (o.is ∙ ap Some e) ∙ names_same here.owner in
      let z : ◌≡◌ {A = Bool} true false = sym t ∙ fails in
      let k : ◌≡◌ {A = ℕ} 0 1 = cc in omega arith in
      record {
        here = here;
        stands = stands;
        place = o.place;
        earlier = ⊎_elim (λ (l : o.place < n). l)
            (λ (l : n ≤ o.place).
            let k : o.place ≡ n = omega (arith, o.early) in
            let s : Some o.first ≡ Some here = sym o.stands ∙ ap (slice_get rs) k ∙ stands in
            let q : o.first ≡ here = cc in
            absurd (apart (ap (λ (r : Entry). r.owner) q))) (cases_lt o.place n);
        other = o.first;
        stood = o.stands;
        same = o.names;
        apart = apart;
      }

-- where it strays, it or an earlier record fails
pub strays_fails : (rs : List Entry) (i : ℕ) (s : Strays rs i) → agreed rs s.here ≡ true → agreed rs s.other ≡ true → ⊥
strays_fails rs i s f g =
    let a = agreed_owner rs s.here f in
    let b = agreed_owner rs s.other g in
    let e : Some s.other.owner ≡ Some s.here.owner = sym b ∙ ap (owner_of rs) s.same ∙ a in
    let k : s.other.owner ≡ s.here.owner = cc in
    s.apart k

-- ---- bodies

module _ (rs : List Entry) (n : ℕ) (here : Entry) (stands : slice_get rs n ≡ Some here) (fails : bodied rs here ≡ false) where
  pub lacks : Lacks rs n
  lacks = let w = not_all_in (recorded rs) here.body fails in go w.0 w.1 w.2
    where
      go : (s : Symbol) → Memᴰ s here.body → recorded rs s ≡ false → Lacks rs n
      go (Command c) m e = let z : ◌≡◌ {A = ℕ} 0 1 = cc in absurd (omega arith)
      go (Procedure x) m e = record {
        here = here;
        stands = stands;
        procedure = x;
        names = m;
        missing = λ r o. let t : ◌≡◌ {A = Bool} true false = sym (of_recorded rs x r o) ∙ e in let z : ◌≡◌ {A = ℕ} 0 1 = cc in omega arith;
      }

pub lacks_fails : (rs : List Entry) (i : ℕ) (l : Lacks rs i) → bodied rs l.here ≡ true → ⊥
lacks_fails rs i l f = let w = recorded_of rs l.procedure (all_in (recorded rs) l.names f) in l.missing w.0 w.1

-- ---- the whole

pub checked_reads : (bytes : List ℕ) (rs : List Entry) → Says bytes rs → Read bytes (checked rs)
checked_reads bytes rs s = go (first_bad (agreed rs) 0 rs) refl (first_bad (bodied rs) 0 rs) refl
  where
    go : (o : Option ℕ) → first_bad (agreed rs) 0 rs ≡ o → (b : Option ℕ) → first_bad (bodied rs) 0 rs ≡ b → Read bytes (unless Stray o (unless Unrecorded b (Ok rs)))
    go (Some n) f b g =
        let at = first_is (agreed rs) n rs f in
        (rs, s, strays rs n at.item at.stands at.fails, λ i h t. strays_fails rs i t (at.before i t.here h t.stands) (at.before t.place t.other (omega (arith, t.earlier)) t.stood))
    go None f (Some n) g =
        let at = first_is (bodied rs) n rs g in
        (rs, s, agree_from rs (none_bad (agreed rs) 0 rs f), lacks rs n at.item at.stands at.fails, λ i h l. lacks_fails rs i l (at.before i l.here h l.stands))
    go None f None g = (s, agree_from rs (none_bad (agreed rs) 0 rs f), named_from rs (none_bad (bodied rs) 0 rs g))

pub form_reads : (bytes : List ℕ) (n : ℕ) → Whole bytes → First formed (pieces bytes) n → Read bytes (Err (Form n))
form_reads bytes n w at =
    let p = piece_is bytes n at.item at.stands in (
      w,
      p.0,
      subst (λ b. (r : Entry) → RecordForm b r → ⊥) p.1 (unread at.item at.fails),
      λ i h.
          let f = has_form (record_at bytes i) (at.before i (record_at bytes i) h (piece_at bytes i (omega (arith, p.0)))) in
          (f.0, form_read (record_at bytes i) f.0 f.1),
    )

pub read_set_reads : (bytes : List ℕ) → Read bytes (read_set bytes)
read_set_reads bytes = go (whole bytes) refl (first_bad formed 0 (pieces bytes)) refl
  where
    go : (w : Bool) → whole bytes ≡ w → (f : Option ℕ) → first_bad formed 0 (pieces bytes) ≡ f
        → Read bytes (bind_ok (cond w (unless Form f (Ok (said (pieces bytes)))) (Err (Length (length bytes / 12)))) checked)
    go false e f g = ((λ w. let z : ◌≡◌ {A = Bool} true false = sym (whole_test bytes w) ∙ e in let k : ◌≡◌ {A = ℕ} 0 1 = cc in omega arith), refl)
    go true e (Some n) g = form_reads bytes n (whole_fact bytes e) (first_is formed n (pieces bytes) g)
    go true e None g = checked_reads bytes (said (pieces bytes)) (says_from bytes (whole_fact bytes e) (none_bad formed 0 (pieces bytes) g))

-- what the first pass gives is what the bytes say
pub records_say : (bytes : List ℕ) (rs : List Entry) → Ok rs ≡ read_records bytes → Says bytes rs
records_say bytes rs = go (whole bytes) refl (first_bad formed 0 (pieces bytes)) refl
  where
    go : (w : Bool) → whole bytes ≡ w → (f : Option ℕ) → first_bad formed 0 (pieces bytes) ≡ f
        → Ok rs ≡ cond w (unless Form f (Ok (said (pieces bytes)))) (Err (Length (length bytes / 12))) → Says bytes rs
    go false e f g h = let z : ◌≡◌ {A = ℕ} 0 1 = cc in absurd (omega arith)
    go true e (Some n) g h = let z : ◌≡◌ {A = ℕ} 0 1 = cc in absurd (omega arith)
    go true e None g h =
        let k : rs ≡ said (pieces bytes) = cc in
        subst (Says bytes) (sym k) (says_from bytes (whole_fact bytes e) (none_bad formed 0 (pieces bytes) g))

-- ---- the steps of the code

module _ (bytes : List ℕ) where
  pub refused_early : (r : Result (List Entry) RecordsFault) (f : RecordsFault) → r ≡ Err f → Err f ≡ read_records bytes → r ≡ read_set bytes
  refused_early r f e h = e ∙ ap (λ x. bind_ok x checked) h

  -- the records that the first pass gave, as the slice that the other passes look at
  module _ (rs part : List Entry) (ok : Ok rs ≡ read_records bytes) (e : part ≡ rs) where
    checked_is : checked rs ≡ read_set bytes
    checked_is = ap (λ x. bind_ok x checked) ok

    strays_in : (o : Option ℕ) → o ≡ first_bad (agreed part) 0 part → o ≡ first_bad (agreed rs) 0 rs
    strays_in o h = h ∙ ap (λ l. first_bad (agreed l) 0 l) e

    pub refused_owner : (n : ℕ) → Some n ≡ first_bad (agreed part) 0 part → Err (Stray n) ≡ read_set bytes
    refused_owner n h = ap (λ o. unless Stray o (unless Unrecorded (first_bad (bodied rs) 0 rs) (Ok rs))) (strays_in (Some n) h) ∙ checked_is

    module _ (agree : None ≡ first_bad (agreed part) 0 part) where
      lacks_in : (o : Option ℕ) → o ≡ first_bad (bodied part) 0 part → o ≡ first_bad (bodied rs) 0 rs
      lacks_in o h = h ∙ ap (λ l. first_bad (bodied l) 0 l) e

      owners_passed : (o : Option ℕ) → o ≡ first_bad (bodied part) 0 part → unless Unrecorded o (Ok rs) ≡ read_set bytes
      owners_passed o h =
          ap (λ x. unless Unrecorded x (Ok rs)) (lacks_in o h)
          ∙ ap (λ x. unless Stray x (unless Unrecorded (first_bad (bodied rs) 0 rs) (Ok rs))) (strays_in None agree) ∙ checked_is

      pub refused_body : (n : ℕ) → Some n ≡ first_bad (bodied part) 0 part → Err (Unrecorded n) ≡ read_set bytes
      refused_body n h = owners_passed (Some n) h

      pub set_is_read : None ≡ first_bad (bodied part) 0 part → Ok rs ≡ read_set bytes
      set_is_read h = owners_passed None h

      -- what a procedure set promises of its records
      pub set_some : 0 < length rs
      set_some = let s = records_say bytes rs ok in omega (arith, s.sized, s.count)

      pub set_agreed : list_all (agreed rs) rs ≡ true
      set_agreed = none_bad (agreed rs) 0 rs (sym (strays_in None agree))

      pub set_bodied : None ≡ first_bad (bodied part) 0 part → list_all (bodied rs) rs ≡ true
      set_bodied h = none_bad (bodied rs) 0 rs (sym (lacks_in None h))
