-- The passes over the records of a set, as the code makes them.
use Rattle.std.proofs.Common.{◌≡◌, ℕ, suc, ◌+◌, ◌-◌, ◌*◌, ◌/◌, ◌%◌, ◌<◌, ◌≤◌, true, not, cond, eqb, ltb, List, [], ◌∷◌, ◌++◌, map, length, take, drop, is_some, Some, None, Ok, Err, Option, Result, sym, refl, ap, ◌∙◌, append_assoc, append-nil, arith}
use Rattle.std.specs.List.{range_with_len}
use Rattle.std.specs.Option.{ok_or, option_map}
use Rattle.std.proofs.lemmas.List.{drop-drop, drop_at, take_at, length-drop, length-append}
use Rattle.std.proofs.lemmas.Bool.{cond-true, and_from, eq-eqb, le-leb, lt-ltb}
use Rattle.rules.specs.Automata.{record_at}
use Rattle.formulas.specs.declared.fault.RecordsFault.{RecordsFault}
use Rattle.formulas.specs.declared.fault.RecordsFault.TheVariants.{Length, Form}
use Rattle.formulas.specs.RecordForms.{entry_in}
use Rattle.formulas.specs.Records.{whole, pieces, unless, formed, before, said, read_records}
use Rattle.formulas.specs.Searches.{first_bad}
use Rattle.formulas.specs.Symbols.{Entry}

-- ---- a record, or the fault that stands for none

module _ {X Y E : Type 0} (f : X → Y) (fault : E) where
  pub read_some : (o : Option X) (x : X) → Ok x ≡ ok_or o fault → Some (f x) ≡ option_map f o
  read_some None x e = absurd (let z : ◌≡◌ {A = ℕ} 0 1 = cc in omega arith)
  read_some (Some y) x e = let z : x ≡ y = cc in ap (λ y. Some (f y)) z

  pub read_none : (o : Option X) (g : E) → Err g ≡ ok_or o fault → (g ≡ fault) × (None ≡ option_map f o)
  read_none None g e = ((let z : g ≡ fault = cc in z), refl)
  read_none (Some y) g e = absurd (let z : ◌≡◌ {A = ℕ} 0 1 = cc in omega arith)

-- ---- the first pass

module _ (bytes : List ℕ) where
  -- the code has cut off the first i pieces, and left is still to be cut
  abbrev pub Cut : List ℕ → ℕ → Type 0
  Cut left i = left ≡ drop (12 * i) bytes

  pub cut_start : (left : List ℕ) → left ≡ bytes → Cut left 0
  cut_start left e = e

  module _ (left next piece : List ℕ) (i : ℕ) (at : Cut left i) (cut : left ≡ piece ++ next) (long : length piece ≡ 12) where
    pub cut_more : Cut next (i + 1)
    cut_more =
        let k : 12 * i + 12 ≡ 12 * (i + 1) = omega arith in
        sym (drop_at piece next 12 long) ∙ ap (drop 12) (sym cut ∙ at) ∙ drop-drop 12 (12 * i) bytes ∙ ap (λ n. drop n bytes) k

    pub cut_there : i < length bytes / 12
    cut_there = omega (arith, ap length (sym at ∙ cut), length-drop (12 * i) bytes, length-append piece next)

    cut_is : piece ≡ record_at bytes i
    cut_is = sym (take_at piece next 12 long) ∙ ap (take 12) (sym cut ∙ at)

  pub cut_end : (left : List ℕ) (i : ℕ) → Cut left i → length left < 12 → length bytes / 12 ≤ i
  cut_end left i at short = omega (arith, ap length at, length-drop (12 * i) bytes)

  -- the pieces from number i on
  abbrev rest : ℕ → List (List ℕ)
  rest i = map (record_at bytes) (range_with_len i (length bytes / 12 - i))

  abbrev formed_set : Result (List Entry) RecordsFault
  formed_set = unless Form (first_bad formed 0 (pieces bytes)) (Ok (said (pieces bytes)))

  -- so far the first i pieces said rs
  abbrev pub Forming : List Entry → ℕ → Type 0
  Forming rs i = unless Form (first_bad formed i (rest i)) (Ok (rs ++ said (rest i))) ≡ formed_set

  -- at the piece i, which says o
  abbrev at_piece : List Entry → ℕ → Option Entry → Result (List Entry) RecordsFault
  at_piece rs i o = unless Form (cond (not (is_some o)) (Some i) (first_bad formed (i + 1) (rest (i + 1)))) (Ok (rs ++ before o (said (rest (i + 1)))))

  forming_step : (rs : List Entry) (i : ℕ) → i < length bytes / 12 → Forming rs i → at_piece rs i (entry_in (record_at bytes i)) ≡ formed_set
  forming_step rs i h at =
      let k : length bytes / 12 - i ≡ suc (length bytes / 12 - (i + 1)) = omega arith in
      sym (ap (λ m. unless Form (first_bad formed i (map (record_at bytes) (range_with_len i m))) (Ok (rs ++ said (map (record_at bytes) (range_with_len i m))))) k) ∙ at

  formed_is : whole bytes ≡ true → formed_set ≡ read_records bytes
  formed_is w = sym (cond-true (whole bytes) formed_set (Err (Length (length bytes / 12))) w)

  pub forming_start : (rs : List Entry) → rs ≡ [] → Forming rs 0
  forming_start rs e =
      let k : length bytes / 12 - 0 ≡ length bytes / 12 = omega arith in
      ap (λ l. unless Form (first_bad formed 0 (rest 0)) (Ok (l ++ said (rest 0)))) e
      ∙ ap (λ m. unless Form (first_bad formed 0 (map (record_at bytes) (range_with_len 0 m))) (Ok (said (map (record_at bytes) (range_with_len 0 m))))) k

  module _ (rs : List Entry) (i : ℕ) (at : Forming rs i) (left next piece : List ℕ) (before : Cut left i) (cut : left ≡ piece ++ next) (long : length piece ≡ 12) where
    step_is : (o : Option Entry) → o ≡ entry_in piece → at_piece rs i o ≡ formed_set
    step_is o is = ap (at_piece rs i) (is ∙ ap entry_in (cut_is left next piece i before cut long)) ∙ forming_step rs i (cut_there left next piece i before cut long) at

    pub forming_more : (now : List Entry) (r : Entry) → Some r ≡ entry_in piece → now ≡ rs ++ r ∷ [] → Forming now (i + 1)
    forming_more now r is e =
        ap (λ l. unless Form (first_bad formed (i + 1) (rest (i + 1))) (Ok l)) (ap (λ l. l ++ said (rest (i + 1))) e ∙ append_assoc rs (r ∷ []) (said (rest (i + 1)))) ∙ step_is (Some r) is

    pub forming_stop : whole bytes ≡ true → None ≡ entry_in piece → Err (Form i) ≡ read_records bytes
    forming_stop w is = step_is None is ∙ formed_is w

  pub forming_end : (rs : List Entry) (i : ℕ) → whole bytes ≡ true → length bytes / 12 ≤ i → Forming rs i → Ok rs ≡ read_records bytes
  forming_end rs i w h at =
      let k : length bytes / 12 - i ≡ 0 = omega arith in
      ap Ok (sym (append-nil rs))
      ∙ sym (ap (λ m. unless Form (first_bad formed i (map (record_at bytes) (range_with_len i m))) (Ok (rs ++ said (map (record_at bytes) (range_with_len i m))))) k) ∙ at ∙ formed_is w

  pub whole_from : length bytes % 12 ≡ 0 → (length bytes / 12 ≡ 0 → ⊥) → length bytes / 12 ≤ 128 → whole bytes ≡ true
  whole_from a b c = and_from (eqb (length bytes % 12) 0) _ (eq-eqb (length bytes % 12) 0 a) (and_from (ltb 0 (length bytes)) _ (lt-ltb 0 (length bytes) (omega arith)) (le-leb (length bytes) 1536 (omega arith)))
