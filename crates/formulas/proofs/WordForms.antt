-- Bytes are read as a record exactly where they are its bytes.
use Rattle.std.proofs.Common.{◌≡◌, ℕ, zero, suc, ◌+◌, ◌-◌, ◌≤◌, Bool, true, false, cond, ◌&&◌, eqb, ltb, leb, List, [], ◌∷◌, ◌++◌, map, length, get_or, drop, replicate, Some, None, Option, sym, refl, ap, ◌∙◌, subst, arith}
use Rattle.std.specs.Option.{option_map}
use Rattle.std.specs.List.{AllByRecursion, list_all}
use Rattle.std.proofs.lemmas.List.{take-append-drop, drop-drop, take_at, drop_at, length-take, length-drop, length-map, length-append, length-replicate}
use Rattle.std.proofs.lemmas.Bool.{cond-true, cond-false, and_parts, and_from, eqb-true, leb-true, le-leb, ltb-true, lt-ltb, le-ltb}
use Rattle.formulas.specs.declared.symbol.Owner.{Owner}
use Rattle.formulas.specs.declared.symbol.Owner.TheVariants.{Station, Field}
use Rattle.formulas.specs.declared.symbol.Symbol.{Symbol}
use Rattle.formulas.specs.declared.symbol.Symbol.TheVariants.{Command, Procedure}
use Rattle.formulas.specs.RecordForms.{owner_byte, symbol_byte, record_bytes, RecordForm, symbol_in, owner_in, symbols_in, body_bytes, fill_bytes, framed, entry_in}
use Rattle.formulas.specs.Steps.{bind}
use Rattle.formulas.specs.Symbols.{Entry, InRange, Proper, proper}
use Rattle.formulas.proofs.Forms.{entry_from, framed_from, entry_framed, symbols_sound}

-- ---- proper symbols, as a fact and as a test

pub proper_fact : (s : Symbol) → proper s ≡ true → Proper s
proper_fact (Command c) e = ltb-true c 16 e
proper_fact (Procedure x) e = ltb-true x 32 e

pub all-proper : (ss : List Symbol) → list_all proper ss ≡ true → AllByRecursion Proper ss
all-proper [] e = tt
all-proper (s ∷ ss) e = let p = and_parts (proper s) (list_all proper ss) e in (proper_fact s p.0, all-proper ss p.1)

-- ---- what is read was written

owner_written : (b : ℕ) (o : Owner) → Some o ≡ owner_in b → b ≡ owner_byte o
owner_written b o e = go (eqb b 0) refl (eqb b 1) refl e
  where
    go : (t : Bool) → eqb b 0 ≡ t → (u : Bool) → eqb b 1 ≡ u → Some o ≡ cond t (Some Station) (cond u (Some Field) None) → b ≡ owner_byte o
    go true f u g e = let k : o ≡ Station = cc in eqb-true b 0 f ∙ ap owner_byte (sym k)
    go false f true g e = let k : o ≡ Field = cc in eqb-true b 1 g ∙ ap owner_byte (sym k)
    go false f false g e = let z : ◌≡◌ {A = ℕ} 0 1 = cc in absurd (omega arith)

symbol_written : (b : ℕ) (s : Symbol) → Some s ≡ symbol_in b → b ≡ symbol_byte s
symbol_written b s e = go (ltb b 16) refl (leb 32 b && ltb b 64) refl e
  where
    go : (t : Bool) → ltb b 16 ≡ t → (u : Bool) → (leb 32 b && ltb b 64) ≡ u → Some s ≡ cond t (Some (Command b)) (cond u (Some (Procedure (b - 32))) None) → b ≡ symbol_byte s
    go true f u g e = let k : s ≡ Command b = cc in ap symbol_byte (sym k)
    go false f true g e =
        let k : s ≡ Procedure (b - 32) = cc in
        let back : b ≡ 32 + (b - 32) = omega (arith, leb-true 32 b (and_parts (leb 32 b) (ltb b 64) g).0) in
        back ∙ ap symbol_byte (sym k)
    go false f false g e = let z : ◌≡◌ {A = ℕ} 0 1 = cc in absurd (omega arith)

symbols_written : (bs : List ℕ) (ss : List Symbol) → Some ss ≡ symbols_in bs → bs ≡ map symbol_byte ss
symbols_written [] ss e = let k : ss ≡ [] = cc in ap (map symbol_byte) (sym k)
symbols_written (b ∷ bs) ss e = go (symbols_written bs) (symbol_in b) refl (symbols_in bs) refl e
  where
    go : ((ss : List Symbol) → Some ss ≡ symbols_in bs → bs ≡ map symbol_byte ss) → (o : Option Symbol) → symbol_in b ≡ o → (r : Option (List Symbol)) → symbols_in bs ≡ r
        → Some ss ≡ bind o (λ s. option_map (λ ss. s ∷ ss) r) → b ∷ bs ≡ map symbol_byte ss
    go below None f r g e = let z : ◌≡◌ {A = ℕ} 0 1 = cc in absurd (omega arith)
    go below (Some s) f None g e = let z : ◌≡◌ {A = ℕ} 0 1 = cc in absurd (omega arith)
    go below (Some s) f (Some rest) g e =
        let k : ss ≡ s ∷ rest = cc in
        ap (λ c. c ∷ bs) (symbol_written b s (sym f)) ∙ ap (λ l. symbol_byte s ∷ l) (below rest (sym g)) ∙ ap (map symbol_byte) (sym k)

filled : (bs : List ℕ) → list_all (λ b. eqb b 255) bs ≡ true → bs ≡ replicate (length bs) 255
filled [] e = refl
filled (b ∷ bs) e =
    let p = and_parts (eqb b 255) (list_all (λ b. eqb b 255) bs) e in
    ap (λ c. c ∷ bs) (eqb-true b 255 p.0) ∙ ap (λ l. 255 ∷ l) (filled bs p.1)

three : (bs : List ℕ) → 3 ≤ length bs → bs ≡ get_or bs 0 0 ∷ get_or bs 1 0 ∷ get_or bs 2 0 ∷ drop 3 bs
three [] h = absurd (omega arith)
three (a ∷ []) h = absurd (omega arith)
three (a ∷ b ∷ []) h = absurd (omega arith)
three (a ∷ b ∷ c ∷ bs) h = refl

module _ (bs : List ℕ) (fits : framed bs ≡ true) where
  twelve : length bs ≡ 12
  twelve = eqb-true (length bs) 12 (and_parts (eqb (length bs) 12) _ fits).0

  later : (ltb (get_or bs 0 0) 32 && (leb (get_or bs 2 0) 9 && list_all (λ b. eqb b 255) (fill_bytes bs))) ≡ true
  later = (and_parts (eqb (length bs) 12) _ fits).1

  last_two : (leb (get_or bs 2 0) 9 && list_all (λ b. eqb b 255) (fill_bytes bs)) ≡ true
  last_two = (and_parts (ltb (get_or bs 0 0) 32) _ later).1

  few : get_or bs 2 0 ≤ 9
  few = leb-true (get_or bs 2 0) 9 (and_parts (leb (get_or bs 2 0) 9) _ last_two).0

  fill_is : fill_bytes bs ≡ replicate (9 - get_or bs 2 0) 255
  fill_is =
      let k : length (fill_bytes bs) ≡ 9 - get_or bs 2 0 = omega (arith, length-drop (3 + get_or bs 2 0) bs, twelve, few) in
      filled (fill_bytes bs) (and_parts (leb (get_or bs 2 0) 9) _ last_two).1 ∙ ap (λ n. replicate n 255) k

  module _ (o : Owner) (ss : List Symbol) (owns : Some o ≡ owner_in (get_or bs 1 0)) (says : Some ss ≡ symbols_in (body_bytes bs)) where
    body_is : body_bytes bs ≡ map symbol_byte ss
    body_is = symbols_written (body_bytes bs) ss says

    size : get_or bs 2 0 ≡ length ss
    size = omega (arith, ap length body_is, length-map ss symbol_byte, length-take (get_or bs 2 0) (drop 3 bs), length-drop 3 bs, twelve, few)

    tail-is : drop 3 bs ≡ map symbol_byte ss ++ replicate (9 - length ss) 255
    tail-is =
        sym (take-append-drop (get_or bs 2 0) (drop 3 bs))
        ∙ ap (λ l. l ++ drop (get_or bs 2 0) (drop 3 bs)) body_is
        ∙ ap (λ l. map symbol_byte ss ++ l) (drop-drop (get_or bs 2 0) 3 bs ∙ fill_is ∙ ap (λ n. replicate (9 - n) 255) size)

    formed : RecordForm bs (record { procedure = get_or bs 0 0; owner = o; body = ss })
    formed = record {
      range = record {
        known = ltb-true (get_or bs 0 0) 32 (and_parts (ltb (get_or bs 0 0) 32) _ later).0;
        short = omega (arith, size, few);
        symbols = all-proper ss (symbols_sound (body_bytes bs) ss says);
      };
      bytes =
          three bs (omega (arith, twelve)) ∙ ap (λ x. get_or bs 0 0 ∷ x ∷ get_or bs 2 0 ∷ drop 3 bs) (owner_written (get_or bs 1 0) o owns)
          ∙ ap (λ x. get_or bs 0 0 ∷ owner_byte o ∷ x ∷ drop 3 bs) size ∙ ap (λ l. get_or bs 0 0 ∷ owner_byte o ∷ length ss ∷ l) tail-is;
    }

pub form_read : (bs : List ℕ) (r : Entry) → Some r ≡ entry_in bs → RecordForm bs r
form_read bs r e = go (framed bs) refl (owner_in (get_or bs 1 0)) refl (symbols_in (body_bytes bs)) refl e
  where
    go : (t : Bool) → framed bs ≡ t → (o : Option Owner) → owner_in (get_or bs 1 0) ≡ o → (b : Option (List Symbol)) → symbols_in (body_bytes bs) ≡ b → Some r ≡ cond t (entry_from bs o b) None → RecordForm bs r
    go false f o g b h e = let z : ◌≡◌ {A = ℕ} 0 1 = cc in absurd (omega arith)
    go true f None g b h e = let z : ◌≡◌ {A = ℕ} 0 1 = cc in absurd (omega arith)
    go true f (Some o) g None h e = let z : ◌≡◌ {A = ℕ} 0 1 = cc in absurd (omega arith)
    go true f (Some o) g (Some ss) h e =
        let k : r ≡ record { procedure = get_or bs 0 0; owner = o; body = ss } = cc in
        subst (RecordForm bs) (sym k) (formed bs f o ss (sym g) (sym h))

-- ---- what is written is read

owner_again : (o : Owner) → Some o ≡ owner_in (owner_byte o)
owner_again Station = refl
owner_again Field = refl

symbol_again : (s : Symbol) → Proper s → symbol_in (symbol_byte s) ≡ Some s
symbol_again (Command c) h = cond-true (ltb c 16) (Some (Command c)) _ (lt-ltb c 16 h)
symbol_again (Procedure x) h =
    let back : 32 + x - 32 ≡ x = omega arith in
    cond-false (ltb (32 + x) 16) (Some (Command (32 + x))) _ (le-ltb (32 + x) 16 (omega arith))
    ∙ cond-true (leb 32 (32 + x) && ltb (32 + x) 64) (Some (Procedure (32 + x - 32))) None (and_from (leb 32 (32 + x)) (ltb (32 + x) 64) (le-leb 32 (32 + x) (omega arith)) (lt-ltb (32 + x) 64 (omega arith)))
    ∙ ap (λ y. Some (Procedure y)) back

symbols_again : (ss : List Symbol) → AllByRecursion Proper ss → symbols_in (map symbol_byte ss) ≡ Some ss
symbols_again [] h = refl
symbols_again (s ∷ ss) h =
    ap (λ o. bind o (λ s. option_map (λ ss. s ∷ ss) (symbols_in (map symbol_byte ss)))) (symbol_again s h.0) ∙ ap (option_map (λ ss. s ∷ ss)) (symbols_again ss h.1)

filling : (n : ℕ) → list_all (λ b. eqb b 255) (replicate n 255) ≡ true
filling zero = refl
filling (suc n) = filling n

module _ (r : Entry) (range : InRange r) where
  abbrev tail_bytes : List ℕ
  tail_bytes = map symbol_byte r.body ++ replicate (9 - length r.body) 255

  twelve_bytes : length (record_bytes r) ≡ 12
  twelve_bytes = omega (arith, length-append (map symbol_byte r.body) (replicate (9 - length r.body) 255), length-map r.body symbol_byte, length-replicate {A = ℕ} (9 - length r.body) 255, range.short)

  fill_again : fill_bytes (record_bytes r) ≡ replicate (9 - length r.body) 255
  fill_again =
      let k : 3 + length r.body ≡ suc (suc (suc (length r.body))) = omega arith in
      ap (λ n. drop n (record_bytes r)) k ∙ drop_at (map symbol_byte r.body) (replicate (9 - length r.body) 255) (length r.body) (length-map r.body symbol_byte)

  body_again : body_bytes (record_bytes r) ≡ map symbol_byte r.body
  body_again = take_at (map symbol_byte r.body) (replicate (9 - length r.body) 255) (length r.body) (length-map r.body symbol_byte)

  read_again : Some r ≡ entry_in (record_bytes r)
  read_again =
      ap (λ o. entry_from (record_bytes r) o (Some r.body)) (owner_again r.owner)
      ∙ ap (entry_from (record_bytes r) (owner_in (owner_byte r.owner))) (sym (ap symbols_in body_again ∙ symbols_again r.body range.symbols))
      ∙ entry_framed (record_bytes r) (framed_from (record_bytes r) twelve_bytes range.known range.short (ap (list_all (λ b. eqb b 255)) fill_again ∙ filling (9 - length r.body)))

pub read_form : (bs : List ℕ) (r : Entry) → RecordForm bs r → Some r ≡ entry_in bs
read_form bs r f = read_again r f.range ∙ ap entry_in (sym f.bytes)
