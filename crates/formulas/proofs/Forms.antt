-- Reading a record from its bytes.
use Rattle.std.proofs.Common.{◌≡◌, ℕ, ◌+◌, ◌-◌, ◌<◌, ◌≤◌, Bool, true, false, cond, ◌&&◌, eqb, ltb, leb, List, [], ◌∷◌, ◌++◌, length, get_or, take, drop, Some, None, Option, sym, refl, ap, ap₂, ◌∙◌, append_assoc, append-nil, arith}
use Rattle.std.specs.Option.{option_map}
use Rattle.std.proofs.lemmas.List.{drop_more, drop_all, drop-drop, take_rest}
use Rattle.std.proofs.lemmas.Bool.{cond-true, and_from, eq-eqb, le-leb, lt-ltb, and_parts, ltb-true, leb-true}
use Rattle.std.specs.List.{list_all}
use Rattle.formulas.specs.declared.symbol.Owner.{Owner}
use Rattle.formulas.specs.declared.symbol.Symbol.{Symbol}
use Rattle.formulas.specs.declared.symbol.Symbol.TheVariants.{Command, Procedure}
use Rattle.formulas.specs.RecordForms.{symbol_in, symbols_in, owner_in, body_bytes, fill_bytes, framed, entry_in}
use Rattle.formulas.specs.Steps.{bind}
use Rattle.formulas.specs.Symbols.{Entry, proper}

-- ---- the loop over the bytes of a body

-- one list before what another list says
mapped-append : {X : Type 0} (ks bs : List X) (o : Option (List X)) → option_map (λ l. (ks ++ bs) ++ l) o ≡ option_map (λ l. ks ++ l) (option_map (λ l. bs ++ l) o)
mapped-append ks bs None = refl
mapped-append ks bs (Some l) = ap Some (append_assoc ks bs l)

module _ (bytes : List ℕ) where
  -- so far the symbols of the first i bytes were read
  abbrev pub Reading : List Symbol → ℕ → Type 0
  Reading body i = option_map (λ l. body ++ l) (symbols_in (drop i bytes)) ≡ symbols_in bytes

  reading_step : (body : List Symbol) (i : ℕ) → i < length bytes → Reading body i
      → option_map (λ l. body ++ l) (bind (symbol_in (get_or bytes i 0)) (λ s. option_map (λ ss. s ∷ ss) (symbols_in (drop (i + 1) bytes)))) ≡ symbols_in bytes
  reading_step body i h at = sym (ap (λ l. option_map (λ l. body ++ l) (symbols_in l)) (drop_more bytes i 0 h)) ∙ at

  pub reading_start : Reading [] 0
  reading_start = same (symbols_in bytes)
    where
      same : (o : Option (List Symbol)) → option_map (λ l. [] ++ l) o ≡ o
      same None = refl
      same (Some l) = refl

  pub reading_more : (body next : List Symbol) (i : ℕ) (s : Symbol) → i < length bytes → Some s ≡ symbol_in (get_or bytes i 0) → next ≡ body ++ s ∷ [] → Reading body i → Reading next (i + 1)
  reading_more body next i s h is e at =
      ap (λ k. option_map (λ l. k ++ l) (symbols_in (drop (i + 1) bytes))) e ∙ mapped-append body (s ∷ []) (symbols_in (drop (i + 1) bytes))
      ∙ ap (λ o. option_map (λ l. body ++ l) (bind o (λ s. option_map (λ ss. s ∷ ss) (symbols_in (drop (i + 1) bytes))))) is ∙ reading_step body i h at

  pub reading_stop : (body : List Symbol) (i : ℕ) → i < length bytes → None ≡ symbol_in (get_or bytes i 0) → Reading body i → None ≡ symbols_in bytes
  reading_stop body i h is at =
      ap (λ o. option_map (λ l. body ++ l) (bind o (λ s. option_map (λ ss. s ∷ ss) (symbols_in (drop (i + 1) bytes))))) is ∙ reading_step body i h at

  pub reading_end : (body : List Symbol) (i : ℕ) → length bytes ≤ i → Reading body i → Some body ≡ symbols_in bytes
  reading_end body i h at = ap Some (sym (append-nil body)) ∙ sym (ap (λ l. option_map (λ l. body ++ l) (symbols_in l)) (drop_all i bytes h)) ∙ at

-- ---- what a symbol and a body say

-- the ways of reading a byte of a body
pub symbol_sound : (b : ℕ) (s : Symbol) → symbol_in b ≡ Some s → proper s ≡ true
symbol_sound b s e = go (ltb b 16) refl (leb 32 b && ltb b 64) refl e
  where
    go : (t : Bool) → ltb b 16 ≡ t → (u : Bool) → (leb 32 b && ltb b 64) ≡ u → cond t (Some (Command b)) (cond u (Some (Procedure (b - 32))) None) ≡ Some s → proper s ≡ true
    go true f u g e = let k : s ≡ Command b = cc in ap proper k ∙ f
    go false f true g e =
        let k : s ≡ Procedure (b - 32) = cc in
        let p = and_parts (leb 32 b) (ltb b 64) g in
        ap proper k ∙ lt-ltb (b - 32) 32 (omega (arith, leb-true 32 b p.0, ltb-true b 64 p.1))
    go false f false g e = let z : ◌≡◌ {A = ℕ} 0 1 = cc in absurd (omega arith)

pub symbols_sound : (bs : List ℕ) (ss : List Symbol) → Some ss ≡ symbols_in bs → list_all proper ss ≡ true
symbols_sound [] ss e = let k : ss ≡ [] = cc in ap (list_all proper) k
symbols_sound (b ∷ bs) ss e = go (symbols_sound bs) (symbol_in b) refl (symbols_in bs) refl e
  where
    go : ((ss : List Symbol) → Some ss ≡ symbols_in bs → list_all proper ss ≡ true) → (o : Option Symbol) → symbol_in b ≡ o → (r : Option (List Symbol)) → symbols_in bs ≡ r → Some ss ≡ bind o (λ s. option_map (λ ss. s ∷ ss) r) → list_all proper ss ≡ true
    go below None f r g e = let z : ◌≡◌ {A = ℕ} 0 1 = cc in absurd (omega arith)
    go below (Some s) f None g e = let z : ◌≡◌ {A = ℕ} 0 1 = cc in absurd (omega arith)
    go below (Some s) f (Some rest) g e =
        let k : ss ≡ s ∷ rest = cc in
        ap (list_all proper) k ∙ and_from (proper s) (list_all proper rest) (symbol_sound b s f) (below rest (sym g))

-- ---- the parts of a record

abbrev pub entry_from : List ℕ → Option Owner → Option (List Symbol) → Option Entry
entry_from bs o r = bind o (λ o. option_map (λ ss. record { procedure = get_or bs 0 0; owner = o; body = ss }) r)

module _ (bs : List ℕ) where
  -- what comes after the first three bytes, as the code cuts it
  abbrev rest : List ℕ
  rest = take (length bs - 3) (drop 3 bs)

  pub framed_from : length bs ≡ 12 → get_or bs 0 0 < 32 → get_or bs 2 0 ≤ 9 → list_all (λ b. eqb b 255) (fill_bytes bs) ≡ true → framed bs ≡ true
  framed_from n p l f = and_from (eqb (length bs) 12) _ (eq-eqb (length bs) 12 n) (and_from (ltb (get_or bs 0 0) 32) _ (lt-ltb (get_or bs 0 0) 32 p) (and_from (leb (get_or bs 2 0) 9) _ (le-leb (get_or bs 2 0) 9 l) f))

  pub entry_framed : framed bs ≡ true → entry_from bs (owner_in (get_or bs 1 0)) (symbols_in (body_bytes bs)) ≡ entry_in bs
  entry_framed f = sym (cond-true (framed bs) (entry_from bs (owner_in (get_or bs 1 0)) (symbols_in (body_bytes bs))) None f)

  module _ (n : ℕ) (body fill : List ℕ) (is : n ≡ get_or bs 2 0) (front : body ≡ take n rest) (back : fill ≡ drop n rest) where
    body_part : body ≡ body_bytes bs
    body_part = front ∙ ap₂ take is (take_rest bs 3)

    fill_part : fill ≡ fill_bytes bs
    fill_part = back ∙ ap₂ drop is (take_rest bs 3) ∙ drop-drop (get_or bs 2 0) 3 bs

    pub entry_read : (o : Owner) (ss : List Symbol) → length bs ≡ 12 → get_or bs 0 0 < 32 → n ≤ 9
        → true ≡ list_all (λ b. eqb b 255) fill → Some o ≡ owner_in (get_or bs 1 0) → Some ss ≡ symbols_in body
        → Some (record { procedure = get_or bs 0 0; owner = o; body = ss }) ≡ entry_in bs
    entry_read o ss len p l f w b =
        ap (λ x. entry_from bs x (Some ss)) w ∙ ap (entry_from bs (owner_in (get_or bs 1 0))) (b ∙ ap symbols_in body_part)
        ∙ entry_framed (framed_from len p (omega (arith, is, l)) (sym (f ∙ ap (list_all (λ b. eqb b 255)) fill_part)))
