-- A chart drawn from records permits exactly what their automaton accepts.
use Rattle.std.proofs.Common.{◌≡◌, ℕ, ◌+◌, ◌*◌, ◌/◌, ◌%◌, ◌^◌, ◌<◌, Bool, true, false, ◌&&◌, ◌||◌, eqb, ◌⊎◌, ◌↔◌, List, [], ◌∷◌, length, get_or, set, MatchBool, Decides, sym, refl, ap, ◌∙◌, subst, inl, inr, ⊎_elim, arith}
use lib.Bits.{bit_and, bit_or}
use Rattle.std.proofs.lemmas.Nat.{or_lt, mod_below, pow_pos}
use Rattle.std.proofs.lemmas.List.{get_or-set_same, get_or-set_other, length-set}
use Rattle.std.proofs.lemmas.Bool.{eqb-true, eq-eqb, and_parts, and_from, or_cases, or_left, or_right, cases_eq, cases_lt, not-true, not-false, not_from_true}
use Rattle.std.proofs.lemmas.Bool.Decides.{Decides-eqb, Decides-at, Decides-like, Decides-not, not_from_Decides}
use Rattle.std.specs.List.{AllWithin, HoldsAt, enumerate_from}
use Rattle.std.proofs.lemmas.List.FromFn.{length-enumerate_from, get_or-enumerate_from}
use Rattle.rules.specs.declared.chart.making.ChartRecord.{ChartRecord}
use Rattle.rules.specs.declared.chart.making.ChartRecord.TheVariants.{Arrow as arrow, Final as final}
use Rattle.rules.specs.Automata.{record_at, arrow_bytes, final_bytes, ArrowForm, FinalForm, Formed, Arrow, Final, Leads, Accepts, LeadAlike}
use Rattle.rules.specs.Boxes.{pairs, through, composed, identity, accepting, charted, Drawn, Charts}
use Rattle.rules.specs.ChartRecords.{Reads, drawn_boxes, drawn_finals}
use Rattle.rules.specs.Meaning.{Below, effect}
use Rattle.foundation.specs.Laws.Bits.{same_tests, has-or, has_pow, some_is, bit_test}
use Rattle.rules.specs.Laws.Boxes.{between, pairs-composed, pairs-identity, box_ext, charted_lawful}
use Rattle.rules.proofs.Effects.{effect_own}

-- ---- drawing one record

pub reads_formed : (bs : List ℕ) (x : ChartRecord) → Reads bs x → Formed bs
reads_formed bs (arrow p c q) r = inl (p, c, q, r)
reads_formed bs (final q) r = inr (q, r)

-- a box stays one when a bit is added to it, as the code shifts it
pub boxed_more : (boxes : List ℕ) (d x : ℕ) → d < length boxes → ((c : ℕ) → c < 16 → get_or boxes c 0 < 2 ^ 64) → (c : ℕ) → c < 16 → get_or (set boxes d (bit_or (get_or boxes d 0) (x % 2 ^ 64))) c 0 < 2 ^ 64
boxed_more boxes d x l boxed c k = go (cases_eq c d)
  where
    go : (c ≡ d) ⊎ (c ≡ d → ⊥) → get_or (set boxes d (bit_or (get_or boxes d 0) (x % 2 ^ 64))) c 0 < 2 ^ 64
    go (inl e) = subst (λ j. get_or (set boxes d (bit_or (get_or boxes d 0) (x % 2 ^ 64))) j 0 < 2 ^ 64) (sym e)
        (subst (λ y. y < 2 ^ 64) (sym (get_or-set_same boxes d (bit_or (get_or boxes d 0) (x % 2 ^ 64)) 0 l))
        (or_lt 64 (get_or boxes d 0) (x % 2 ^ 64) (subst (λ j. get_or boxes j 0 < 2 ^ 64) e (boxed c k)) (mod_below x (2 ^ 64) (pow_pos 64))))
    go (inr n) = subst (λ y. y < 2 ^ 64) (sym (get_or-set_other boxes d c (bit_or (get_or boxes d 0) (x % 2 ^ 64)) 0 n)) (boxed c k)

-- what the first i + 1 records name is what the first i do, and the next
one_more : (P : ℕ → Type 0) (i : ℕ) → ((j : ℕ) × (j < i + 1) × P j) → ((j : ℕ) × (j < i) × P j) ⊎ P i
one_more P i (j, h, p) = ⊎_elim (λ l. inl (j, l, p)) (λ l. inr (let e : j ≡ i = omega arith in subst P e p)) (cases_lt j i)

decides_more : (P : ℕ → Type 0) (i : ℕ) (b t : Bool) → Decides b ((j : ℕ) × (j < i) × P j) → Decides t (P i) → Decides (b || t) ((j : ℕ) × (j < i + 1) × P j)
decides_more P i b t old new = (
  (λ e. ⊎_elim (λ x. let w = old.0 x in (w.0, omega (arith, w.1), w.2)) (λ x. (i, omega arith, new.0 x)) (or_cases b t e)),
  (λ w. ⊎_elim (λ x. or_left b t (old.1 x)) (λ x. or_right b t (new.1 x)) (one_more P i w)),
)

decides_none : (P : ℕ → Type 0) (i : ℕ) (b : Bool) → Decides b ((j : ℕ) × (j < i) × P j) → (P i → ⊥) → Decides b ((j : ℕ) × (j < i + 1) × P j)
decides_none P i b old never = (
  (λ e. let w = old.0 e in (w.0, omega (arith, w.1), w.2)),
  (λ w. ⊎_elim old.1 (λ x. absurd (never x)) (one_more P i w)),
)

kinds_differ : (bs : List ℕ) (p c q r : ℕ) → bs ≡ arrow_bytes p c q → bs ≡ final_bytes r → ⊥
kinds_differ bs p c q r e f = cc

drawn_arrow : (bytes : List ℕ) (i : ℕ) (boxes : List ℕ) (finals : List Bool) (p' c' q' : ℕ) → length boxes ≡ 16 → ArrowForm (record_at bytes i) p' c' q' → Drawn bytes i boxes finals
    → Drawn bytes (i + 1) (set boxes c' (bit_or (get_or boxes c' 0) (2 ^ (8 * p' + q')))) finals
drawn_arrow bytes i boxes finals p' c' q' len form drawn = record {
  arrows = λ p c q hp hc hq. arrows p c q hp hc hq (cases_eq c c');
  ends = λ q h. decides_none (λ j. FinalForm (record_at bytes j) q) i (get_or finals q false) (drawn.ends q h) (λ x. kinds_differ (record_at bytes i) p' c' q' q form.3 x.1);
}
  where
    arrows : (p c q : ℕ) → p < 8 → c < 16 → q < 8 → (c ≡ c') ⊎ (c ≡ c' → ⊥) → Decides (pairs (get_or (set boxes c' (bit_or (get_or boxes c' 0) (2 ^ (8 * p' + q')))) c 0) p q) (Arrow bytes (i + 1) p c q)
    arrows p c q hp hc hq (inr n) =
        Decides-at (pairs (get_or (set boxes c' (bit_or (get_or boxes c' 0) (2 ^ (8 * p' + q')))) c 0) p q) (pairs (get_or boxes c 0) p q)
        (ap (λ b. pairs b p q) (get_or-set_other boxes c' c (bit_or (get_or boxes c' 0) (2 ^ (8 * p' + q'))) 0 n))
        (decides_none (λ j. ArrowForm (record_at bytes j) p c q) i (pairs (get_or boxes c 0) p q) (drawn.arrows p c q hp hc hq)
        (λ x. n (let e : arrow_bytes p c q ≡ arrow_bytes p' c' q' = sym x.3 ∙ form.3 in cc)))
    arrows p c q hp hc hq (inl e) =
        Decides-at (pairs (get_or (set boxes c' (bit_or (get_or boxes c' 0) (2 ^ (8 * p' + q')))) c 0) p q) (pairs (get_or boxes c 0) p q || eqb (8 * p + q) (8 * p' + q'))
        (ap (λ d. pairs (get_or (set boxes c' (bit_or (get_or boxes c' 0) (2 ^ (8 * p' + q')))) d 0) p q) e
        ∙ ap (λ b. pairs b p q) (get_or-set_same boxes c' (bit_or (get_or boxes c' 0) (2 ^ (8 * p' + q'))) 0 (omega (arith, form.1)))
        ∙ has-or (get_or boxes c' 0) (2 ^ (8 * p' + q')) (8 * p + q)
        ∙ ap (λ t. pairs (get_or boxes c' 0) p q || t) (has_pow (8 * p' + q') (8 * p + q))
        ∙ ap (λ d. pairs (get_or boxes d 0) p q || eqb (8 * p + q) (8 * p' + q')) (sym e))
        (decides_more (λ j. ArrowForm (record_at bytes j) p c q) i (pairs (get_or boxes c 0) p q) (eqb (8 * p + q) (8 * p' + q')) (drawn.arrows p c q hp hc hq) (
          (λ t.
              let k = eqb-true (8 * p + q) (8 * p' + q') t in
              let ep : p' ≡ p = omega (arith, form.0, form.2) in
              let eq : q' ≡ q = omega (arith, form.0, form.2) in
              (hp, hc, hq, form.3 ∙ ap (λ x. arrow_bytes x c' q') ep ∙ ap (λ x. arrow_bytes p x q') (sym e) ∙ ap (arrow_bytes p c) eq)),
          (λ x.
              let f : arrow_bytes p c q ≡ arrow_bytes p' c' q' = sym x.3 ∙ form.3 in
              let ep : p ≡ p' = cc in
              let eq : q ≡ q' = cc in
              eq-eqb (8 * p + q) (8 * p' + q') (omega arith)),
        ))

drawn_final : (bytes : List ℕ) (i : ℕ) (boxes : List ℕ) (finals : List Bool) (q' : ℕ) → length finals ≡ 8 → FinalForm (record_at bytes i) q' → Drawn bytes i boxes finals → Drawn bytes (i + 1) boxes (set finals q' true)
drawn_final bytes i boxes finals q' len form drawn = record {
  arrows = λ p c q hp hc hq. decides_none (λ j. ArrowForm (record_at bytes j) p c q) i (pairs (get_or boxes c 0) p q) (drawn.arrows p c q hp hc hq) (λ x. kinds_differ (record_at bytes i) p c q q' x.3 form.1);
  ends = λ q h. ends q h (cases_eq q q');
}
  where
    ends : (q : ℕ) → q < 8 → (q ≡ q') ⊎ (q ≡ q' → ⊥) → Decides (get_or (set finals q' true) q false) (Final bytes (i + 1) q)
    ends q h (inr n) =
        Decides-at (get_or (set finals q' true) q false) (get_or finals q false) (get_or-set_other finals q' q true false n)
        (decides_none (λ j. FinalForm (record_at bytes j) q) i (get_or finals q false) (drawn.ends q h) (λ x. n (let e : final_bytes q ≡ final_bytes q' = sym x.1 ∙ form.1 in cc)))
    ends q h (inl e) = (
      (λ _. (i, omega arith, (h, form.1 ∙ ap final_bytes (sym e)))),
      (λ _. ap (λ k. get_or (set finals q' true) k false) e ∙ get_or-set_same finals q' true false (omega (arith, form.0))),
    )

pub drawn_more : (bytes : List ℕ) (i : ℕ) (boxes : List ℕ) (finals : List Bool) (x : ChartRecord) → length boxes ≡ 16 → length finals ≡ 8 → Reads (record_at bytes i) x → Drawn bytes i boxes finals
    → Drawn bytes (i + 1) (drawn_boxes x boxes) (drawn_finals x finals)
drawn_more bytes i boxes finals (arrow p c q) lb lf r d = drawn_arrow bytes i boxes finals p c q lb r d
drawn_more bytes i boxes finals (final q) lb lf r d = drawn_final bytes i boxes finals q lf r d

pub length_boxes : (x : ChartRecord) (boxes : List ℕ) → length (drawn_boxes x boxes) ≡ length boxes
length_boxes (arrow p c q) boxes = length-set boxes c (bit_or (get_or boxes c 0) (2 ^ (8 * p + q)))
length_boxes (final q) boxes = refl

pub length_finals : (x : ChartRecord) (finals : List Bool) → length (drawn_finals x finals) ≡ length finals
length_finals (arrow p c q) finals = refl
length_finals (final q) finals = length-set finals q true

-- ---- what the whole chart means

module _ (bytes : List ℕ) (boxes : List ℕ) (finals : List Bool) (boxed : (c : ℕ) → c < 16 → get_or boxes c 0 < 2 ^ 64) (drawn : Drawn bytes (length bytes / 12) boxes finals) where
  leads_is : (w : List ℕ) → Below 16 w → (p q : ℕ) → p < 8 → q < 8 → Decides (pairs (effect (charted boxes finals) w) p q) (Leads bytes p w q)
  leads_is [] o p q hp hq = Decides-at (pairs identity p q) (eqb p q) (pairs-identity p q hp hq) (Decides-eqb p q)
  leads_is (c ∷ w) (hc, o) p q hp hq =
      Decides-at (pairs (composed (get_or boxes c 0) (effect (charted boxes finals) w)) p q) (through (get_or boxes c 0) (effect (charted boxes finals) w) p q)
      (pairs-composed (get_or boxes c 0) (effect (charted boxes finals) w) p q hp hq)
      (Decides-like (through (get_or boxes c 0) (effect (charted boxes finals) w) p q)
      (λ t. (t.0, (drawn.arrows p c t.0 hp hc t.1).0 t.2, (leads_is w o t.0 q t.1 hq).0 t.3))
      (λ t. let hr = t.1.2.2 in (t.0, hr, (drawn.arrows p c t.0 hp hc hr).1 t.1, (leads_is w o t.0 q hr hq).1 t.2))
      (between (get_or boxes c 0) (effect (charted boxes finals) w) p q))

  leads_below : (w : List ℕ) (p q : ℕ) → Leads bytes p w q → Below 16 w
  leads_below [] p q l = tt
  leads_below (c ∷ w) p q l = (l.1.2.1, leads_below w l.0 q l.2)

  accepts_is : (w : List ℕ) → Below 16 w → Decides (accepting finals (effect (charted boxes finals) w)) (Accepts bytes w)
  accepts_is w o =
      let e = effect (charted boxes finals) w in
      let s = some_is 8 (λ q. get_or finals q false && pairs e 0 q) in (
        (λ t. let x = s.0 t in let y = and_parts (get_or finals x.0 false) (pairs e 0 x.0) x.2 in
            (x.0, (drawn.ends x.0 x.1).0 y.0, (leads_is w o 0 x.0 (omega arith) x.1).0 y.1)),
        (λ a. let h = a.1.2.0 in s.1 (a.0, h, and_from (get_or finals a.0 false) (pairs e 0 a.0) ((drawn.ends a.0 h).1 a.1) ((leads_is w o 0 a.0 (omega arith) h).1 a.2))),
      )

  alike : (u v : List ℕ) → Below 16 u → Below 16 v → (effect (charted boxes finals) u ≡ effect (charted boxes finals) v) ↔ LeadAlike bytes u v
  alike u v o r =
      let own : (w : List ℕ) → Below 16 w → effect (charted boxes finals) w < 2 ^ 64 = effect_own (charted boxes finals) (charted_lawful boxes finals boxed) in (
        (λ e p q h l. ((λ x. (leads_is v r p q h l).0 (ap (λ a. pairs a p q) (sym e) ∙ (leads_is u o p q h l).1 x)), (λ x. (leads_is u o p q h l).0 (ap (λ a. pairs a p q) e ∙ (leads_is v r p q h l).1 x)))),
        (λ same. box_ext (effect (charted boxes finals) u) (effect (charted boxes finals) v) (own u o) (own v r)
            (λ p q h l. same_tests _ _ (λ t. (leads_is v r p q h l).1 ((same p q h l).0 ((leads_is u o p q h l).0 t))) (λ t. (leads_is u o p q h l).1 ((same p q h l).1 ((leads_is v r p q h l).0 t))))),
      )

  pub charts : Charts bytes (charted boxes finals)
  charts = record {
    commands = refl;
    boxes = leads_is;
    alike = alike;
    permits = λ w. (
      (λ h. (accepts_is w h.0).0 (not-false (accepting finals (effect (charted boxes finals) w)) h.1)),
      (λ a. let o = leads_below w 0 a.0 a.2 in (o, not_from_true (accepting finals (effect (charted boxes finals) w)) ((accepts_is w o).1 a))),
    );
    forbids = λ w. (
      (λ h. (h.0, not_from_Decides (accepting finals (effect (charted boxes finals) w)) (accepts_is w h.0) (not-true (accepting finals (effect (charted boxes finals) w)) h.1))),
      (λ h. (h.0, (Decides-not (accepting finals (effect (charted boxes finals) w)) (accepts_is w h.0)).1 h.1)),
    );
  }

-- ---- looking for a final state

module _ (finals : List Bool) (a : ℕ) where
  -- what the code tests of a flag with its number
  abbrev pub Ends : ℕ × Bool → Type 0
  Ends p = (p.1 ≡ true) × (bit_and (a / 2 ^ p.0) 1 ≡ 1)

  ends_at : (q : ℕ) → q < length finals → get_or (enumerate_from 0 finals) q (0, false) ≡ (0 + q, get_or finals q false)
  ends_at q h = get_or-enumerate_from 0 finals q (0, false) h

  pub accepting_is : (r : Bool) → length finals ≡ 8
      → MatchBool r ((q : ℕ) × (q < length (enumerate_from 0 finals)) × HoldsAt Ends (enumerate_from 0 finals) q) (AllWithin (λ p. Ends p → ⊥) (enumerate_from 0 finals) 0 (length (enumerate_from 0 finals)))
      → r ≡ accepting finals a
  accepting_is true size (q, h, ends) =
      let l : q < length finals = omega (arith, length-enumerate_from 0 finals) in
      let e = subst Ends (ends_at q l) (ends (0, false)) in
      sym ((some_is 8 (λ q. get_or finals q false && pairs a 0 q)).1
      (q, omega arith, and_from (get_or finals q false) (pairs a 0 q) e.0 (sym (bit_test a (0 + q)) ∙ eq-eqb (bit_and (a / 2 ^ (0 + q)) 1) 1 e.1)))
  accepting_is false size none = go (accepting finals a) refl
    where
      go : (b : Bool) → accepting finals a ≡ b → false ≡ b
      go false e = refl
      go true e =
          let w = (some_is 8 (λ q. get_or finals q false && pairs a 0 q)).0 e in
          let t = and_parts (get_or finals w.0 false) (pairs a 0 w.0) w.2 in
          let bit : bit_and (a / 2 ^ (0 + w.0)) 1 ≡ 1 = eqb-true (bit_and (a / 2 ^ (0 + w.0)) 1) 1 (bit_test a (0 + w.0) ∙ t.1) in
          absurd (none w.0 (0, false) (omega arith) (omega (arith, w.1, length-enumerate_from 0 finals)) (subst Ends (sym (ends_at w.0 (omega (arith, w.1)))) (t.0, bit)))
