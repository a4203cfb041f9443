-- What each operation on formulas means: which sets the result meets.
use Rattle.std.proofs.Common.{◌≡◌, ℕ, Bool, true, false, cond, not, ◌&&◌, ◌||◌, ltb, List, [], ◌∷◌, map, length, Some, None, sym, refl, ap, ◌∙◌, ap₂, true≢false}
use mathlib.Core.Path.{fun_ext}
use mathlib.Core.Bool.{and_assoc, and_comm, and-true, and-false, or_assoc, or-false, or-true, or-and_distrib_left, or-and_distrib_right, false≢true}
use lib.Bits.{bit_or}
use Rattle.foundation.specs.Sets.{within, members, hits}
use Rattle.std.specs.List.{list_any, list_all}
use Rattle.foundation.specs.Laws.Members.{hits-none, hits-or, hits-gathered, hits-within}
use Rattle.std.proofs.lemmas.List.Folds.{list_all-append, list_all-map}
use Rattle.rules.specs.Tables.{Table, join_of}
use Rattle.formulas.specs.Steps.{bind}
use Rattle.formulas.specs.Formulas.{meets, impossible, outside, placed, offer, offers, unions, leading, going_on, joins, joined, both, either, shift, or_after, and_after, then}
use Rattle.formulas.proofs.Given.{Given, given_bind, given_weaker}

-- ---- offering is "and this clause too"

drop_implied : (x y r s : Bool) → (x || y) ≡ y → (s && x) ≡ (r && x) → (s && x) ≡ ((y && r) && x)
drop_implied true true r s e h = h
drop_implied true false r s e h = absurd (true≢false e)
drop_implied false true r s e h = h
drop_implied false false r s e h = and-false s

keep_one : (x y r s : Bool) → (s && x) ≡ (r && x) → ((y && s) && x) ≡ ((y && r) && x)
keep_one x true r s h = h
keep_one x false r s h = refl

-- a clause that follows from one that stands
implied : (x y r : Bool) → (x || y) ≡ y → (x && r) ≡ ((x && r) && y)
implied true true r e = sym (and-true r)
implied true false r e = absurd (true≢false e)
implied false y r e = refl

module _ (A : ℕ → Bool) where
  outside-meets : (C : ℕ) (F : List ℕ) → (meets A (outside C F) && hits A C) ≡ (meets A F && hits A C)
  outside-meets C [] = refl
  outside-meets C (K ∷ F) = go (within C K) refl (outside-meets C F)
    where
      go : (b : Bool) → within C K ≡ b → (meets A (outside C F) && hits A C) ≡ (meets A F && hits A C)
          → (meets A (cond (not b) (K ∷ outside C F) (outside C F)) && hits A C) ≡ ((hits A K && meets A F) && hits A C)
      go true e ih = drop_implied (hits A C) (hits A K) (meets A F) (meets A (outside C F)) (hits-within A C K e) ih
      go false e ih = keep_one (hits A C) (hits A K) (meets A F) (meets A (outside C F)) ih

  placed-meets : (C : ℕ) (F : List ℕ) → meets A (placed C F) ≡ (meets A F && hits A C)
  placed-meets C [] = and_comm (hits A C) true
  placed-meets C (K ∷ F) = go (ltb C K) (placed-meets C F)
    where
      go : (b : Bool) → meets A (placed C F) ≡ (meets A F && hits A C)
          → meets A (cond b (C ∷ K ∷ F) (K ∷ placed C F)) ≡ ((hits A K && meets A F) && hits A C)
      go true ih = and_comm (hits A C) (hits A K && meets A F)
      go false ih = ap (λ b. hits A K && b) ih ∙ sym (and_assoc (hits A K) (meets A F) (hits A C))

  held-meets : (C : ℕ) (F : List ℕ) → list_any (λ K. within K C) F ≡ true → meets A F ≡ (meets A F && hits A C)
  held-meets C [] h = absurd (false≢true h)
  held-meets C (K ∷ F) h = go (within K C) refl h (held-meets C F)
    where
      go : (b : Bool) → within K C ≡ b → (b || list_any (λ K. within K C) F) ≡ true → (list_any (λ K. within K C) F ≡ true → meets A F ≡ (meets A F && hits A C))
          → (hits A K && meets A F) ≡ ((hits A K && meets A F) && hits A C)
      go true e h ih = implied (hits A K) (hits A C) (meets A F) (hits-within A K C e)
      go false e h ih = ap (λ b. hits A K && b) (ih h) ∙ sym (and_assoc (hits A K) (meets A F) (hits A C))

  pub impossible-meets : meets A impossible ≡ false
  impossible-meets = rw (hits-none A)

  module _ (limit : ℕ) where
    pub offer-meets : (C : ℕ) (F : List ℕ) → Given (offer limit C F) (λ R. meets A R ≡ (meets A F && hits A C))
    unfolding offer
    offer-meets C F = go (list_any (λ K. within K C) F) refl (ltb (length (outside C F)) limit)
      where
        go : (b : Bool) → list_any (λ K. within K C) F ≡ b → (d : Bool) → Given (cond b (Some F) (cond d (Some (placed C (outside C F))) None)) (λ R. meets A R ≡ (meets A F && hits A C))
        go true e d = held-meets C F e
        go false e true = placed-meets C (outside C F) ∙ outside-meets C F
        go false e false = tt

    pub offers-meet : (F Cs : List ℕ) → Given (offers limit F Cs) (λ R. meets A R ≡ (meets A F && meets A Cs))
    offers-meet F [] = sym (and-true (meets A F))
    offers-meet F (C ∷ Cs) =
        given_bind (offer limit C F) (λ R. offers limit R Cs) (λ R. meets A R ≡ (meets A F && hits A C)) (λ R. meets A R ≡ (meets A F && (hits A C && meets A Cs))) (offer-meets C F)
        (λ R e. given_weaker (offers limit R Cs) (λ S. meets A S ≡ (meets A R && meets A Cs)) (λ S. meets A S ≡ (meets A F && (hits A C && meets A Cs))) (offers-meet R Cs)
        (λ S f. f ∙ ap (λ b. b && meets A Cs) e ∙ and_assoc (meets A F) (hits A C) (meets A Cs)))

  -- ---- both is "and", either is "or"

  row-meets : (K : ℕ) (G : List ℕ) → meets A (map (bit_or K) G) ≡ (hits A K || meets A G)
  row-meets K [] = sym (or-true (hits A K))
  row-meets K (L ∷ G) = ap₂ (λ (x y : Bool). x && y) (hits-or K L A) (row-meets K G) ∙ sym (or-and_distrib_left (hits A K) (hits A L) (meets A G))

  unions_meet : (F G : List ℕ) → meets A (unions F G) ≡ (meets A F || meets A G)
  unions_meet [] G = refl
  unions_meet (K ∷ F) G =
      list_all-append (hits A) (map (bit_or K) G) (unions F G)
      ∙ ap₂ (λ (x y : Bool). x && y) (row-meets K G) (unions_meet F G) ∙ sym (or-and_distrib_right (hits A K) (meets A F) (meets A G))

  module _ (limit : ℕ) where
    pub either_meets : (F G : List ℕ) → Given (either limit F G) (λ R. meets A R ≡ (meets A F || meets A G))
    either_meets F G =
        given_weaker (either limit F G) (λ R. meets A R ≡ (true && meets A (unions F G))) (λ R. meets A R ≡ (meets A F || meets A G)) (offers-meet limit [] (unions F G)) (λ R e. e ∙ unions_meet F G)

-- ---- shift and then compose as the join does

module _ (t : Table) (A : ℕ → Bool) where
  any-joins : (e : ℕ) (ks : List ℕ) → list_any A (joins t e ks) ≡ list_any (leading t A e) ks
  any-joins e [] = refl
  any-joins e (k ∷ ks) = go (ltb e t.count) (ltb k t.count) (any-joins e ks)
    where
      go : (x y : Bool) → list_any A (joins t e ks) ≡ list_any (leading t A e) ks → list_any A (cond (x && y) (join_of t e k ∷ joins t e ks) (joins t e ks)) ≡ ((x && (y && A (join_of t e k))) || list_any (leading t A e) ks)
      go true true ih = ap (λ b. A (join_of t e k) || b) ih
      go true false ih = ih
      go false y ih = ih

  hits-joined : (e K : ℕ) → hits A (joined t e K) ≡ hits (leading t A e) K
  hits-joined e K = hits-gathered A (joins t e (members K)) ∙ any-joins e (members K)

  module _ (limit : ℕ) where
    pub shift-meets : (e : ℕ) (F : List ℕ) → Given (shift limit t e F) (λ R. meets A R ≡ meets (leading t A e) F)
    shift-meets e F =
        given_weaker (shift limit t e F) (λ R. meets A R ≡ (true && meets A (map (joined t e) F))) (λ R. meets A R ≡ meets (leading t A e) F) (offers-meet A limit [] (map (joined t e) F))
        (λ R h. h ∙ list_all-map (hits A) (joined t e) F ∙ ap (λ (p : ℕ → Bool). list_all p F) (fun_ext (hits-joined e)))

    or_after-meets : (G T es : List ℕ) → Given (or_after limit t G T es) (λ R. meets A R ≡ (meets A T || list_any (going_on t A G) es))
    or_after-meets G T [] = sym (or-false (meets A T))
    or_after-meets G T (e ∷ es) = go (ltb e t.count) (or_after-meets G T es) (λ U. or_after-meets G U es)
      where
        go : (b : Bool) → Given (or_after limit t G T es) (λ R. meets A R ≡ (meets A T || list_any (going_on t A G) es)) → ((U : List ℕ) → Given (or_after limit t G U es) (λ R. meets A R ≡ (meets A U || list_any (going_on t A G) es)))
            → Given (cond b (bind (shift limit t e G) (λ S. bind (either limit T S) (λ U. or_after limit t G U es))) (or_after limit t G T es)) (λ R. meets A R ≡ (meets A T || ((b && meets (leading t A e) G) || list_any (going_on t A G) es)))
        go false same ih = same
        go true same ih =
            given_bind (shift limit t e G) (λ S. bind (either limit T S) (λ U. or_after limit t G U es)) (λ S. meets A S ≡ meets (leading t A e) G) (λ R. meets A R ≡ (meets A T || (meets (leading t A e) G || list_any (going_on t A G) es))) (shift-meets e G)
            (λ S s. given_bind (either limit T S) (λ U. or_after limit t G U es) (λ U. meets A U ≡ (meets A T || meets A S)) (λ R. meets A R ≡ (meets A T || (meets (leading t A e) G || list_any (going_on t A G) es))) (either_meets A limit T S)
            (λ U u. given_weaker (or_after limit t G U es) (λ R. meets A R ≡ (meets A U || list_any (going_on t A G) es)) (λ R. meets A R ≡ (meets A T || (meets (leading t A e) G || list_any (going_on t A G) es))) (ih U)
            (λ R r. r ∙ ap (λ b. b || list_any (going_on t A G) es) (u ∙ ap (λ b. meets A T || b) s) ∙ or_assoc (meets A T) (meets (leading t A e) G) (list_any (going_on t A G) es))))

    and_after-meets : (G R F : List ℕ) → Given (and_after limit t G R F) (λ S. meets A S ≡ (meets A R && meets (going_on t A G) F))
    and_after-meets G R [] = sym (and-true (meets A R))
    and_after-meets G R (K ∷ F) =
        given_bind (or_after limit t G impossible (members K)) (λ T. bind (both limit R T) (λ S. and_after limit t G S F)) (λ T. meets A T ≡ (meets A impossible || hits (going_on t A G) K)) (λ S. meets A S ≡ (meets A R && (hits (going_on t A G) K && meets (going_on t A G) F)))
        (or_after-meets G impossible (members K))
        (λ T e. given_bind (both limit R T) (λ S. and_after limit t G S F) (λ S. meets A S ≡ (meets A R && meets A T)) (λ S. meets A S ≡ (meets A R && (hits (going_on t A G) K && meets (going_on t A G) F))) (offers-meet A limit R T)
        (λ U u. given_weaker (and_after limit t G U F) (λ S. meets A S ≡ (meets A U && meets (going_on t A G) F)) (λ S. meets A S ≡ (meets A R && (hits (going_on t A G) K && meets (going_on t A G) F))) (and_after-meets G U F)
        (λ S s. s ∙ ap (λ b. b && meets (going_on t A G) F) (u ∙ ap (λ b. meets A R && b) (e ∙ ap (λ b. b || hits (going_on t A G) K) (impossible-meets A))) ∙ and_assoc (meets A R) (hits (going_on t A G) K) (meets (going_on t A G) F))))

    pub then-meets : (F G : List ℕ) → Given (then limit t F G) (λ R. meets A R ≡ meets (going_on t A G) F)
    then-meets F G = and_after-meets G [] F
