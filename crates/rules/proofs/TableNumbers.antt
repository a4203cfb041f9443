-- The table of a closed register numbers the rule.
use Rattle.std.proofs.Common.{unwrap_or, ◌≡◌, ℕ, zero, suc, ◌<◌, ◌≤◌, true, ◌⊎◌, List, [], ◌∷◌, ◌++◌, map, length, get_or, drop, is_some, IsSome, Some, None, Option, sym, refl, ap, ◌∙◌, subst, inl, inr, arith}
use Rattle.std.specs.List.{slice_get}
use Rattle.std.proofs.lemmas.List.FromFn.{get_or-map-range_with_len}
use Rattle.std.proofs.ByRecursion.{All-append, All-get_or, All-push}
use Rattle.std.proofs.lemmas.List.{append_assoc, append-nil, get_or-map, length-map}
use Rattle.std.proofs.lemmas.Option.{slice_get-get_or}
use Rattle.std.proofs.lemmas.Bool.{both_ways, cases_order}
use Rattle.rules.specs.Behaviours.{Behaviour, LawfulBehaviour, behaviour}
use Rattle.foundation.specs.Bits.{number}
use Rattle.rules.specs.Meaning.{Meaning, Lawful, Below, effect}
use Rattle.rules.specs.Numbering.{Numbers, Meeting, Before, Numbered, Exceeds}
use Rattle.rules.specs.Register.{place, written}
use Rattle.rules.specs.Tables.{numbered, join_row, lists_table, join_of}
use Rattle.foundation.specs.Laws.Bits.{has-number, has_above, number_lt}
use Rattle.rules.proofs.ByLists.{same_effect, effect_same, lawful_behaviour}
use Rattle.rules.proofs.Meetings.{Placed, placed, Known, Closed, Overfull}

module _ (b : Behaviour) (law : LawfulBehaviour b) (reg : List (List ℕ)) (closed : Closed b law reg) where
  abbrev C : ℕ
  C = b.commands

  abbrev list : ℕ → List ℕ
  list n = get_or reg n []

  abbrev num : List ℕ → ℕ
  num w = numbered b.same reg w

  list_own : (n : ℕ) → n < length reg → Below C (list n)
  list_own n h = All-get_or (Below C) reg n [] h closed.own

  -- ---- every list is known

  known_longer : (v : List ℕ) (c : ℕ) → Below C v → c < C → Known b law reg (length reg) v → Known b law reg (length reg) (v ++ c ∷ [])
  known_longer v c o h (k, lk, alike) =
      let q = closed.closed k c lk h (inl lk) in
      let u = list k in
      let uc : Below C (u ++ c ∷ []) = All-push (λ d. d < C) u c (list_own k lk) h in
      let vc : Below C (v ++ c ∷ []) = All-push (λ d. d < C) v c o h in (
        q.0,
        q.1,
        law.transitive (list q.0) (u ++ c ∷ []) (v ++ c ∷ []) (list_own q.0 q.1) uc vc q.2
            (law.joined u v (c ∷ []) (c ∷ []) (list_own k lk) o (h, tt) (h, tt) alike (law.reflexive (c ∷ []) (h, tt))),
      )

  known_on : (w v : List ℕ) → Below C v → Below C w → Known b law reg (length reg) v → Known b law reg (length reg) (v ++ w)
  known_on [] v o h k = subst (Known b law reg (length reg)) (sym (append-nil v)) k
  known_on (c ∷ w) v o (h, hs) k =
      subst (Known b law reg (length reg)) (append_assoc v (c ∷ []) w)
      (known_on w (v ++ c ∷ []) (All-push (λ d. d < C) v c o h) hs (known_longer v c o h k))

  known : (w : List ℕ) → Below C w → Known b law reg (length reg) w
  known w o = known_on w [] tt o (0, closed.some, ap (λ u. b.same u []) closed.first ∙ law.reflexive [] tt)

  -- ---- and has one number

  one_place : (w : List ℕ) → Below C w → (k l : ℕ) → k < length reg → l < length reg → b.same (list k) w ≡ true → b.same (list l) w ≡ true → k ≡ l
  one_place w o k l hk hl p q = go (cases_order k l)
    where
      alike : (i j : ℕ) → i < length reg → j < length reg → b.same (list i) w ≡ true → b.same (list j) w ≡ true → b.same (list i) (list j) ≡ true
      alike i j hi hj x y = law.transitive (list i) w (list j) (list_own i hi) o (list_own j hj) x (law.symmetric (list j) w (list_own j hj) o y)

      go : (k ≡ l) ⊎ ((k < l) ⊎ (l < k)) → k ≡ l
      go (inl e) = e
      go (inr (inl h)) = absurd (both_ways (b.same (list k) (list l)) (closed.apart k l h hl) (alike k l hk hl p q))
      go (inr (inr h)) = absurd (both_ways (b.same (list l) (list k)) (closed.apart l k h hk) (alike l k hl hk q p))

  record At (w : List ℕ) : Type 0 where
    below : num w < length reg
    alike : b.same (list (num w)) w ≡ true

  at : (w : List ℕ) → Below C w → At w
  at w o = go (place b.same 0 reg w) refl (placed b.same [] 0 reg w)
    where
      go : (p : Option ℕ) → place b.same 0 reg w ≡ p → Placed b.same [] 0 reg w p → At w
      go None e m = let k = known w o in absurd (both_ways (b.same (list k.0) w) (m k.0 k.1) k.2)
      go (Some i) e (j, (is, f)) =
          let n : j ≡ num w = let z : j ≡ i = omega arith in z ∙ sym (ap (λ o. unwrap_or o 0) e) in
          record { below = subst (λ k. k < length reg) n f.below; alike = subst (λ k. b.same (list k) w ≡ true) n f.alike }

  pub known-place : (w : List ℕ) → Below C w → IsSome (place b.same 0 reg w)
  known-place w o = go (place b.same 0 reg w) (placed b.same [] 0 reg w)
    where
      go : (p : Option ℕ) → Placed b.same [] 0 reg w p → is_some p ≡ true
      go (Some i) p = refl
      go None m = let k = known w o in absurd (both_ways (b.same (list k.0) w) (m k.0 k.1) k.2)

  is_number : (w : List ℕ) → Below C w → (k : ℕ) → k < length reg → b.same (list k) w ≡ true → num w ≡ k
  is_number w o k h p = one_place w o (num w) k (at w o).below h (at w o).alike p

  same_number : (u v : List ℕ) → Below C u → Below C v → b.same u v ≡ true → num u ≡ num v
  same_number u v o p e = sym (is_number v p (num u) (at u o).below (law.transitive (list (num u)) u v (list_own (num u) (at u o).below) o p (at u o).alike e))

  number_same : (u v : List ℕ) → Below C u → Below C v → num u ≡ num v → b.same u v ≡ true
  number_same u v o p e =
      law.transitive u (list (num u)) v o (list_own (num u) (at u o).below) p
      (law.symmetric (list (num u)) u (list_own (num u) (at u o).below) o (at u o).alike)
      (subst (λ n. b.same (list n) v ≡ true) (sym e) (at v p).alike)

  met_number : (n : ℕ) → n < length reg → num (list n) ≡ n
  met_number n h = is_number (list n) (list_own n h) n h (law.reflexive (list n) (list_own n h))

  -- what is known among the first n has a number below n
  number_below : (w : List ℕ) → Below C w → (n : ℕ) → n ≤ length reg → Known b law reg n w → num w < n
  number_below w o n h (k, lk, p) = let e = is_number w o k (omega arith) p in omega arith

  meeting : (n : ℕ) → 0 < n → n < length reg → Meeting C num list n
  meeting n some h =
      let m = closed.order n some h in
      record {
        after = m.after;
        by = m.by;
        earlier = m.earlier;
        command = m.command;
        is = m.is;
        before = λ i c l p. number_below (list i ++ c ∷ []) (All-push (λ d. d < C) (list i) c (list_own i (earlier i c m.after m.by p m.earlier)) l) n (omega arith) (m.before i c l p);
      }
    where
      earlier : (i c a d : ℕ) → Before i c a d → a < n → i < length reg
      earlier i c a d (inl x) y = omega arith
      earlier i c a d (inr x) y = omega (arith, x.0)

  cell : (i j : ℕ) → i < length reg → j < length reg → join_of (lists_table b reg) i j ≡ num (list i ++ list j)
  cell i j hi hj =
      ap (λ l. get_or l j 0) (get_or-map (join_row b.same ◌++◌ reg) reg i [] [] hi)
      ∙ get_or-map (λ y. num (list i ++ y)) reg j [] 0 hj

  pub numbers : Numbers b (lists_table b reg)
  numbers = record {
    commands = refl;
    number = num;
    below = λ w o. (at w o).below;
    same = λ u v o p. (number_same u v o p, same_number u v o p);
    list = list;
    own = list_own;
    met = met_number;
    none = is_number [] tt 0 closed.some (ap (λ u. b.same u []) closed.first ∙ law.reflexive [] tt);
    first = closed.first;
    order = meeting;
    single = λ c h. get_or-map-range_with_len (λ d. num (d ∷ [])) 0 C c c 0 h (omega arith);
    joins = λ u v o p.
        let hu = (at u o).below in let hv = (at v p).below in
        let ou = list_own (num u) hu in let ov = list_own (num v) hv in
        cell (num u) (num v) hu hv
        ∙ same_number (list (num u) ++ list (num v)) (u ++ v) (All-append (λ d. d < C) (list (num u)) (list (num v)) ou ov) (All-append (λ d. d < C) u v o p)
        (law.joined (list (num u)) u (list (num v)) v ou o ov p (at u o).alike (at v p).alike);
    breaks = λ w o.
        has-number (λ k. b.breaks (get_or reg k [])) (length reg) (num w) (at w o).below
        ∙ law.broken (list (num w)) w (list_own (num w) (at w o).below) o (at w o).alike;
    clear = λ k h. has_above (length reg) (number (λ j. b.breaks (get_or reg j [])) (length reg)) k (number_lt (λ j. b.breaks (get_or reg j [])) (length reg)) h;
  }

-- ---- and the slice

nth_append : {X : Type 0} (xs ys : List X) (k : ℕ) → k < length xs → slice_get (xs ++ ys) k ≡ slice_get xs k
nth_append [] ys k h = absurd (omega arith)
nth_append (x ∷ xs) ys zero h = refl
nth_append (x ∷ xs) ys (suc k) h = nth_append xs ys k (omega arith)

nth_written : {X : Type 0} (xs old : List X) (k : ℕ) → length xs ≤ k → length xs ≤ length old → slice_get (written xs old) k ≡ slice_get old k
nth_written [] old k h l = refl
nth_written (x ∷ xs) [] k h l = absurd (omega arith)
nth_written (x ∷ xs) (y ∷ old) zero h l = absurd (omega arith)
nth_written (x ∷ xs) (y ∷ old) (suc k) h l = nth_written xs old k (omega arith) (omega arith)

nth_effect : {E : Type 0} (m : Meaning E) (ws : List (List ℕ)) (old : List E) (k : ℕ) → k < length ws → slice_get (written (map (effect m) ws) old) k ≡ Some (effect m (get_or ws k []))
nth_effect m ws old k h =
    let n : length (map (effect m) ws) ≡ length ws = length-map ws (effect m) in
    nth_append (map (effect m) ws) (drop (length (map (effect m) ws)) old) k (omega arith)
    ∙ slice_get-get_or (map (effect m) ws) k m.neutral (omega arith)
    ∙ ap Some (get_or-map (effect m) ws k [] m.neutral h)

module _ {E : Type 0} (m : Meaning E) (law : Lawful m) (ws : List (List ℕ)) (old : List E) (room : length ws ≤ length old) where
  size : length (map (effect m) ws) ≡ length ws
  size = length-map ws (effect m)

  pub slice_numbered : Closed (behaviour m) (lawful_behaviour m law) ws → Numbered m (lists_table (behaviour m) ws) old (written (map (effect m) ws) old)
  unfolding numbers
  slice_numbered closed =
      let n = numbers (behaviour m) (lawful_behaviour m law) ws closed in
      record {
        numbers = n;
        effects = λ u v o p. ((λ e. same_effect m law u v o p ((n.same u v o p).0 e)), (λ e. (n.same u v o p).1 (effect_same m law u v o p e)));
        held = λ w o.
            let h = n.below w o in
            nth_effect m ws old (n.number w) h
            ∙ ap Some (same_effect m law (get_or ws (n.number w) []) w (n.own (n.number w) h) o
            ((n.same (get_or ws (n.number w) []) w (n.own (n.number w) h) o).0 (n.met (n.number w) h)));
        kept = λ k h. nth_written (map (effect m) ws) old k (omega (arith, size)) (omega (arith, size));
      }

  pub slice_exceeds : (w : List ℕ) → Overfull (behaviour m) (lawful_behaviour m law) ws w → Exceeds m 64 old (written (map (effect m) ws) old)
  slice_exceeds w over =
      let own_at : (i : ℕ) → i < length ws → Below m.commands (get_or ws i []) = λ i h. All-get_or (Below m.commands) ws i [] h over.own in
      record {
        lists = ws;
        full = over.size;
        own = over.own;
        differ = λ i j h l e. let hj : j < length ws = omega (arith, over.size) in
            both_ways ((behaviour m).same (get_or ws i []) (get_or ws j [])) (over.apart i j h hj) (effect_same m law (get_or ws i []) (get_or ws j []) (own_at i (omega arith)) (own_at j hj) e);
        more = w;
        more_own = over.more_own;
        more_differs = λ i h e. let hi : i < length ws = omega (arith, over.size) in
            both_ways ((behaviour m).same (get_or ws i []) w) (over.missing i hi) (effect_same m law (get_or ws i []) w (own_at i hi) over.more_own e);
        held = λ i h. nth_effect m ws old i (omega (arith, over.size));
        kept = λ k h. nth_written (map (effect m) ws) old k (omega (arith, size, over.size)) (omega (arith, size));
      }
