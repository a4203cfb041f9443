-- What a survey of lists meets: the lists differ, no command leads out of them, and they come in the order of meeting.
use Rattle.std.proofs.Common.{◌≡◌, ℕ, zero, suc, ◌+◌, ◌<◌, ◌≤◌, Bool, true, false, cond, ltb, ◌⊎◌, List, [], ◌∷◌, ◌++◌, length, get_or, Some, None, Option, sym, refl, ap, ◌∙◌, subst, inl, inr, ⊎_elim, arith}
use Rattle.std.specs.List.{AllByRecursion}
use Rattle.std.proofs.ByRecursion.{All-get_or, All-push}
use Rattle.std.proofs.lemmas.List.{get_or_append_left, get_or_push, length_push}
use Rattle.std.proofs.lemmas.Bool.{cases_lt, ltb-false, ltb-true}
use Rattle.rules.specs.Behaviours.{Behaviour, LawfulBehaviour}
use Rattle.rules.specs.Meaning.{Below}
use Rattle.rules.specs.Numbering.{Before}
use Rattle.rules.specs.Register.{Survey, complete, overfull, then_on, place, entered_at, entered, row, walk, of_lists, met_lists}

-- ---- the first place

module _ {E : Type 0} (same : E → E → Bool) (d : E) where
  pub record Found (reg : List E) (e : E) (j : ℕ) : Type 0 where
    pub below : j < length reg
    pub alike : same (get_or reg j d) e ≡ true
    pub least : (l : ℕ) → l < j → same (get_or reg l d) e ≡ false

  abbrev pub Missing : List E → E → Type 0
  Missing reg e = (l : ℕ) → l < length reg → same (get_or reg l d) e ≡ false

  abbrev pub Placed : ℕ → List E → E → Option ℕ → Type 0
  Placed i reg e (Some k) = (j : ℕ) × ((k ≡ i + j) × Found reg e j)
  Placed i reg e None = Missing reg e

  missing_more : (x : E) (reg : List E) (e : E) → same x e ≡ false → Missing reg e → Missing (x ∷ reg) e
  missing_more x reg e t h zero l = t
  missing_more x reg e t h (suc n) l = h n (omega arith)

  least_more : (x : E) (reg : List E) (e : E) (j : ℕ) → same x e ≡ false → ((l : ℕ) → l < j → same (get_or reg l d) e ≡ false) → (l : ℕ) → l < suc j → same (get_or (x ∷ reg) l d) e ≡ false
  least_more x reg e j t h zero l = t
  least_more x reg e j t h (suc n) l = h n (omega arith)

  pub placed : (i : ℕ) (reg : List E) (e : E) → Placed i reg e (place same i reg e)
  placed i [] e = λ l h. absurd (omega arith)
  placed i (x ∷ reg) e = go (same x e) refl (place same (i + 1) reg e) (placed (i + 1) reg e)
    where
      go : (t : Bool) → same x e ≡ t → (o : Option ℕ) → Placed (i + 1) reg e o → Placed i (x ∷ reg) e (cond t (Some i) o)
      go true t o p = (0, (omega arith, record { below = omega arith; alike = t; least = λ l h. absurd (omega arith) }))
      go false t None p = missing_more x reg e t p
      go false t (Some k) (j, (e', f)) = (suc j, (omega (arith, e'), record { below = omega (arith, f.below); alike = f.alike; least = least_more x reg e j t f.least }))

-- ---- what holds while lists are met

module _ (b : Behaviour) (law : LawfulBehaviour b) where
  -- one of the first n lists has the effect of u
  abbrev pub Known : List (List ℕ) → ℕ → List ℕ → Type 0
  Known reg n u = (k : ℕ) × (k < n) × (b.same (get_or reg k []) u ≡ true)

  -- the list numbered n was met by a command after an earlier one, and all that was looked at before is known among the first n
  pub record Met (reg : List (List ℕ)) (n : ℕ) : Type 0 where
    pub after : ℕ
    pub by : ℕ
    pub earlier : after < n
    pub command : by < b.commands
    pub is : get_or reg n [] ≡ get_or reg after [] ++ by ∷ []
    pub before : (j e : ℕ) → e < b.commands → Before j e after by → Known reg n (get_or reg j [] ++ e ∷ [])

  -- the commands before c after the list numbered i, and all commands after those of smaller numbers, were looked at
  pub record State (i c : ℕ) (reg : List (List ℕ)) : Type 0 where
    pub some : 1 ≤ length reg
    pub few : length reg ≤ 64
    pub own : AllByRecursion (Below b.commands) reg
    pub first : get_or reg 0 [] ≡ []
    pub apart : (k l : ℕ) → k < l → l < length reg → b.same (get_or reg k []) (get_or reg l []) ≡ false
    pub closed : (j e : ℕ) → j < length reg → e < b.commands → Before j e i c → Known reg (length reg) (get_or reg j [] ++ e ∷ [])
    pub order : (n : ℕ) → 0 < n → n < length reg → Met reg n

  -- more lists, behind those of reg
  pub record Longer (reg more : List (List ℕ)) : Type 0 where
    pub longer : length reg ≤ length more
    pub old : (k : ℕ) → k < length reg → get_or more k [] ≡ get_or reg k []

  longer_not : (reg : List (List ℕ)) → Longer reg reg
  longer_not reg = record { longer = omega arith; old = λ k h. refl }

  longer_on : (x y z : List (List ℕ)) → Longer x y → Longer y z → Longer x z
  longer_on x y z p q = record { longer = omega (arith, p.longer, q.longer); old = λ k h. q.old k (omega (arith, p.longer)) ∙ p.old k h }

  before_le : (j e i c : ℕ) → Before j e i c → j ≤ i
  before_le j e i c (inl h) = omega arith
  before_le j e i c (inr h) = omega (arith, h.0)

  -- the same pair, or one before it
  before_more : (j e i c : ℕ) → Before j e i (c + 1) → Before j e i c ⊎ ((j ≡ i) × (e ≡ c))
  before_more j e i c (inl h) = inl (inl h)
  before_more j e i c (inr (p, h)) = ⊎_elim (λ l. inl (inr (p, l))) (λ l. inr (p, omega arith)) (cases_lt e c)

  before_next : (j e i : ℕ) → e < b.commands → Before j e (i + 1) 0 → Before j e i b.commands
  before_next j e i h (inl l) = ⊎_elim (λ p. inl p) (λ p. inr (omega arith, h)) (cases_lt j i)
  before_next j e i h (inr (p, l)) = absurd (omega arith)

  module _ (i c : ℕ) (reg : List (List ℕ)) (here : i < length reg) (lt : c < b.commands) (s : State i c reg) where
    abbrev new : List ℕ
    new = get_or reg i [] ++ c ∷ []

    new_own : Below b.commands new
    new_own = All-push (λ k. k < b.commands) (get_or reg i []) c (All-get_or (Below b.commands) reg i [] here s.own) lt

    state_known : Known reg (length reg) new → State i (c + 1) reg
    state_known k = record {
      some = s.some;
      few = s.few;
      own = s.own;
      first = s.first;
      apart = s.apart;
      order = s.order;
      closed = λ j e h l p. go j e h l (before_more j e i c p);
    }
      where
        go : (j e : ℕ) → j < length reg → e < b.commands → Before j e i c ⊎ ((j ≡ i) × (e ≡ c)) → Known reg (length reg) (get_or reg j [] ++ e ∷ [])
        go j e h l (inl p) = s.closed j e h l p
        go j e h l (inr (p, q)) = subst (λ x. Known reg (length reg) (get_or reg x [] ++ e ∷ [])) (sym p) (subst (λ x. Known reg (length reg) (get_or reg i [] ++ x ∷ [])) (sym q) k)

    module _ (missing : Missing b.same [] reg new) (room : length reg < 64) where
      abbrev more : List (List ℕ)
      more = reg ++ new ∷ []

      size : length more ≡ length reg + 1
      size = length_push reg new

      old : (k : ℕ) → k < length reg → get_or more k [] ≡ get_or reg k []
      old k h = get_or_append_left reg (new ∷ []) [] k h

      last : get_or more (length reg) [] ≡ new
      last = get_or_push reg new [] (length reg) refl

      known_later : (n k : ℕ) (j e : ℕ) → n ≤ length reg → n ≤ k → j < length reg → Known reg n (get_or reg j [] ++ e ∷ []) → Known more k (get_or more j [] ++ e ∷ [])
      known_later n k j e h g l (x, lx, t) = (
        x,
        omega arith,
        subst (λ u. b.same (get_or more x []) (u ++ e ∷ []) ≡ true) (sym (old j l))
            (subst (λ u. b.same u (get_or reg j [] ++ e ∷ []) ≡ true) (sym (old x (omega arith))) t),
      )

      met_later : (n : ℕ) → n < length reg → Met reg n → Met more n
      met_later n h m = record {
        after = m.after;
        by = m.by;
        earlier = m.earlier;
        command = m.command;
        is = old n h ∙ m.is ∙ ap (λ u. u ++ m.by ∷ []) (sym (old m.after (omega (arith, m.earlier))));
        before = λ j e l p. known_later n n j e (omega arith) (omega arith) (omega (arith, before_le j e m.after m.by p, m.earlier)) (m.before j e l p);
      }

      met_new : Met more (length reg)
      met_new = record {
        after = i;
        by = c;
        earlier = here;
        command = lt;
        is = last ∙ ap (λ u. u ++ c ∷ []) (sym (old i here));
        before = λ j e l p. let lj : j < length reg = omega (arith, before_le j e i c p) in known_later (length reg) (length reg) j e (omega arith) (omega arith) lj (s.closed j e lj l p);
      }

      state_new : State i (c + 1) more
      state_new = record {
        some = omega (arith, size);
        few = omega (arith, size);
        own = All-push (Below b.commands) reg new s.own new_own;
        first = old 0 s.some ∙ s.first;
        apart = λ k l h g. apart k l h (cases_lt l (length reg)) g;
        closed = λ j e h l p. closed j e l (before_more j e i c p);
        order = λ n h g. order n h (cases_lt n (length reg)) g;
      }
        where
          apart : (k l : ℕ) → k < l → (l < length reg) ⊎ (length reg ≤ l) → l < length more
              → b.same (get_or more k []) (get_or more l []) ≡ false
          apart k l h (inl g) _ = ap (λ u. b.same u (get_or more l [])) (old k (omega arith)) ∙ ap (b.same (get_or reg k [])) (old l g) ∙ s.apart k l h g
          apart k l h (inr g) q =
              let e : length reg ≡ l = omega (arith, size) in
              subst (λ x. b.same (get_or more k []) (get_or more x []) ≡ false) e
              (ap (b.same (get_or more k [])) last ∙ ap (λ u. b.same u new) (old k (omega arith)) ∙ missing k (omega arith))

          closed : (j e : ℕ) → e < b.commands → Before j e i c ⊎ ((j ≡ i) × (e ≡ c)) → Known more (length more) (get_or more j [] ++ e ∷ [])
          closed j e l (inl p) = let lj : j < length reg = omega (arith, before_le j e i c p) in
              known_later (length reg) (length more) j e (omega arith) (omega (arith, size)) lj (s.closed j e lj l p)
          closed j e l (inr (p, q)) = (
            length reg,
            omega (arith, size),
            ap (λ u. b.same u (get_or more j [] ++ e ∷ [])) last
                ∙ ap (λ x. b.same new (get_or more x [] ++ e ∷ [])) p
                ∙ ap (λ u. b.same new (u ++ e ∷ [])) (old i here)
                ∙ ap (λ x. b.same new (get_or reg i [] ++ x ∷ [])) q
                ∙ law.reflexive new new_own,
          )

          order : (n : ℕ) → 0 < n → (n < length reg) ⊎ (length reg ≤ n) → n < length more → Met more n
          order n h (inl g) _ = met_later n g (s.order n h g)
          order n h (inr g) q = let e : length reg ≡ n = omega (arith, size) in subst (Met more) e met_new

  -- ---- what a survey comes to

  -- 64 lists that differ, and one more
  pub record Overfull (full : List (List ℕ)) (w : List ℕ) : Type 0 where
    pub size : length full ≡ 64
    pub own : AllByRecursion (Below b.commands) full
    pub apart : (k l : ℕ) → k < l → l < length full → b.same (get_or full k []) (get_or full l []) ≡ false
    pub more_own : Below b.commands w
    pub missing : Missing b.same [] full w

  -- x goes on from reg to a register of which Q holds, or ends overfull
  abbrev Comes : List (List ℕ) → (List (List ℕ) → Type 0) → Survey (List ℕ) → Type 0
  Comes reg Q (complete more) = Longer reg more × Q more
  Comes reg Q (overfull full w) = Overfull full w

  comes_on : (reg : List (List ℕ)) (Q R : List (List ℕ) → Type 0) (x : Survey (List ℕ)) (f : List (List ℕ) → Survey (List ℕ))
      → Comes reg Q x → ((more : List (List ℕ)) → Longer reg more → Q more → Comes more R (f more)) → Comes reg R (then_on x f)
  comes_on reg Q R (overfull full w) f p g = p
  comes_on reg Q R (complete more) f (l, q) g = far (f more) (g more l q)
    where
      far : (y : Survey (List ℕ)) → Comes more R y → Comes reg R y
      far (overfull full w) p = p
      far (complete most) (k, r) = (longer_on reg more most l k, r)

  enters : (i c : ℕ) (reg : List (List ℕ)) → i < length reg → c < b.commands → State i c reg → Comes reg (State i (c + 1)) (entered (of_lists b) reg (get_or reg i [] ++ c ∷ []))
  enters i c reg here lt s = go (place b.same 0 reg (get_or reg i [] ++ c ∷ [])) (placed b.same [] 0 reg (get_or reg i [] ++ c ∷ []))
    where
      full : Missing b.same [] reg (get_or reg i [] ++ c ∷ []) → 64 ≤ length reg → Overfull reg (get_or reg i [] ++ c ∷ [])
      full m h = record { size = omega (arith, s.few); own = s.own; apart = s.apart; more_own = new_own i c reg here lt s; missing = m }

      by : (t : Bool) → ltb (length reg) 64 ≡ t → Missing b.same [] reg (get_or reg i [] ++ c ∷ []) → Comes reg (State i (c + 1)) (cond t (complete (reg ++ (get_or reg i [] ++ c ∷ []) ∷ [])) (overfull reg (get_or reg i [] ++ c ∷ [])))
      by true e m = let h = ltb-true (length reg) 64 e in
          (record { longer = omega (arith, length_push reg (get_or reg i [] ++ c ∷ [])); old = old i c reg here lt s m h }, state_new i c reg here lt s m h)
      by false e m = full m (ltb-false (length reg) 64 e)

      go : (o : Option ℕ) → Placed b.same [] 0 reg (get_or reg i [] ++ c ∷ []) o → Comes reg (State i (c + 1)) (entered_at 64 reg (get_or reg i [] ++ c ∷ []) o)
      go (Some k) (j, (e, f)) = (longer_not reg, state_known i c reg here lt s (j, f.below, f.alike))
      go None m = by (ltb (length reg) 64) refl m

  rows : (n i c : ℕ) (reg : List (List ℕ)) (w : List ℕ) → c + n ≡ b.commands → i < length reg → w ≡ get_or reg i [] → State i c reg → Comes reg (State i b.commands) (row (of_lists b) n c reg w)
  rows zero i c reg w h here is s = (longer_not reg, let e : c ≡ b.commands = omega arith in subst (λ k. State i k reg) e s)
  rows (suc n) i c reg w h here is s =
      comes_on reg (State i (c + 1)) (State i b.commands) (entered (of_lists b) reg (w ++ c ∷ [])) (λ more. row (of_lists b) n (c + 1) more w)
      (subst (λ u. Comes reg (State i (c + 1)) (entered (of_lists b) reg (u ++ c ∷ []))) (sym is) (enters i c reg here (omega arith) s))
      (λ more l q. rows n i (c + 1) more w (omega arith) (omega (arith, l.longer)) (is ∙ sym (l.old i here)) q)

  next_state : (i : ℕ) (reg : List (List ℕ)) → State i b.commands reg → State (i + 1) 0 reg
  next_state i reg s = record {
    some = s.some;
    few = s.few;
    own = s.own;
    first = s.first;
    apart = s.apart;
    order = s.order;
    closed = λ j e h l p. s.closed j e h l (before_next j e i l p);
  }

  -- all commands after all of the lists were looked at
  abbrev pub Closed : List (List ℕ) → Type 0
  Closed reg = State (length reg) 0 reg

  closed_from : (i : ℕ) (reg : List (List ℕ)) → length reg ≤ i → State i 0 reg → Closed reg
  closed_from i reg h s = record {
    some = s.some;
    few = s.few;
    own = s.own;
    first = s.first;
    apart = s.apart;
    order = s.order;
    closed = λ j e l k _. s.closed j e l k (inl (omega arith));
  }

  walks : (n i : ℕ) (reg : List (List ℕ)) → 64 ≤ i + n → State i 0 reg → Comes reg Closed (walk (of_lists b) n i reg)
  walks zero i reg h s = (longer_not reg, closed_from i reg (omega (arith, s.few)) s)
  walks (suc n) i reg h s = go (ltb i (length reg)) refl (λ more. walks n (i + 1) more)
    where
      go : (t : Bool) → ltb i (length reg) ≡ t → ((more : List (List ℕ)) → 64 ≤ i + 1 + n → State (i + 1) 0 more → Comes more Closed (walk (of_lists b) n (i + 1) more))
          → Comes reg Closed (cond t (then_on (row (of_lists b) b.commands 0 reg (get_or reg i [])) (λ more. walk (of_lists b) n (i + 1) more)) (complete reg))
      go false e ih = (longer_not reg, closed_from i reg (ltb-false i (length reg) e) s)
      go true e ih =
          comes_on reg (State i b.commands) Closed (row (of_lists b) b.commands 0 reg (get_or reg i [])) (λ more. walk (of_lists b) n (i + 1) more)
          (rows b.commands i 0 reg (get_or reg i []) (omega arith) (ltb-true i (length reg) e) refl s)
          (λ more l q. ih more (omega arith) (next_state i more q))

  start : State 0 0 ([] ∷ [])
  start = record {
    some = omega arith;
    few = omega arith;
    own = (tt, tt);
    first = refl;
    apart = λ k l h g. absurd (omega arith);
    closed = λ j e h l p. absurd (none j e p);
    order = λ n h g. absurd (omega arith);
  }
    where
      none : (j e : ℕ) → Before j e 0 0 → ⊥
      none j e (inl h) = omega arith
      none j e (inr h) = omega (arith, h.1)

  -- the two ways in which it ends
  abbrev pub Ends : Survey (List ℕ) → Type 0
  Ends (complete reg) = Closed reg
  Ends (overfull full w) = Overfull full w

  pub meets : Ends (met_lists b)
  unfolding met_lists
  meets = ends (walk (of_lists b) 64 0 ([] ∷ [])) (walks 64 0 ([] ∷ []) (omega arith) start)
    where
      ends : (x : Survey (List ℕ)) → Comes ([] ∷ []) Closed x → Ends x
      ends (complete reg) p = p.1
      ends (overfull full w) p = p
