-- The register step by step, as the code goes.
use Rattle.std.proofs.Common.{◌≡◌, ℕ, zero, suc, ◌+◌, ◌-◌, ◌<◌, ◌≤◌, Bool, true, false, cond, ltb, ◌⊎◌, List, [], ◌∷◌, ◌++◌, length, get_or, take, drop, set, is_some, Some, None, Option, sym, refl, ap, ◌∙◌, subst, inl, inr, arith}
use Rattle.std.specs.List.{AllByRecursion}
use Rattle.std.proofs.ByRecursion.{All-push, All-get_or}
use Rattle.std.proofs.lemmas.List.{append_assoc, drop_all, drop_at, drop-drop, drop_more, length-append, length-drop, length_push, length-take-le, take-append-drop, take_at}
use Rattle.std.proofs.lemmas.Bool.{both_ways, cases_Bool, cond-false, cond-true, le-ltb, lt-ltb, ltb-true}
use Rattle.rules.specs.Register.{Scheme, Survey, complete, overfull, entries, outcome, then_on, place, entered_at, entered, row, walk, written}

-- ---- what the slice holds

-- n entries stand at the front, each of them an effect of the rule's own, and what follows is as it was
pub record Holds {E : Type 0} (own : E → Type 0) (room : ℕ) (old new reg : List E) (n : ℕ) : Type 0 where
  pub count : n ≡ length reg
  pub few : n ≤ room
  pub is : new ≡ written reg old
  pub all : AllByRecursion own reg

module _ {E : Type 0} (own : E → Type 0) (room : ℕ) where
  pub front : (old new reg : List E) (n : ℕ) → Holds own room old new reg n → take n new ≡ reg
  front old new reg n h = ap (take n) h.is ∙ take_at reg (drop (length reg) old) n (sym h.count)

  pub long : (old new reg : List E) (n : ℕ) → room ≤ length old → Holds own room old new reg n → length new ≡ length old
  long old new reg n r h = ap length h.is ∙ omega (arith, length-append reg (drop (length reg) old), length-drop (length reg) old, h.count, h.few)

-- writing over what was written
pub written_on : {E : Type 0} (reg more old xs : List E) → length reg ≤ length more → xs ≡ written reg old → written more xs ≡ written more old
written_on reg more old xs h is =
    let d : length reg + (length more - length reg) ≡ length more = omega arith in
    ap (λ l. more ++ l)
    (ap (drop (length more)) is
    ∙ ap (λ n. drop n (reg ++ drop (length reg) old)) (sym d)
    ∙ sym (drop-drop (length more - length reg) (length reg) (reg ++ drop (length reg) old))
    ∙ ap (drop (length more - length reg)) (drop_at reg (drop (length reg) old) (length reg) refl)
    ∙ drop-drop (length more - length reg) (length reg) old
    ∙ ap (λ n. drop n old) d)

-- ---- entering

module _ {E : Type 0} (s : Scheme E) where
  -- what entering one makes of a register
  entered_cases : (reg : List E) (e : E) (o : Option ℕ) (x : Survey E) → entered_at s.room reg e o ≡ x
      → (x ≡ complete reg) ⊎ (((x ≡ complete (reg ++ e ∷ [])) × (length reg < s.room)) ⊎ ((x ≡ overfull reg e) × (s.room ≤ length reg)))
  entered_cases reg e (Some i) x p = inl (sym p)
  entered_cases reg e None x p = go (cases_Bool (ltb (length reg) s.room))
    where
      go : (ltb (length reg) s.room ≡ true) ⊎ (ltb (length reg) s.room ≡ false) → (x ≡ complete reg) ⊎ (((x ≡ complete (reg ++ e ∷ [])) × (length reg < s.room)) ⊎ ((x ≡ overfull reg e) × (s.room ≤ length reg)))
      go (inl t) = inr (inl (sym p ∙ cond-true (ltb (length reg) s.room) (complete (reg ++ e ∷ [])) (overfull reg e) t, ltb-true (length reg) s.room t))
      go (inr t) = inr (inr (sym p ∙ cond-false (ltb (length reg) s.room) (complete (reg ++ e ∷ [])) (overfull reg e) t, Rattle.std.proofs.lemmas.Bool.ltb-false (length reg) s.room t))

  -- a register grows at its end, by the rule's own
  pub record Grows (own : E → Type 0) (reg more : List E) : Type 0 where
    pub all : AllByRecursion own reg → AllByRecursion own more
    pub longer : length reg ≤ length more
    pub few : length reg ≤ s.room → length more ≤ s.room

  grows_not : (own : E → Type 0) (reg : List E) → Grows own reg reg
  grows_not own reg = record { all = λ a. a; longer = omega arith; few = λ h. h }

  grows_on : (own : E → Type 0) (a b c : List E) → Grows own a b → Grows own b c → Grows own a c
  grows_on own a b c p q = record { all = λ x. q.all (p.all x); longer = omega (arith, p.longer, q.longer); few = λ h. q.few (p.few h) }

  grows_by : (own : E → Type 0) (reg : List E) (e : E) → own e → length reg < s.room → Grows own reg (reg ++ e ∷ [])
  grows_by own reg e o h = record { all = λ a. All-push own reg e a o; longer = omega (arith, length_push reg e); few = λ _. omega (arith, length_push reg e) }

  entered_grows : (own : E → Type 0) (reg : List E) (e : E) → own e → Grows own reg (entries (entered s reg e))
  entered_grows own reg e o = go (entered_cases reg e (place s.same 0 reg e) (entered s reg e) refl)
    where
      at : (x : Survey E) → entered s reg e ≡ x → Grows own reg (entries x) → Grows own reg (entries (entered s reg e))
      at x p = subst (λ y. Grows own reg (entries y)) (sym p)

      go : (entered s reg e ≡ complete reg) ⊎ (((entered s reg e ≡ complete (reg ++ e ∷ [])) × (length reg < s.room)) ⊎ ((entered s reg e ≡ overfull reg e) × (s.room ≤ length reg))) → Grows own reg (entries (entered s reg e))
      go (inl p) = at (complete reg) p (grows_not own reg)
      go (inr (inl p)) = at (complete (reg ++ e ∷ [])) p.0 (grows_by own reg e o p.1)
      go (inr (inr p)) = at (overfull reg e) p.0 (grows_not own reg)

  then_grows : (own : E → Type 0) (reg : List E) (x : Survey E) (f : List E → Survey E) → Grows own reg (entries x) → ((more : List E) → x ≡ complete more → Grows own more (entries (f more))) → Grows own reg (entries (then_on x f))
  then_grows own reg (complete more) f g h = grows_on own reg more (entries (f more)) g (h more refl)
  then_grows own reg (overfull more e) f g h = g

  pub row_grows : (own : E → Type 0) (n c : ℕ) (reg : List E) (e : E) → ((k : ℕ) → k < c + n → own (s.next e k)) → Grows own reg (entries (row s n c reg e))
  row_grows own zero c reg e h = grows_not own reg
  row_grows own (suc n) c reg e h =
      then_grows own reg (entered s reg (s.next e c)) (λ more. row s n (c + 1) more e) (entered_grows own reg (s.next e c) (h c (omega arith)))
      (λ more _. row_grows own n (c + 1) more e (λ k l. h k (omega arith)))

  pub walk_longer : (n i : ℕ) (reg : List E) → length reg ≤ length (entries (walk s n i reg))
  walk_longer zero i reg = omega arith
  walk_longer (suc n) i reg = go (ltb i (length reg)) (row s s.commands 0 reg (get_or reg i s.first)) (row_grows (λ _. Unit {0}) s.commands 0 reg (get_or reg i s.first) (λ _ _. tt)).longer (λ more. walk_longer n (i + 1) more)
    where
      go : (b : Bool) (x : Survey E) → length reg ≤ length (entries x) → ((more : List E) → length more ≤ length (entries (walk s n (i + 1) more)))
          → length reg ≤ length (entries (cond b (then_on x (λ more. walk s n (i + 1) more)) (complete reg)))
      go true (complete more) h ih = omega (arith, ih more)
      go true (overfull more e) h ih = h
      go false x h ih = omega arith

  -- ---- one call of the code

  -- an answer with a number comes of a completed step, and one without of an overfull register
  pub answered : (x : Survey E) (n : ℕ) → Some n ≡ outcome x → (more : List E) × (x ≡ complete more) × (n ≡ length more)
  answered (complete more) n p = (more, refl, cc)
  answered (overfull reg e) n p = absurd (cc)

  pub unanswered : (x : Survey E) → None ≡ outcome x → (reg : List E) × ((e : E) × (x ≡ overfull reg e))
  unanswered (complete more) p = absurd (cc)
  unanswered (overfull reg e) p = (reg, (e, refl))

  -- what has no place is written behind what is there
  pub enters_new : (xs : List E) (count : ℕ) (e : E) (o : Option ℕ) → o ≡ place s.same 0 (take count xs) e → is_some o ≡ false → s.room ≤ length xs → count < s.room
      → set xs count e ≡ written (entries (entered s (take count xs) e)) xs
  enters_new xs count e (Some i) p t room lt = absurd (both_ways false refl (sym t))
  enters_new xs count e None p t room lt =
      let reg = take count xs in
      let n : length reg ≡ count = length-take-le count xs (omega arith) in
      let k : length (reg ++ e ∷ []) ≡ suc count = omega (arith, length_push reg e, n) in
      let is : entered s reg e ≡ complete (reg ++ e ∷ []) =
      ap (entered_at s.room reg e) (sym p) ∙ cond-true (ltb (length reg) s.room) (complete (reg ++ e ∷ [])) (overfull reg e) (lt-ltb (length reg) s.room (omega arith)) in
      Rattle.std.proofs.lemmas.List.set_split xs count e (omega arith) ∙ sym (append_assoc reg (e ∷ []) (drop (suc count) xs))
      ∙ ap (λ j. (reg ++ e ∷ []) ++ drop j xs) (sym k) ∙ ap (λ x. written (entries x) xs) (sym is)

  -- ---- the loop over the commands

  row_more : (C c : ℕ) (reg more : List E) (e : E) → c < C → entered s reg (s.next e c) ≡ complete more → row s (C - c) c reg e ≡ row s (C - (c + 1)) (c + 1) more e
  row_more C c reg more e h p =
      let k : C - c ≡ suc (C - (c + 1)) = omega arith in
      ap (λ n. row s n c reg e) k ∙ ap (λ x. then_on x (λ r. row s (C - (c + 1)) (c + 1) r e)) p

  row_stop : (C c : ℕ) (reg full : List E) (e f : E) → c < C → entered s reg (s.next e c) ≡ overfull full f → row s (C - c) c reg e ≡ overfull full f
  row_stop C c reg full e f h p =
      let k : C - c ≡ suc (C - (c + 1)) = omega arith in
      ap (λ n. row s n c reg e) k ∙ ap (λ x. then_on x (λ r. row s (C - (c + 1)) (c + 1) r e)) p

  walk_more : (i : ℕ) (reg more : List E) → i < s.room → i < length reg → row s s.commands 0 reg (get_or reg i s.first) ≡ complete more → walk s (s.room - i) i reg ≡ walk s (s.room - (i + 1)) (i + 1) more
  walk_more i reg more h l p =
      let k : s.room - i ≡ suc (s.room - (i + 1)) = omega arith in
      ap (λ n. walk s n i reg) k
      ∙ cond-true (ltb i (length reg)) (then_on (row s s.commands 0 reg (get_or reg i s.first)) (λ r. walk s (s.room - (i + 1)) (i + 1) r)) (complete reg) (lt-ltb i (length reg) l)
      ∙ ap (λ x. then_on x (λ r. walk s (s.room - (i + 1)) (i + 1) r)) p

  walk_stop : (i : ℕ) (reg full : List E) (f : E) → i < s.room → i < length reg → row s s.commands 0 reg (get_or reg i s.first) ≡ overfull full f → walk s (s.room - i) i reg ≡ overfull full f
  walk_stop i reg full f h l p =
      let k : s.room - i ≡ suc (s.room - (i + 1)) = omega arith in
      ap (λ n. walk s n i reg) k
      ∙ cond-true (ltb i (length reg)) (then_on (row s s.commands 0 reg (get_or reg i s.first)) (λ r. walk s (s.room - (i + 1)) (i + 1) r)) (complete reg) (lt-ltb i (length reg) l)
      ∙ ap (λ x. then_on x (λ r. walk s (s.room - (i + 1)) (i + 1) r)) p

  walk_end : (n i : ℕ) (reg : List E) → length reg ≤ i → walk s n i reg ≡ complete reg
  walk_end zero i r h = refl
  walk_end (suc n) i r h = cond-false (ltb i (length r)) (then_on (row s s.commands 0 r (get_or r i s.first)) (λ q. walk s n (i + 1) q)) (complete r) (le-ltb i (length r) h)

  -- where a loop stands: so much is registered, and what is left to do gives the whole
  pub record Stands (own : E → Type 0) (old new : List E) (n : ℕ) (rest : List E → Survey E) (whole : Survey E) : Type 0 where
    pub reg : List E
    pub holds : Holds own s.room old new reg n
    pub gives : rest reg ≡ whole

  -- what the two clauses of a call say, of a whole that was met
  abbrev pub Answers : List E → Survey E → List E → Option ℕ → Type 0
  Answers old whole new r = (r ≡ outcome whole) × (new ≡ written (entries whole) old)

  module _ (own : E → Type 0) (old xs new : List E) (n : ℕ) (whole : Survey E) (room : s.room ≤ length old) where
    -- a step that ended with a number
    step_on : (rest next : List E → Survey E) (at : Stands own old xs n rest whole) (x : Survey E) (k : ℕ)
        → Grows own at.reg (entries x) → ((more : List E) → x ≡ complete more → rest at.reg ≡ next more)
        → Some k ≡ outcome x → new ≡ written (entries x) xs → Stands own old new k next whole
    step_on rest next at x k grows onward r is =
        let a = answered x k r in
        let g : Grows own at.reg a.0 = subst (λ y. Grows own at.reg (entries y)) a.1 grows in
        let h = at.holds in
        record {
          reg = a.0;
          holds = record {
            count = a.2;
            few = omega (arith, g.few (omega (arith, h.count, h.few)), a.2);
            is = is ∙ ap (λ y. written (entries y) xs) a.1 ∙ written_on at.reg a.0 old xs g.longer h.is;
            all = g.all h.all;
          };
          gives = sym (onward a.0 a.1) ∙ at.gives;
        }

    -- a step that found no place
    step_off : (rest : List E → Survey E) (at : Stands own old xs n rest whole) (x : Survey E)
        → Grows own at.reg (entries x) → ((full : List E) (f : E) → x ≡ overfull full f → rest at.reg ≡ overfull full f)
        → None ≡ outcome x → new ≡ written (entries x) xs → Answers old whole new None
    step_off rest at x grows stops r is =
        let a = unanswered x r in
        let e : whole ≡ overfull a.0 a.1.0 = sym at.gives ∙ stops a.0 a.1.0 a.1.1 in
        let g : Grows own at.reg a.0 = subst (λ y. Grows own at.reg (entries y)) a.1.1 grows in (
          sym (ap outcome e),
          is ∙ ap (λ y. written (entries y) xs) a.1.1 ∙ written_on at.reg a.0 old xs g.longer at.holds.is ∙ ap (λ y. written (entries y) old) (sym e),
        )

  -- the end of a loop
  pub stands_end : (own : E → Type 0) (old new : List E) (n : ℕ) (rest : List E → Survey E) (whole : Survey E) (at : Stands own old new n rest whole)
      → rest at.reg ≡ complete at.reg → Answers old whole new (Some n)
  stands_end own old new n rest whole at done =
      let e : whole ≡ complete at.reg = sym at.gives ∙ done in
      (ap Some at.holds.count ∙ sym (ap outcome e), at.holds.is ∙ ap (λ y. written (entries y) old) (sym e))

  module _ (own : E → Type 0) (old xs new : List E) (n : ℕ) (whole : Survey E) (room : s.room ≤ length old) where
    module _ (C c : ℕ) (from : E) (lt : c < C) (fits : own (s.next from c)) (at : Stands own old xs n (λ reg. row s (C - c) c reg from) whole) where
      pub row_step : (k : ℕ) → Some k ≡ outcome (entered s at.reg (s.next from c)) → new ≡ written (entries (entered s at.reg (s.next from c))) xs
          → Stands own old new k (λ reg. row s (C - (c + 1)) (c + 1) reg from) whole
      row_step k = step_on own old xs new n whole room (λ reg. row s (C - c) c reg from) (λ reg. row s (C - (c + 1)) (c + 1) reg from) at (entered s at.reg (s.next from c)) k
          (entered_grows own at.reg (s.next from c) fits) (λ more p. row_more C c at.reg more from lt p)

      pub row_off : None ≡ outcome (entered s at.reg (s.next from c)) → new ≡ written (entries (entered s at.reg (s.next from c))) xs → Answers old whole new None
      row_off = step_off own old xs new n whole room (λ reg. row s (C - c) c reg from) at (entered s at.reg (s.next from c))
          (entered_grows own at.reg (s.next from c) fits) (λ full f p. row_stop C c at.reg full from f lt p)

    module _ (i : ℕ) (lt : i < n) (fits : (e : E) → own e → (k : ℕ) → k < s.commands → own (s.next e k)) (at : Stands own old xs n (λ reg. walk s (s.room - i) i reg) whole) where
      here : i < length at.reg
      here = omega (arith, at.holds.count)

      grown : Grows own at.reg (entries (row s s.commands 0 at.reg (get_or at.reg i s.first)))
      grown = row_grows own s.commands 0 at.reg (get_or at.reg i s.first)
          (λ k l. fits (get_or at.reg i s.first) (All-get_or own at.reg i s.first here at.holds.all) k (omega arith))

      pub walk_step : (k : ℕ) → Some k ≡ outcome (row s s.commands 0 at.reg (get_or at.reg i s.first)) → new ≡ written (entries (row s s.commands 0 at.reg (get_or at.reg i s.first))) xs
          → Stands own old new k (λ reg. walk s (s.room - (i + 1)) (i + 1) reg) whole
      walk_step k = step_on own old xs new n whole room (λ reg. walk s (s.room - i) i reg) (λ reg. walk s (s.room - (i + 1)) (i + 1) reg) at (row s s.commands 0 at.reg (get_or at.reg i s.first)) k
          grown (λ more p. walk_more i at.reg more (omega (arith, at.holds.few)) here p)

      pub walk_off : None ≡ outcome (row s s.commands 0 at.reg (get_or at.reg i s.first)) → new ≡ written (entries (row s s.commands 0 at.reg (get_or at.reg i s.first))) xs → Answers old whole new None
      walk_off = step_off own old xs new n whole room (λ reg. walk s (s.room - i) i reg) at (row s s.commands 0 at.reg (get_or at.reg i s.first))
          grown (λ full f p. walk_stop i at.reg full f (omega (arith, at.holds.few)) here p)

  pub walk_done : (own : E → Type 0) (old new : List E) (n i : ℕ) (whole : Survey E) → n ≤ i → Stands own old new n (λ reg. walk s (s.room - i) i reg) whole → Answers old whole new (Some n)
  walk_done own old new n i whole h at = stands_end own old new n (λ reg. walk s (s.room - i) i reg) whole at (walk_end (s.room - i) i at.reg (omega (arith, at.holds.count)))
