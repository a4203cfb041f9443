-- The register's loops over a rule's effects, in the terms of the code's own calls.
use Rattle.std.proofs.Common.{◌≡◌, ℕ, ◌+◌, ◌-◌, ◌<◌, ◌≤◌, true, false, List, [], ◌∷◌, ◌++◌, length, get_or, take, set, ◌⊎◌, Some, None, Option, MatchOption, ⊎_elim, sym, refl, ap, ◌∙◌, subst, arith}
use Rattle.std.specs.List.{AllByRecursion, AllWithin, HoldsAt}
use Rattle.std.proofs.ByRecursion.{All-get_or}
use Rattle.std.proofs.lemmas.List.{drop-set-lt, get_or_read, get_or-take, length-set}
use Rattle.std.proofs.lemmas.Bool.{both_ways, cases_order}
use Rattle.rules.specs.Meaning.{Meaning, Lawful}
use Rattle.rules.specs.Register.{Onward, place, Survey, entries, outcome, entered, row, walk, written, of_effects, met_effects}
use Rattle.rules.proofs.Meetings.{Placed, placed}
use Rattle.rules.proofs.Registering.{Stands, Answers, front, long, row_step, row_off, walk_step, walk_off, walk_done, walk_longer}

module _ {E : Type 0} (m : Meaning E) (law : Lawful m) where
  -- ---- looking for an effect

  -- what a test of an entry against e says
  abbrev pub Same : E → E → Type 0
  Same e x = m.own x → m.same x e ≡ true

  abbrev pub Other : E → E → Type 0
  Other e x = m.own x → m.same x e ≡ false

  -- the first entry that is the same as e has the place of e
  pub place_found : (met : List E) (e : E) (r : Option ℕ) → AllByRecursion m.own met
      → MatchOption r (AllWithin (Other e) met 0 (length met)) (λ i. (i < length met) × HoldsAt (Same e) met i × AllWithin (Other e) met 0 i) → r ≡ place m.same 0 met e
  place_found met e r own found = go r (place m.same 0 met e) found (placed m.same e 0 met e)
    where
      clash : (i : ℕ) → i < length met → Same e (get_or met i e) → Other e (get_or met i e) → ⊥
      clash i h is_same is_other = let o = All-get_or m.own met i e h own in both_ways (m.same (get_or met i e) e) (is_other o) (is_same o)

      go : (r o : Option ℕ) → MatchOption r (AllWithin (Other e) met 0 (length met)) (λ i. (i < length met) × HoldsAt (Same e) met i × AllWithin (Other e) met 0 i) → Placed m.same e 0 met e o → r ≡ o
      go None None is_other missing = refl
      go None (Some k) is_other (j, (_, f)) = absurd (clash j f.below (λ _. f.alike) (is_other j e (omega arith) f.below))
      go (Some i) None (h, is_same, before) missing = absurd (clash i h (is_same e) (λ _. missing i h))
      go (Some i) (Some k) (h, is_same, before) (j, (is, f)) = ⊎_elim
          (λ (e' : i ≡ j). let p : i ≡ k = omega (arith, is) in ap Some p)
          (λ (l : (i < j) ⊎ (j < i)). absurd (⊎_elim (λ l. clash i h (is_same e) (λ _. f.least i l)) (λ l. clash j f.below (λ _. f.alike) (before j e (omega arith) l)) l))
          (cases_order i j)

  -- ---- entering effects

  -- the loop over the commands, at the command c
  abbrev pub Rows : List E → List E → ℕ → ℕ → E → Survey E → Type 0
  Rows old new n c from whole = Stands (of_effects m) m.own old new n (λ reg. row (of_effects m) (m.commands - c) c reg from) whole

  -- the loop over the registered effects, at number i
  abbrev pub Walks : List E → List E → ℕ → ℕ → Survey E → Type 0
  Walks old new n i whole = Stands (of_effects m) m.own old new n (λ reg. walk (of_effects m) (64 - i) i reg) whole

  pub next_own : (e : E) → m.own e → (k : ℕ) → k < m.commands → m.own (m.join e (m.command k))
  next_own e o k h = law.own_join e (m.command k) o (law.own_command k h)

  module _ (old xs new : List E) (n c : ℕ) (from to : E) (whole : Survey E) (room : 64 ≤ length old) (own : m.own from) (step : Onward m from c to) (at : Rows old xs n c from whole) where
    same_step : entered (of_effects m) (take n xs) to ≡ entered (of_effects m) at.reg (m.join from (m.command c))
    same_step = ap (λ l. entered (of_effects m) l to) (front m.own 64 old xs at.reg n at.holds) ∙ ap (entered (of_effects m) at.reg) step.is

    pub rows_more : (k : ℕ) → Some k ≡ outcome (entered (of_effects m) (take n xs) to) → new ≡ written (entries (entered (of_effects m) (take n xs) to)) xs → Rows old new k (c + 1) from whole
    rows_more k r w = row_step (of_effects m) m.own old xs new n whole room m.commands c from step.known (next_own from own c step.known) at k
        (r ∙ ap outcome same_step) (w ∙ ap (λ x. written (entries x) xs) same_step)

    pub rows_off : None ≡ outcome (entered (of_effects m) (take n xs) to) → new ≡ written (entries (entered (of_effects m) (take n xs) to)) xs → Answers (of_effects m) old whole new None
    rows_off r w = row_off (of_effects m) m.own old xs new n whole room m.commands c from step.known (next_own from own c step.known) at
        (r ∙ ap outcome same_step) (w ∙ ap (λ x. written (entries x) xs) same_step)

  pub walks_start : (xs : List E) (v : E) → 64 ≤ length xs → v ≡ m.neutral → Walks (set xs 0 v) (set xs 0 v) 1 0 (met_effects m)
  unfolding met_effects
  walks_start [] v room is = absurd (omega arith)
  walks_start (x ∷ xs) v room is = record {
    reg = v ∷ [];
    holds = record { count = refl; few = omega arith; is = refl; all = (subst m.own (sym is) law.own_neutral, tt) };
    gives = ap (λ y. walk (of_effects m) 64 0 (y ∷ [])) is;
  }

  -- at the end of the loop, of the slice as it was handed over
  pub past_first : (xs new : List E) (v : E) (r : Option ℕ) → Answers (of_effects m) (set xs 0 v) (met_effects m) new r → Answers (of_effects m) xs (met_effects m) new r
  unfolding met_effects
  past_first xs new v r (p, q) =
      let reg = entries (met_effects m) in
      let some : 1 ≤ length reg = walk_longer (of_effects m) 64 0 (m.neutral ∷ []) in
      (p, q ∙ ap (λ l. reg ++ l) (drop-set-lt (length reg) xs 0 v (omega arith)))

  module _ (old xs new : List E) (n i : ℕ) (from : E) (whole : Survey E) (room : 64 ≤ length old) (lt : i < n) (is : from ≡ get_or xs i from) (at : Walks old xs n i whole) where
    here : from ≡ get_or at.reg i m.neutral
    here =
        get_or_read xs i from (omega (arith, long m.own 64 old xs at.reg n room at.holds, at.holds.few)) is m.neutral
        ∙ sym (get_or-take n xs i m.neutral lt) ∙ ap (λ l. get_or l i m.neutral) (front m.own 64 old xs at.reg n at.holds)

    same_row : row (of_effects m) m.commands 0 (take n xs) from ≡ row (of_effects m) m.commands 0 at.reg (get_or at.reg i m.neutral)
    same_row = ap (λ l. row (of_effects m) m.commands 0 l from) (front m.own 64 old xs at.reg n at.holds) ∙ ap (row (of_effects m) m.commands 0 at.reg) here

    pub walks_more : (k : ℕ) → Some k ≡ outcome (row (of_effects m) m.commands 0 (take n xs) from) → new ≡ written (entries (row (of_effects m) m.commands 0 (take n xs) from)) xs → Walks old new k (i + 1) whole
    walks_more k r w = walk_step (of_effects m) m.own old xs new n whole room i lt next_own at k (r ∙ ap outcome same_row) (w ∙ ap (λ x. written (entries x) xs) same_row)

    pub walks_off : None ≡ outcome (row (of_effects m) m.commands 0 (take n xs) from) → new ≡ written (entries (row (of_effects m) m.commands 0 (take n xs) from)) xs → Answers (of_effects m) old whole new None
    walks_off r w = walk_off (of_effects m) m.own old xs new n whole room i lt next_own at (r ∙ ap outcome same_row) (w ∙ ap (λ x. written (entries x) xs) same_row)

  pub walks_end : (old new : List E) (n i : ℕ) (whole : Survey E) → n ≤ i → Walks old new n i whole → Answers (of_effects m) old whole new (Some n)
  walks_end old new n i whole h at = walk_done (of_effects m) m.own old new n i whole h at

pub room_kept : {E : Type 0} (xs : List E) (v : E) → 64 ≤ length xs → 64 ≤ length (set xs 0 v)
room_kept xs v h = omega (arith, length-set xs 0 v)
