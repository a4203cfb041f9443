-- The survey of a rule's effects is the survey of its lists of commands, effect by effect.
use Rattle.std.proofs.Common.{unwrap_or, ◌≡◌, ℕ, zero, suc, ◌+◌, ◌<◌, ◌≤◌, Bool, true, false, cond, ltb, List, [], ◌∷◌, ◌++◌, map, length, get_or, Some, None, Option, sym, refl, ap, ◌∙◌, subst, ap₂, arith}
use Rattle.std.specs.List.{AllByRecursion, range_with_len}
use Rattle.std.proofs.ByRecursion.{All-get_or, All-push, All-append}
use Rattle.std.proofs.lemmas.List.{get_or-map, length-map, map_push}
use Rattle.std.proofs.lemmas.Bool.{ltb-true}
use Rattle.rules.specs.Behaviours.{behaviour, LawfulBehaviour}
use Rattle.foundation.specs.Bits.{number}
use Rattle.rules.specs.Meaning.{Meaning, Lawful, Below, effect}
use Rattle.rules.specs.Register.{Scheme, Survey, complete, overfull, entries, then_on, mapped, place, entered_at, entered, row, walk, of_effects, of_lists, met_effects, met_lists}
use Rattle.rules.specs.Tables.{numbered, join_row, breaking_set, effects_table, lists_table}
use Rattle.foundation.specs.Laws.Bits.{number_ext}
use Rattle.rules.proofs.Effects.{effect_own, effect-append, effect_push}
use Rattle.rules.proofs.Registering.{row_grows}

pub place_map : {A B : Type 0} (f : A → B) (same : B → B → Bool) (i : ℕ) (us : List A) (w : A) → place same i (map f us) (f w) ≡ place (λ u v. same (f u) (f v)) i us w
place_map f same i [] w = refl
place_map f same i (u ∷ us) w = ap (cond (same (f u) (f w)) (Some i)) (place_map f same (i + 1) us w)

-- s is a survey of the images of what t surveys, where Ok holds
module _ {A B : Type 0} (f : A → B) (t : Scheme A) (s : Scheme B) (Ok : A → Type 0)
    (room : s.room ≡ t.room) (same : (u v : A) → s.same (f u) (f v) ≡ t.same u v) (first : s.first ≡ f t.first)
    (ok_first : Ok t.first) (ok_next : (w : A) (c : ℕ) → Ok w → c < t.commands → Ok (t.next w c))
    (next : (w : A) (c : ℕ) → Ok w → c < t.commands → s.next (f w) c ≡ f (t.next w c)) where
  place_image : (i : ℕ) (us : List A) (w : A) → place s.same i (map f us) (f w) ≡ place t.same i us w
  place_image i [] w = refl
  place_image i (u ∷ us) w = ap₂ (λ b o. cond b (Some i) o) (same u w) (place_image (i + 1) us w)

  entered_image : (us : List A) (w : A) → entered s (map f us) (f w) ≡ mapped f (entered t us w)
  entered_image us w =
      ap (entered_at s.room (map f us) (f w)) (place_image 0 us w) ∙ ap (λ r. entered_at r (map f us) (f w) (place t.same 0 us w)) room ∙ at (place t.same 0 us w)
    where
      by : (b : Bool) → cond b (complete (map f us ++ f w ∷ [])) (overfull (map f us) (f w)) ≡ mapped f (cond b (complete (us ++ w ∷ [])) (overfull us w))
      by true = ap complete (sym (map_push f us w))
      by false = refl

      at : (o : Option ℕ) → entered_at t.room (map f us) (f w) o ≡ mapped f (entered_at t.room us w o)
      at (Some i) = refl
      at None = ap (λ n. cond (ltb n t.room) (complete (map f us ++ f w ∷ [])) (overfull (map f us) (f w))) (length-map us f) ∙ by (ltb (length us) t.room)

  on_image : (x : Survey A) (g : List B → Survey B) (h : List A → Survey A) → ((more : List A) → x ≡ complete more → g (map f more) ≡ mapped f (h more)) → then_on (mapped f x) g ≡ mapped f (then_on x h)
  on_image (complete more) g h p = p more refl
  on_image (overfull full e) g h p = refl

  row_image : (n c : ℕ) (us : List A) (w : A) → c + n ≤ t.commands → Ok w → row s n c (map f us) (f w) ≡ mapped f (row t n c us w)
  row_image zero c us w h k = refl
  row_image (suc n) c us w h k =
      ap (λ x. then_on (entered s (map f us) x) (λ r. row s n (c + 1) r (f w))) (next w c k (omega arith))
      ∙ ap (λ x. then_on x (λ r. row s n (c + 1) r (f w))) (entered_image us (t.next w c))
      ∙ on_image (entered t us (t.next w c)) (λ r. row s n (c + 1) r (f w)) (λ r. row t n (c + 1) r w) (λ more _. row_image n (c + 1) more w (omega arith) k)

  walk_image : s.commands ≡ t.commands → (n i : ℕ) (us : List A) → AllByRecursion Ok us → walk s n i (map f us) ≡ mapped f (walk t n i us)
  walk_image commands zero i us a = refl
  walk_image commands (suc n) i us a =
      ap (λ m. cond (ltb i m) (then_on (row s s.commands 0 (map f us) (get_or (map f us) i s.first)) (λ r. walk s n (i + 1) r)) (complete (map f us))) (length-map us f)
      ∙ go (ltb i (length us)) refl (λ more. walk_image commands n (i + 1) more)
    where
      go : (b : Bool) → ltb i (length us) ≡ b → ((more : List A) → AllByRecursion Ok more → walk s n (i + 1) (map f more) ≡ mapped f (walk t n (i + 1) more))
          → cond b (then_on (row s s.commands 0 (map f us) (get_or (map f us) i s.first)) (λ r. walk s n (i + 1) r)) (complete (map f us))
          ≡ mapped f (cond b (then_on (row t t.commands 0 us (get_or us i t.first)) (λ r. walk t n (i + 1) r)) (complete us))
      go false e ih = refl
      go true e ih =
          let l = ltb-true i (length us) e in
          let x = get_or us i t.first in
          let ok : Ok x = All-get_or Ok us i t.first l a in
          ap (λ y. then_on (row s s.commands 0 (map f us) y) (λ r. walk s n (i + 1) r)) (get_or-map f us i t.first s.first l)
          ∙ ap (λ k. then_on (row s k 0 (map f us) (f x)) (λ r. walk s n (i + 1) r)) commands
          ∙ ap (λ y. then_on y (λ r. walk s n (i + 1) r)) (row_image t.commands 0 us x (omega arith) ok)
          ∙ on_image (row t t.commands 0 us x) (λ r. walk s n (i + 1) r) (λ r. walk t n (i + 1) r)
          (λ more p. ih more (subst (λ y. AllByRecursion Ok (entries y)) p ((row_grows t Ok t.commands 0 us x (λ c h. ok_next x c ok (omega arith))).all a)))

module _ {E : Type 0} (m : Meaning E) (law : Lawful m) where
  pub met_by_lists : met_effects m ≡ mapped (effect m) (met_lists (behaviour m))
  unfolding met_effects met_lists
  met_by_lists =
      walk_image (effect m) (of_lists (behaviour m)) (of_effects m) (Below m.commands) refl (λ u v. refl) refl tt
      (λ w c o h. All-push (λ k. k < m.commands) w c o h) (λ w c o h. sym (effect_push m law w c o h)) refl 64 0 ([] ∷ []) (tt, tt)

  -- ---- a lawful rule behaves lawfully

  pub same_effect : (u v : List ℕ) → Below m.commands u → Below m.commands v → (behaviour m).same u v ≡ true → effect m u ≡ effect m v
  same_effect u v o p = (law.same_is (effect m u) (effect m v) (effect_own m law u o) (effect_own m law v p)).0

  pub effect_same : (u v : List ℕ) → Below m.commands u → Below m.commands v → effect m u ≡ effect m v → (behaviour m).same u v ≡ true
  effect_same u v o p = (law.same_is (effect m u) (effect m v) (effect_own m law u o) (effect_own m law v p)).1

  pub lawful_behaviour : LawfulBehaviour (behaviour m)
  lawful_behaviour = record {
    some = law.some;
    few = law.few;
    reflexive = λ u o. effect_same u u o o refl;
    symmetric = λ u v o p e. effect_same v u p o (sym (same_effect u v o p e));
    transitive = λ u v w o p q e f. effect_same u w o q (same_effect u v o p e ∙ same_effect v w p q f);
    joined = λ u v x y o p q r e f.
        effect_same (u ++ x) (v ++ y) (All-append (λ c. c < m.commands) u x o q) (All-append (λ c. c < m.commands) v y p r)
        (effect-append m law u x o q ∙ ap₂ m.join (same_effect u v o p e) (same_effect x y q r f) ∙ sym (effect-append m law v y p r));
    broken = λ u v o p e. ap m.breaks (same_effect u v o p e);
  }

  -- ---- the table of the effects is the table of the lists

  map_same : {A B : Type 0} (P : A → Type 0) (f g : A → B) (xs : List A) → AllByRecursion P xs → ((x : A) → P x → f x ≡ g x) → map f xs ≡ map g xs
  map_same P f g [] a h = refl
  map_same P f g (x ∷ xs) (p, a) h = ap₂ (λ y ys. y ∷ ys) (h x p) (map_same P f g xs a h)

  map_map : {A B C : Type 0} (f : A → B) (g : B → C) (xs : List A) → map g (map f xs) ≡ map (λ x. g (f x)) xs
  map_map f g [] = refl
  map_map f g (x ∷ xs) = ap (λ ys. g (f x) ∷ ys) (map_map f g xs)

  below_counting : (a n C : ℕ) → a + n ≤ C → AllByRecursion (λ c. c < C) (range_with_len a n)
  below_counting a zero C h = tt
  below_counting a (suc n) C h = (omega arith, below_counting (a + 1) n C (omega arith))

  module _ (ws : List (List ℕ)) (own : AllByRecursion (Below m.commands) ws) where
    numbered_image : (w : List ℕ) → numbered m.same (map (effect m) ws) (effect m w) ≡ numbered (behaviour m).same ws w
    numbered_image w = ap (λ o. unwrap_or o 0) (place_map (effect m) m.same 0 ws w)

    row_is : (u : List ℕ) → Below m.commands u → join_row m.same m.join (map (effect m) ws) (effect m u) ≡ join_row (behaviour m).same ◌++◌ ws u
    row_is u o =
        map_map (effect m) (λ y. numbered m.same (map (effect m) ws) (m.join (effect m u) y)) ws
        ∙ map_same (Below m.commands) (λ v. numbered m.same (map (effect m) ws) (m.join (effect m u) (effect m v))) (λ v. numbered (behaviour m).same ws (u ++ v)) ws own
        (λ v p. ap (numbered m.same (map (effect m) ws)) (sym (effect-append m law u v o p)) ∙ numbered_image (u ++ v))

    pub table_by_lists : effects_table m (map (effect m) ws) ≡ lists_table (behaviour m) ws
    table_by_lists =
        let n : length (map (effect m) ws) ≡ length ws = length-map ws (effect m) in
        let ns : map (λ c. numbered m.same (map (effect m) ws) (m.command c)) (range_with_len 0 m.commands) ≡ map (λ c. numbered (behaviour m).same ws (c ∷ [])) (range_with_len 0 m.commands) =
        map_same (λ c. c < m.commands) (λ c. numbered m.same (map (effect m) ws) (m.command c)) (λ c. numbered (behaviour m).same ws (c ∷ [])) (range_with_len 0 m.commands) (below_counting 0 m.commands m.commands (omega arith))
        (λ c h. ap (numbered m.same (map (effect m) ws)) (sym (law.right (m.command c) (law.own_command c h))) ∙ numbered_image (c ∷ [])) in
        let js : map (join_row m.same m.join (map (effect m) ws)) (map (effect m) ws) ≡ map (join_row (behaviour m).same ◌++◌ ws) ws =
        map_map (effect m) (join_row m.same m.join (map (effect m) ws)) ws
        ∙ map_same (Below m.commands) (λ u. join_row m.same m.join (map (effect m) ws) (effect m u)) (join_row (behaviour m).same ◌++◌ ws) ws own row_is in
        let bs : breaking_set m.breaks m.neutral (map (effect m) ws) ≡ breaking_set (behaviour m).breaks [] ws =
        ap (number (λ k. m.breaks (get_or (map (effect m) ws) k m.neutral))) n
        ∙ number_ext (λ k. m.breaks (get_or (map (effect m) ws) k m.neutral)) (λ k. m.breaks (effect m (get_or ws k []))) (length ws) (λ k h. ap m.breaks (get_or-map (effect m) ws k [] m.neutral h)) in
        ap (λ k. record { commands = m.commands; count = k; numbers = map (λ c. numbered m.same (map (effect m) ws) (m.command c)) (range_with_len 0 m.commands); joins = map (join_row m.same m.join (map (effect m) ws)) (map (effect m) ws); breaking = breaking_set m.breaks m.neutral (map (effect m) ws) }) n
        ∙ ap (λ k. record { commands = m.commands; count = length ws; numbers = k; joins = map (join_row m.same m.join (map (effect m) ws)) (map (effect m) ws); breaking = breaking_set m.breaks m.neutral (map (effect m) ws) }) ns
        ∙ ap (λ k. record { commands = m.commands; count = length ws; numbers = map (λ c. numbered (behaviour m).same ws (c ∷ [])) (range_with_len 0 m.commands); joins = k; breaking = breaking_set m.breaks m.neutral (map (effect m) ws) }) js
        ∙ ap (λ k. record { commands = m.commands; count = length ws; numbers = map (λ c. numbered (behaviour m).same ws (c ∷ [])) (range_with_len 0 m.commands); joins = map (join_row (behaviour m).same ◌++◌ ws) ws; breaking = k }) bs
