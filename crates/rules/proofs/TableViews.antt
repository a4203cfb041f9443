-- An effect table as the code makes and holds it.
use Rattle.std.proofs.Common.{◌≡◌, ℕ, ◌≤◌, false, ltb, List, [], map, length, get_or, take, Some, None, Ok, Err, sym, refl, ap, ◌∙◌, subst, arith}
use Rattle.std.proofs.lemmas.List.FromFn.{length-map-range_with_len}
use Rattle.std.proofs.lemmas.List.{get_or-map, length-map, take_at}
use Rattle.std.proofs.lemmas.Bool.{cond-false, le-ltb}
use Rattle.foundation.specs.declared.bounded.Bounded.{Bounded}
use Rattle.foundation.specs.declared.effect_set.EffectSet.{EffectSet}
use Rattle.rules.specs.declared.fault.EffectsFault.TheVariants.{TooMany, ShortSlice}
use Rattle.rules.specs.Behaviours.{behaviour}
use Rattle.foundation.specs.Bounds.{items}
use Rattle.rules.specs.Meaning.{Meaning, Lawful, effect}
use Rattle.rules.specs.Numbering.{Numbered, Exceeds}
use Rattle.rules.specs.Register.{Survey, complete, overfull, entries, outcome, mapped, met_effects, met_lists, written}
use Rattle.rules.specs.Surveys.{tabled, tabled_by, slice_after, AllMet}
use Rattle.rules.specs.Tables.{numbered, join_row, effects_table, lists_table}
use Rattle.rules.specs.Views.{table_from, NumbersSome, Square}
use Rattle.rules.proofs.ByLists.{lawful_behaviour, met_by_lists, table_by_lists}
use Rattle.rules.proofs.Meetings.{Closed, Ends, Overfull, meets}
use Rattle.rules.proofs.TableNumbers.{numbers, slice_numbered, slice_exceeds}
use Rattle.rules.proofs.Tabling.{closed_lists}

pub view_is : {E : Type 0} (m : Meaning E) (met : List E) (ns : Bounded ℕ 16) (joins : Bounded (Bounded ℕ 64) 64) (s : EffectSet)
    → items ns ≡ (effects_table m met).numbers → map items (items joins) ≡ (effects_table m met).joins → s ≡ (effects_table m met).breaking
    → table_from ns joins s ≡ effects_table m met
view_is m met ns joins s e f g =
    let k : length (items ns) ≡ m.commands = ap length e ∙ length-map-range_with_len (λ c. numbered m.same met (m.command c)) 0 m.commands in
    let n : length (items joins) ≡ length met = sym (length-map (items joins) items) ∙ ap length f ∙ length-map met (join_row m.same m.join met) in
    rw (k, n, e, f, g)

module _ {E : Type 0} (m : Meaning E) (law : Lawful m) (met : List E) (all : AllMet m met) where
  closed : Closed (behaviour m) (lawful_behaviour m law) all.lists
  closed = closed_lists m law all.lists all.closed

  lists_are : effects_table m met ≡ lists_table (behaviour m) all.lists
  lists_are = ap (effects_table m) all.effects ∙ table_by_lists m law all.lists closed.own

  -- the table of the effects that were met is as the code's table must be
  pub square : Square (effects_table m met)
  square i h =
      ap length (get_or-map (join_row m.same m.join met) met i m.neutral [] h) ∙ length-map met (λ y. numbered m.same met (m.join (get_or met i m.neutral) y))

  pub numbers_some : NumbersSome (effects_table m met)
  numbers_some = subst NumbersSome (sym lists_are) (record { rule = behaviour m; lawful = lawful_behaviour m law; numbers = numbers (behaviour m) (lawful_behaviour m law) all.lists closed })

complete_from : {A B : Type 0} (f : A → B) (x : Survey A) (n : ℕ) → Some n ≡ outcome (mapped f x) → (ws : List A) × ((x ≡ complete ws) × (n ≡ length ws))
complete_from f (complete ws) n p = (ws, (refl, (let z : n ≡ length (map f ws) = cc in z ∙ length-map ws f)))
complete_from f (overfull ws w) n p = absurd (cc)

overfull_from : {A B : Type 0} (f : A → B) (x : Survey A) → None ≡ outcome (mapped f x) → (ws : List A) × ((w : A) × (x ≡ overfull ws w))
overfull_from f (complete ws) p = absurd (cc)
overfull_from f (overfull ws w) p = (ws, (w, refl))

-- what holds of a slice whose first n entries are all effects, and of the table that is made of them
pub record Counted {E : Type 0} (m : Meaning E) (old new : List E) (n : ℕ) : Type 0 where
  pub part : AllMet m (take n new)
  pub answer : Ok (effects_table m (take n new)) ≡ tabled (behaviour m) (length old)
  pub slice : new ≡ slice_after m old
  pub numbered : Numbered m (effects_table m (take n new)) old new

module _ {E : Type 0} (m : Meaning E) (law : Lawful m) (old new : List E) (room : 64 ≤ length old) (is : new ≡ written (entries (met_effects m)) old) where
  enough : ltb (length old) 64 ≡ false
  enough = le-ltb (length old) 64 room

  entries_are : (x : Survey (List ℕ)) → met_lists (behaviour m) ≡ x → new ≡ written (map (effect m) (entries x)) old
  entries_are x e = is ∙ ap (λ y. written (entries y) old) (met_by_lists m law ∙ ap (mapped (effect m)) e) ∙ ap (λ l. written l old) (of_mapped x)
    where
      of_mapped : (y : Survey (List ℕ)) → entries (mapped (effect m) y) ≡ map (effect m) (entries y)
      of_mapped (complete ws) = refl
      of_mapped (overfull ws w) = refl

  pub slice_is : new ≡ slice_after m old
  slice_is = entries_are (met_lists (behaviour m)) refl ∙ sym (cond-false (ltb (length old) 64) old (written (map (effect m) (entries (met_lists (behaviour m)))) old) enough)

  table_is : (x : Survey (List ℕ)) → met_lists (behaviour m) ≡ x → tabled (behaviour m) (length old) ≡ tabled_by (behaviour m) x
  table_is x e = cond-false (ltb (length old) 64) (Err (ShortSlice (length old))) (tabled_by (behaviour m) (met_lists (behaviour m))) enough ∙ ap (tabled_by (behaviour m)) e

  pub record Refused : Type 0 where
    pub answer : Err TooMany ≡ tabled (behaviour m) (length old)
    pub exceeds : Exceeds m 64 old new

  pub refused : None ≡ outcome (met_effects m) → Refused
  refused p =
      let o = overfull_from (effect m) (met_lists (behaviour m)) (p ∙ ap outcome (met_by_lists m law)) in
      let over : Overfull (behaviour m) (lawful_behaviour m law) o.0 o.1.0 = subst (Ends (behaviour m) (lawful_behaviour m law)) o.1.1 (meets (behaviour m) (lawful_behaviour m law)) in
      record {
        answer = sym (table_is (overfull o.0 o.1.0) o.1.1);
        exceeds = subst (Exceeds m 64 old) (sym (entries_are (overfull o.0 o.1.0) o.1.1)) (slice_exceeds m law o.0 old (omega (arith, over.size)) o.1.0 over);
      }

  module _ (n : ℕ) (some : Some n ≡ outcome (met_effects m)) where
    -- the lists by which the effects were met
    found_lists : (ws : List (List ℕ)) × ((met_lists (behaviour m) ≡ complete ws) × (n ≡ length ws))
    found_lists = complete_from (effect m) (met_lists (behaviour m)) n (some ∙ ap outcome (met_by_lists m law))

    met_front : take n new ≡ map (effect m) found_lists.0
    met_front =
        ap (take n) (entries_are (complete found_lists.0) found_lists.1.0)
        ∙ take_at (map (effect m) found_lists.0) _ n (length-map found_lists.0 (effect m) ∙ sym found_lists.1.1)

    part : AllMet m (take n new)
    part = record { lists = found_lists.0; closed = found_lists.1.0; effects = met_front }

    pub counted_is : Counted m old new n
    unfolding part found_lists
    counted_is = record {
      part = part;
      answer = ap Ok (lists_are m law (take n new) part) ∙ sym (table_is (complete found_lists.0) found_lists.1.0);
      slice = slice_is;
      numbered = subst (λ t. Numbered m t old new) (sym (lists_are m law (take n new) part))
          (subst (Numbered m (lists_table (behaviour m) found_lists.0) old) (sym (entries_are (complete found_lists.0) found_lists.1.0))
          (slice_numbered m law found_lists.0 old (omega (arith, (closed m law (take n new) part).few)) (closed m law (take n new) part)));
    }
