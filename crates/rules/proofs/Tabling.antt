-- The parts of an effect table, filled from all effects that were met.
use Rattle.std.proofs.Common.{◌≡◌, ℕ, ◌+◌, ◌*◌, ◌^◌, ◌<◌, ◌≤◌, Bool, true, false, cond, ltb, List, [], ◌∷◌, ◌++◌, map, length, get_or, is_some, IsSome, Some, None, Option, sym, refl, ap, ◌∙◌, subst, ap₂, add-one, arith}
use mathlib.Core.Logic.{∥∥₁_elim}
use lib.Bits.{bit_or, or_shifted_r}
use Rattle.std.specs.Coded.{Coded, Coded-set, coded_list}
use Rattle.std.specs.List.{AllByRecursion}
use Rattle.std.proofs.ByRecursion.{All-append, All-get_or, All-map, All-weaker}
use Rattle.std.proofs.lemmas.List.{get_or-map, get_or_read, length-map}
use Rattle.std.proofs.lemmas.Bool.{both_ways, cond-true, lt-ltb}
use Rattle.rules.specs.Behaviours.{behaviour}
use Rattle.foundation.specs.Bits.{number}
use Rattle.rules.specs.Meaning.{Meaning, Lawful, Below, effect}
use Rattle.rules.specs.Register.{Survey, complete, overfull, place, met_lists}
use Rattle.foundation.specs.Sets.{added}
use Rattle.rules.specs.Surveys.{AllMet}
use Rattle.foundation.specs.Laws.Bits.{number_lt}
use Rattle.rules.proofs.ByLists.{lawful_behaviour, place_map}
use Rattle.rules.proofs.Effects.{effect_own, effect-append}
use Rattle.rules.proofs.Meetings.{Placed, placed, Closed, Ends, meets}
use Rattle.rules.proofs.TableNumbers.{known-place}

pub closed_lists : {E : Type 0} (m : Meaning E) (law : Lawful m) (ws : List (List ℕ)) → met_lists (behaviour m) ≡ complete ws → Closed (behaviour m) (lawful_behaviour m law) ws
closed_lists m law ws e = subst (Ends (behaviour m) (lawful_behaviour m law)) e (meets (behaviour m) (lawful_behaviour m law))

module _ {E : Type 0} (m : Meaning E) (law : Lawful m) (met : List E) (all : AllMet m met) where
  closed : Closed (behaviour m) (lawful_behaviour m law) all.lists
  closed = closed_lists m law all.lists all.closed

  size : length met ≡ length all.lists
  size = ap length all.effects ∙ length-map all.lists (effect m)

  pub met_few : length met ≤ 64
  met_few = omega (arith, size, closed.few)

  pub met_own : AllByRecursion m.own met
  met_own = subst (AllByRecursion m.own) (sym all.effects) (All-map m.own (effect m) all.lists (All-weaker (Below m.commands) (λ w. m.own (effect m w)) (effect_own m law) all.lists closed.own))

  pub met_known : (w : List ℕ) → Below m.commands w → IsSome (place m.same 0 met (effect m w))
  met_known w o =
      ap (λ l. is_some (place m.same 0 l (effect m w))) all.effects ∙ ap is_some (place_map (effect m) m.same 0 all.lists w)
      ∙ known-place (behaviour m) (lawful_behaviour m law) all.lists closed w o

  -- an effect that was met is that of a list
  pub record Listed (e : E) : Type 0 where
    pub list : List ℕ
    pub below : Below m.commands list
    pub is : e ≡ effect m list

  listed_at : (i : ℕ) → i < length met → Listed (get_or met i m.neutral)
  listed_at i h =
      let l : i < length all.lists = omega (arith, size) in
      record {
        list = get_or all.lists i [];
        below = All-get_or (Below m.commands) all.lists i [] l closed.own;
        is = ap (λ xs. get_or xs i m.neutral) all.effects ∙ get_or-map (effect m) all.lists i [] m.neutral l;
      }

  pub listed_read : (i : ℕ) (e : E) → i < length met → e ≡ get_or met i e → Listed e
  listed_read i e h is = subst Listed (sym (get_or_read met i e h is m.neutral)) (listed_at i h)

  pub listed_found : (e : E) → m.own e → IsSome (place m.same 0 met e) → Listed e
  listed_found e o t = go (place m.same 0 met e) (placed m.same m.neutral 0 met e) t
    where
      go : (p : Option ℕ) → Placed m.same m.neutral 0 met e p → is_some p ≡ true → Listed e
      go None q t = absurd (both_ways false refl t)
      go (Some k) (j, (_, f)) t =
          subst Listed ((law.same_is (get_or met j m.neutral) e (All-get_or m.own met j m.neutral f.below met_own) o).0 f.alike) (listed_at j f.below)

  pub listed_own : (e : E) → Listed e → m.own e
  listed_own e l = subst m.own (sym l.is) (effect_own m law l.list l.below)

  pub listed-known : (e : E) → Listed e → IsSome (place m.same 0 met e)
  listed-known e l = subst (λ x. IsSome (place m.same 0 met x)) (sym l.is) (met_known l.list l.below)

  pub listed_command : (c : ℕ) → c < m.commands → Listed (m.command c)
  listed_command c h = record { list = c ∷ []; below = (h, tt); is = sym (law.right (m.command c) (law.own_command c h)) }

  pub listed_join : (a b : E) → Listed a → Listed b → Listed (m.join a b)
  listed_join a b x y = record {
    list = x.list ++ y.list;
    below = All-append (λ c. c < m.commands) x.list y.list x.below y.below;
    is = ap₂ m.join x.is y.is ∙ sym (effect-append m law x.list y.list x.below y.below);
  }

-- ---- from the bare fact that such lists exist, as a value of the code holds it

abbrev MetBy : {E : Type 0} → Meaning E → List E → Survey (List ℕ) → Type 0
MetBy m met (complete ws) = met ≡ map (effect m) ws
MetBy m met (overfull ws w) = ⊥

MetBy-prop : {E : Type 0} → Coded E → (m : Meaning E) (met : List E) (s : Survey (List ℕ)) → IsProp (MetBy m met s)
MetBy-prop code m met (complete ws) = Coded-set (coded_list code) met (map (effect m) ws)
MetBy-prop code m met (overfull ws w) = λ x y. absurd x

pub all_met : {E : Type 0} → Coded E → (m : Meaning E) (met : List E) → ∥ AllMet m met ∥₁ → AllMet m met
all_met code m met t = go (met_lists (behaviour m)) refl (∥∥₁_elim t (MetBy-prop code m met (met_lists (behaviour m))) (λ all. subst (MetBy m met) (sym all.closed) all.effects))
  where
    go : (s : Survey (List ℕ)) → met_lists (behaviour m) ≡ s → MetBy m met s → AllMet m met
    go (complete ws) e is = record { lists = ws; closed = e; effects = is }
    go (overfull ws w) e is = absurd is

-- ---- one more member of a set below i

pub member_more : (f : ℕ → Bool) (w i s : ℕ) → i < w → s ≡ number f i → f i ≡ true → added w s i ≡ number f (i + 1)
member_more f w i s h e t =
    cond-true (ltb i w) (bit_or s (2 ^ i)) s (lt-ltb i w h)
    ∙ ap (bit_or s) (let z : 2 ^ i ≡ 1 * 2 ^ i = omega arith in z)
    ∙ or_shifted_r 1 i s (subst (λ x. x < 2 ^ i) (sym e) (number_lt f i))
    ∙ ap (λ x. 1 * 2 ^ i + x) e
    ∙ ap (λ b. cond b 1 0 * 2 ^ i + number f i) (sym t)
    ∙ ap (number f) (sym (add-one i))

pub member_not : (f : ℕ → Bool) (i s : ℕ) → s ≡ number f i → f i ≡ false → s ≡ number f (i + 1)
member_not f i s e t =
    e ∙ (let y : number f i ≡ 0 * 2 ^ i + number f i = omega arith in y) ∙ ap (λ b. cond b 1 0 * 2 ^ i + number f i) (sym t) ∙ ap (number f) (sym (add-one i))
