-- The joins of a table are those of a monoid on its effect numbers.
use Rattle.std.proofs.Common.{◌≡◌, ℕ, ◌<◌, ◌≤◌, ◌⊎◌, List, [], ◌∷◌, ◌++◌, length, Some, None, sym, refl, ap, ◌∙◌, subst, ap₂, inl, inr, append_assoc, append-nil, arith}
use mathlib.Core.Logic.{∥∥₁_elim}
use native.Mathlib.Bridge.{le_prop}
use native.Mathlib.Nat.{ℕ_set}
use Rattle.std.proofs.ByRecursion.{All-append}
use Rattle.std.proofs.lemmas.Option.{slice_get-get_or, slice_get_past}
use Rattle.std.proofs.lemmas.Bool.{cases_lt}
use Rattle.rules.specs.declared.table.EffectTable.{EffectTable}
use Rattle.rules.specs.Behaviours.{Behaviour}
use Rattle.rules.specs.Lookups.{table_command}
use Rattle.rules.specs.Meaning.{Below}
use Rattle.rules.specs.Numbering.{Numbers}
use Rattle.rules.specs.Surveys.{view}
use Rattle.rules.specs.Tables.{Table, number_of, join_of}
use Rattle.rules.specs.Views.{NumbersSome}

pub record Monoid (t : Table) : Type 0 where
  pub some : 0 < t.count
  pub closed : (e k : ℕ) → e < t.count → k < t.count → join_of t e k < t.count
  pub left : (k : ℕ) → k < t.count → join_of t 0 k ≡ k
  pub right : (e : ℕ) → e < t.count → join_of t e 0 ≡ e
  pub assoc : (d e k : ℕ) → d < t.count → e < t.count → k < t.count → join_of t (join_of t d e) k ≡ join_of t d (join_of t e k)
  pub command : (c : ℕ) → c < t.commands → number_of t c < t.count
  pub numbered : length t.numbers ≡ t.commands

module _ (b : Behaviour) (t : Table) (n : Numbers b t) where
  -- a number as that of a list
  met : (e : ℕ) → e < t.count → n.number (n.list e) ≡ e
  met e h = n.met e h

  own : (e : ℕ) → e < t.count → Below b.commands (n.list e)
  own e h = n.own e h

  two : (u v : List ℕ) → Below b.commands u → Below b.commands v → Below b.commands (u ++ v)
  two u v p q = All-append (λ c. c < b.commands) u v p q

  join_met : (e k : ℕ) → e < t.count → k < t.count → join_of t e k ≡ n.number (n.list e ++ n.list k)
  join_met e k h l = ap₂ (join_of t) (sym (met e h)) (sym (met k l)) ∙ n.joins (n.list e) (n.list k) (own e h) (own k l)

  closed : (e k : ℕ) → e < t.count → k < t.count → join_of t e k < t.count
  closed e k h l = subst (λ x. x < t.count) (sym (join_met e k h l)) (n.below (n.list e ++ n.list k) (two (n.list e) (n.list k) (own e h) (own k l)))

  pub monoid_from : length t.numbers ≡ t.commands → Monoid t
  monoid_from e = record {
    some = some;
    closed = closed;
    left = λ k l. ap₂ (join_of t) (sym n.none) (sym (met k l)) ∙ n.joins [] (n.list k) tt (own k l) ∙ met k l;
    right = λ d h. ap₂ (join_of t) (sym (met d h)) (sym n.none) ∙ n.joins (n.list d) [] (own d h) tt ∙ ap n.number (append-nil (n.list d)) ∙ met d h;
    assoc = λ d f k h l m.
        let u = n.list d in let v = n.list f in let w = n.list k in
        ap₂ (join_of t) (join_met d f h l) (sym (met k m)) ∙ n.joins (u ++ v) w (two u v (own d h) (own f l)) (own k m) ∙ ap n.number (append_assoc u v w)
        ∙ sym (n.joins u (v ++ w) (own d h) (two v w (own f l) (own k m))) ∙ ap₂ (join_of t) (met d h) (sym (join_met f k l m));
    command = λ c h. let k : c < b.commands = omega (arith, n.commands) in subst (λ x. x < t.count) (sym (n.single c k)) (n.below (c ∷ []) (k, tt));
    numbered = e;
  }
    where
      some : 0 < t.count
      some = subst (λ x. x < t.count) n.none (n.below [] tt)

-- every table of the code numbers some lawful rule
pub table_monoid : (t : EffectTable) → Monoid (view t)
table_monoid t = record {
  some = ∥∥₁_elim t.numbered le_prop (λ s. (from s).some);
  closed = λ e k h l. ∥∥₁_elim t.numbered le_prop (λ s. (from s).closed e k h l);
  left = λ k l. ∥∥₁_elim t.numbered (ℕ_set _ _) (λ s. (from s).left k l);
  right = λ e h. ∥∥₁_elim t.numbered (ℕ_set _ _) (λ s. (from s).right e h);
  assoc = λ d e k h l m. ∥∥₁_elim t.numbered (ℕ_set _ _) (λ s. (from s).assoc d e k h l m);
  command = λ c h. ∥∥₁_elim t.numbered le_prop (λ s. (from s).command c h);
  numbered = refl;
}
  where
    from : NumbersSome (view t) → Monoid (view t)
    from s = monoid_from s.rule (view t) s.numbers refl

-- a command's number in the table
module _ (t : Table) (m : Monoid t) (c : ℕ) where
  pub command_known : c < t.commands → table_command t c ≡ Some (number_of t c)
  command_known h = slice_get-get_or t.numbers c 0 (omega (arith, m.numbered))

  pub command_lacking : t.commands ≤ c → table_command t c ≡ None
  command_lacking h = slice_get_past t.numbers c (omega (arith, m.numbered))

  -- what is found is the number of an effect
  pub command_below : (e : ℕ) → Some e ≡ table_command t c → e < t.count
  command_below e is = go (cases_lt c t.commands)
    where
      go : (c < t.commands) ⊎ (t.commands ≤ c) → e < t.count
      go (inl h) = let k = command_known h in let z : e ≡ number_of t c = cc in omega (arith, m.command c h)
      go (inr h) = let k = command_lacking h in let z : ◌≡◌ {A = ℕ} 0 1 = cc in absurd (omega arith)
