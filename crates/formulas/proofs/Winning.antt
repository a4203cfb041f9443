-- Winning sets: how they compose, and what the formula of a list of symbols says of them.
use Rattle.std.proofs.Common.{◌≡◌, ℕ, ◌^◌, ◌<◌, ◌≤◌, Bool, true, false, ◌&&◌, ltb, ◌⊎◌, List, [], ◌∷◌, ◌++◌, length, Some, None, Option, sym, refl, ap, ◌∙◌, inl, inr, arith}
use mathlib.Core.Path.{fun_ext}
use mathlib.Core.Bool.{and-true}
use Rattle.std.proofs.lemmas.Nat.{pow_pos}
use Rattle.std.proofs.lemmas.Bool.{lt-ltb, le-ltb, cases_lt}
use Rattle.foundation.specs.Bits.{has, number}
use Rattle.foundation.specs.Laws.Bits.{has-number, has_above, has-zero, number_lt, number_ext, number-has}
use Rattle.foundation.specs.Laws.Members.{hits_one}
use Rattle.rules.specs.Lookups.{table_command}
use Rattle.rules.specs.Tables.{Table, number_of, join_of}
use Rattle.formulas.specs.declared.symbol.Symbol.{Symbol}
use Rattle.formulas.specs.declared.symbol.Symbol.TheVariants.{Command, Procedure}
use Rattle.formulas.specs.Formulas.{meets, leading, going_on, shift, then}
use Rattle.formulas.specs.Rounds.{formula_at, shift_by, body_formula}
use Rattle.formulas.specs.Winning.{Assignment, assigned, effects_where, after_effect, before_command, before_procedure, winning}
use Rattle.formulas.proofs.Given.{Given, given_bind}
use Rattle.formulas.proofs.Meets.{impossible-meets, shift-meets, then-meets}
use Rattle.formulas.proofs.Monoids.{Monoid, command_known, command_lacking}

-- a set of numbers below n, made by a test
pub has_made : (f : ℕ → Bool) (n k : ℕ) → has (number f n) k ≡ (ltb k n && f k)
has_made f n k = go (cases_lt k n)
  where
    go : (k < n) ⊎ (n ≤ k) → has (number f n) k ≡ (ltb k n && f k)
    go (inl h) = has-number f n k h ∙ sym (ap (λ b. b && f k) (lt-ltb k n h))
    go (inr h) = has_above n (number f n) k (number_lt f n) h ∙ sym (ap (λ b. b && f k) (le-ltb k n h))

module _ (t : Table) (m : Monoid t) where
  pub has_where : (f : ℕ → Bool) (k : ℕ) → k < t.count → has (effects_where t f) k ≡ f k
  has_where f k h = has-number f t.count k h

  pub after_none : (A : ℕ) → A < 2 ^ t.count → after_effect t A 0 ≡ A
  after_none A h = number_ext (λ k. has A (join_of t 0 k)) (has A) t.count (λ k l. ap (has A) (m.left k l)) ∙ sym (number-has t.count A h)

  pub before_lt : (o : Option ℕ) (A : ℕ) → before_command t o A < 2 ^ t.count
  before_lt None A = pow_pos t.count
  before_lt (Some c) A = number_lt (λ e. has A (join_of t e c)) t.count

  module _ (φ : Assignment) where
    pub winning-lt : (A : ℕ) (s : List Symbol) → A < 2 ^ t.count → winning t φ A s < 2 ^ t.count
    winning-lt A [] h = h
    winning-lt A (Command c ∷ s) h = before_lt (table_command t c) (winning t φ A s)
    winning-lt A (Procedure x ∷ s) h = number_lt (λ e. φ x (after_effect t (winning t φ A s) e)) t.count

    -- in front of no symbols, the set itself
    pub winning-none : (A : ℕ) (s : List Symbol) → length s ≡ 0 → winning t φ A s ≡ A
    winning-none A [] e = refl
    winning-none A (x ∷ s) e = absurd (omega arith)

    pub winning-append : (A : ℕ) (s z : List Symbol) → winning t φ A (s ++ z) ≡ winning t φ (winning t φ A z) s
    winning-append A [] z = refl
    winning-append A (Command c ∷ s) z = ap (before_command t (table_command t c)) (winning-append A s z)
    winning-append A (Procedure x ∷ s) z = ap (before_procedure t (φ x)) (winning-append A s z)

    -- in front of a set, by one command
    pub winning_known : (A c : ℕ) (s : List Symbol) (e : ℕ) → c < t.commands → e < t.count → has (winning t φ A (Command c ∷ s)) e ≡ has (winning t φ A s) (join_of t e (number_of t c))
    winning_known A c s e h l = ap (λ o. has (before_command t o (winning t φ A s)) e) (command_known t m c h) ∙ has_where (λ e. has (winning t φ A s) (join_of t e (number_of t c))) e l

    pub winning_lacking : (A c : ℕ) (s : List Symbol) (e : ℕ) → t.commands ≤ c → has (winning t φ A (Command c ∷ s)) e ≡ false
    winning_lacking A c s e h = ap (λ o. has (before_command t o (winning t φ A s)) e) (command_lacking t m c h) ∙ has-zero e

    pub winning_procedure : (A x : ℕ) (s : List Symbol) (e : ℕ) → e < t.count → has (winning t φ A (Procedure x ∷ s)) e ≡ φ x (after_effect t (winning t φ A s) e)
    winning_procedure A x s e l = has_where (λ e. φ x (after_effect t (winning t φ A s) e)) e l

    -- from e on into A is from the start on into what leads into A after e
    pub after_winning : (A e : ℕ) (s : List Symbol) (k : ℕ) → e < t.count → k < t.count → has (winning t φ (after_effect t A e) s) k ≡ has (winning t φ A s) (join_of t e k)
    after_winning A e [] k h l = has_where (λ k. has A (join_of t e k)) k l
    after_winning A e (Command c ∷ s) k h l = go (cases_lt c t.commands) (after_winning A e s)
      where
        go : (c < t.commands) ⊎ (t.commands ≤ c) → ((k : ℕ) → e < t.count → k < t.count → has (winning t φ (after_effect t A e) s) k ≡ has (winning t φ A s) (join_of t e k))
            → has (winning t φ (after_effect t A e) (Command c ∷ s)) k ≡ has (winning t φ A (Command c ∷ s)) (join_of t e k)
        go (inl q) ih =
            winning_known (after_effect t A e) c s k q l ∙ ih (join_of t k (number_of t c)) h (m.closed k (number_of t c) l (m.command c q))
            ∙ ap (has (winning t φ A s)) (sym (m.assoc e k (number_of t c) h l (m.command c q))) ∙ sym (winning_known A c s (join_of t e k) q (m.closed e k h l))
        go (inr q) ih = winning_lacking (after_effect t A e) c s k q ∙ sym (winning_lacking A c s (join_of t e k) q)
    after_winning A e (Procedure x ∷ s) k h l =
        winning_procedure (after_effect t A e) x s k l
        ∙ ap (φ x) (number_ext (λ i. has (winning t φ (after_effect t A e) s) (join_of t k i)) (λ i. has (winning t φ A s) (join_of t (join_of t e k) i)) t.count
        (λ i q. after_winning A e s (join_of t k i) h (m.closed k i l q) ∙ ap (has (winning t φ A s)) (sym (m.assoc e k i h l q))))
        ∙ sym (winning_procedure A x s (join_of t e k) (m.closed e k h l))

    -- b and then z, from e on
    pub winning_from : (A e : ℕ) (b z : List Symbol) → e < t.count → has (winning t φ (after_effect t (winning t φ A z) e) b) 0 ≡ has (winning t φ A (b ++ z)) e
    winning_from A e b z h =
        after_winning (winning t φ A z) e b 0 h m.some ∙ ap (has (winning t φ (winning t φ A z) b)) (m.right e h) ∙ ap (λ W. has W e) (sym (winning-append A b z))

  -- ---- the formula of a list of symbols

  leading_is : (A e : ℕ) → e < t.count → leading t (has A) e ≡ has (after_effect t A e)
  leading_is A e h = fun_ext (λ k. ap (λ b. b && (ltb k t.count && has A (join_of t e k))) (lt-ltb e t.count h) ∙ sym (has_made (λ k. has A (join_of t e k)) t.count k))

  module _ (limit : ℕ) (L : List (List ℕ)) where
    abbrev pub Says : List Symbol → List ℕ → Type 0
    Says s R = (A : ℕ) → meets (has A) R ≡ has (winning t (assigned (formula_at L)) A s) 0

    by_command : (c : ℕ) (s : List Symbol) (R : List ℕ) → Says s R → Given (shift_by limit t (table_command t c) R) (Says (Command c ∷ s))
    by_command c s R says = go (table_command t c) refl (cases_lt c t.commands)
      where
        W : ℕ → ℕ
        W A = winning t (assigned (formula_at L)) A s

        go : (o : Option ℕ) → table_command t c ≡ o → (c < t.commands) ⊎ (t.commands ≤ c) → Given (shift_by limit t o R) (Says (Command c ∷ s))
        go None q (inl h) = absurd (let e = command_known t m c h in let z : ◌≡◌ {A = ℕ} 0 1 = cc in omega arith)
        go None q (inr h) = λ A. impossible-meets (has A) ∙ sym (winning_lacking (assigned (formula_at L)) A c s 0 h)
        go (Some e) q (inr h) = absurd (let z = command_lacking t m c h in let y : ◌≡◌ {A = ℕ} 0 1 = cc in omega arith)
        go (Some e) q (inl h) = each (shift limit t e R) (λ A. shift-meets t (has A) limit e R)
          where
            is : e ≡ number_of t c
            is = let z = command_known t m c h in cc

            small : e < t.count
            small = omega (arith, is, m.command c h)

            each : (o : Option (List ℕ)) → ((A : ℕ) → Given o (λ S. meets (has A) S ≡ meets (leading t (has A) e) R)) → Given o (Says (Command c ∷ s))
            each None f = tt
            each (Some S) f = λ A.
                f A ∙ ap (λ p. meets p R) (leading_is A e small) ∙ says (after_effect t A e)
                ∙ after_winning (assigned (formula_at L)) A e s 0 small m.some ∙ ap (has (W A)) (m.right e small ∙ is ∙ sym (m.left (number_of t c) (m.command c h)))
                ∙ sym (winning_known (assigned (formula_at L)) A c s 0 h m.some)

    by_procedure : (x : ℕ) (s : List Symbol) (R : List ℕ) → Says s R → Given (then limit t (formula_at L x) R) (Says (Procedure x ∷ s))
    by_procedure x s R says = each (then limit t (formula_at L x) R) (λ A. then-meets t (has A) limit (formula_at L x) R)
      where
        W : ℕ → ℕ
        W A = winning t (assigned (formula_at L)) A s

        going_on_is : (A e : ℕ) → going_on t (has A) R e ≡ has (after_effect t (W A) 0) e
        going_on_is A e = go (cases_lt e t.count)
          where
            go : (e < t.count) ⊎ (t.count ≤ e) → going_on t (has A) R e ≡ has (after_effect t (W A) 0) e
            go (inl h) =
                ap (λ b. b && meets (leading t (has A) e) R) (lt-ltb e t.count h) ∙ ap (λ p. meets p R) (leading_is A e h) ∙ says (after_effect t A e)
                ∙ after_winning (assigned (formula_at L)) A e s 0 h m.some ∙ ap (has (W A)) (m.right e h ∙ sym (m.left e h)) ∙ sym (has_where (λ k. has (W A) (join_of t 0 k)) e h)
            go (inr h) =
                ap (λ b. b && meets (leading t (has A) e) R) (le-ltb e t.count h)
                ∙ sym (has_above t.count (after_effect t (W A) 0) e (number_lt (λ k. has (W A) (join_of t 0 k)) t.count) h)

        each : (o : Option (List ℕ)) → ((A : ℕ) → Given o (λ S. meets (has A) S ≡ meets (going_on t (has A) R) (formula_at L x))) → Given o (Says (Procedure x ∷ s))
        each None f = tt
        each (Some S) f = λ A.
            f A ∙ ap (λ (p : ℕ → Bool). meets p (formula_at L x)) (fun_ext (going_on_is A)) ∙ sym (winning_procedure (assigned (formula_at L)) A x s 0 m.some)

    pub body_says : (s : List Symbol) → Given (body_formula limit t L s) (Says s)
    body_says [] = λ A. ap (λ b. b && true) (hits_one (has A) 0) ∙ and-true (has A 0)
    body_says (Command c ∷ s) = given_bind (body_formula limit t L s) (shift_by limit t (table_command t c)) (Says s) (Says (Command c ∷ s)) (body_says s) (by_command c s)
    body_says (Procedure x ∷ s) = given_bind (body_formula limit t L s) (then limit t (formula_at L x)) (Says s) (Says (Procedure x ∷ s)) (body_says s) (by_procedure x s)
