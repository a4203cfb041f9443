-- Boxes compose as relations do, and so charts are lawful.
use Rattle.std.specs.Prelude.{◌≡◌, ℕ, ◌+◌, ◌*◌, ◌/◌, ◌%◌, ◌^◌, ◌<◌, Bool, true, ◌&&◌, List, Decides, ◌==◌, nat_eq, slice_index, refl}
use Rattle.std.proofs.Common.{sym, ◌∙◌, ap, subst, arith}
use Rattle.std.proofs.lemmas.Bool.{eqb-true, eq-eqb, and_parts, and_from}
use Rattle.std.proofs.lemmas.Bool.Decides.{Decides-eqb}
use Rattle.foundation.specs.Bits.{has, number}
use Rattle.rules.specs.Boxes.{pairs, through, composed, identity, charted}
use Rattle.rules.specs.Meaning.{Lawful}
use Rattle.foundation.specs.Laws.Bits.{same_tests, some_is, has-number, number_lt, number_ext, number-has}

-- a state between p and q by the two boxes
abbrev Between : ℕ → ℕ → ℕ → ℕ → Type 0
Between a b p q = (r : ℕ) × (r < 8) × (pairs a p r ≡ true) × (pairs b r q ≡ true)

pub between : (a b p q : ℕ) → Decides (through a b p q) (Between a b p q)
between a b p q =
    let s = some_is 8 (λ r. pairs a p r && pairs b r q) in (
      (λ t. let w = s.0 t in let x = and_parts (pairs a p w.0) (pairs b w.0 q) w.2 in (w.0, w.1, x.0, x.1)),
      (λ w. s.1 (w.0, w.1, and_from (pairs a p w.0) (pairs b w.0 q) w.2 w.3)),
    )

pub pairs-composed : (a b p q : ℕ) → p < 8 → q < 8 → pairs (composed a b) p q ≡ through a b p q
unfolding composed
pairs-composed a b p q h k =
    let e : (8 * p + q) / 8 ≡ p = omega arith in let f : (8 * p + q) % 8 ≡ q = omega arith in
    has-number (λ j. through a b (j / 8) (j % 8)) 64 (8 * p + q) (omega arith)
    ∙ ap (λ x. through a b x ((8 * p + q) % 8)) e ∙ ap (λ x. through a b p x) f

pub pairs-identity : (p q : ℕ) → p < 8 → q < 8 → pairs identity p q ≡ (p == q)
unfolding identity
pairs-identity p q h k =
    let e : (8 * p + q) / 8 ≡ p = omega arith in let f : (8 * p + q) % 8 ≡ q = omega arith in
    has-number (λ j. nat_eq (j / 8) (j % 8)) 64 (8 * p + q) (omega arith)
    ∙ ap (λ x. nat_eq x ((8 * p + q) % 8)) e ∙ ap (λ x. nat_eq p x) f

composed_lt : (a b : ℕ) → composed a b < 2 ^ 64
unfolding composed
composed_lt a b = number_lt (λ j. through a b (j / 8) (j % 8)) 64

identity_lt : identity < 2 ^ 64
unfolding identity
identity_lt = number_lt (λ j. nat_eq (j / 8) (j % 8)) 64

through_forth : (a b c p q : ℕ) → p < 8 → q < 8 → through (composed a b) c p q ≡ true → through a (composed b c) p q ≡ true
through_forth a b c p q h k t =
    let w = (between (composed a b) c p q).0 t in
    let v = (between a b p w.0).0 (sym (pairs-composed a b p w.0 h w.1) ∙ w.2) in
    let z : pairs (composed b c) v.0 q ≡ true = pairs-composed b c v.0 q v.1 k ∙ (between b c v.0 q).1 (w.0, w.1, v.3, w.3) in
    (between a (composed b c) p q).1 (v.0, v.1, v.2, z)

through_back : (a b c p q : ℕ) → p < 8 → q < 8 → through a (composed b c) p q ≡ true → through (composed a b) c p q ≡ true
through_back a b c p q h k t =
    let w = (between a (composed b c) p q).0 t in
    let v = (between b c w.0 q).0 (sym (pairs-composed b c w.0 q w.1 k) ∙ w.3) in
    let z : pairs (composed a b) p v.0 ≡ true = pairs-composed a b p v.0 h v.1 ∙ (between a b p v.0).1 (w.0, w.1, w.2, v.2) in
    (between (composed a b) c p q).1 (v.0, v.1, z, v.3)

composed_assoc : (a b c : ℕ) → composed (composed a b) c ≡ composed a (composed b c)
unfolding composed
composed_assoc a b c =
    number_ext (λ k. through (composed a b) c (k / 8) (k % 8)) (λ k. through a (composed b c) (k / 8) (k % 8)) 64
    (λ k h. same_tests _ _ (through_forth a b c (k / 8) (k % 8) (omega arith) (omega arith)) (through_back a b c (k / 8) (k % 8) (omega arith) (omega arith)))

split_place : (k : ℕ) → 8 * (k / 8) + k % 8 ≡ k
split_place k = omega arith

-- a box that has the pairs of a, for the two laws of the identity
same_box : (f : ℕ → ℕ → Bool) (a : ℕ) → a < 2 ^ 64 → ((p q : ℕ) → p < 8 → q < 8 → Decides (f p q) (pairs a p q ≡ true)) → number (λ k. f (k / 8) (k % 8)) 64 ≡ a
same_box f a h each =
    number_ext (λ k. f (k / 8) (k % 8)) (has a) 64
    (λ k l.
    let d = each (k / 8) (k % 8) (omega arith) (omega arith) in
    let e : pairs a (k / 8) (k % 8) ≡ has a k = ap (has a) (split_place k) in
    same_tests _ _ (λ t. sym e ∙ d.0 t) (λ t. d.1 (e ∙ t)))
    ∙ sym (number-has 64 a h)

-- boxes with the same pairs are one
pub box_ext : (a b : ℕ) → a < 2 ^ 64 → b < 2 ^ 64 → ((p q : ℕ) → p < 8 → q < 8 → pairs a p q ≡ pairs b p q) → a ≡ b
box_ext a b h l each =
    number-has 64 a h ∙ number_ext (has a) (λ k. pairs a (k / 8) (k % 8)) 64 (λ k _. ap (has a) (sym (split_place k)))
    ∙ same_box (pairs a) b l (λ p q x y. ((λ t. sym (each p q x y) ∙ t), (λ t. each p q x y ∙ t)))

composed_left : (a : ℕ) → a < 2 ^ 64 → composed identity a ≡ a
unfolding composed
composed_left a h = same_box (through identity a) a h (λ p q l k. (
  (λ t. let w = (between identity a p q).0 t in
      let e : p ≡ w.0 = eqb-true p w.0 (sym (pairs-identity p w.0 l w.1) ∙ w.2) in
      subst (λ r. pairs a r q ≡ true) (sym e) w.3),
  (λ t. (between identity a p q).1 (p, l, pairs-identity p p l l ∙ eq-eqb p p refl, t)),
))

composed_right : (a : ℕ) → a < 2 ^ 64 → composed a identity ≡ a
unfolding composed
composed_right a h = same_box (through a identity) a h (λ p q l k. (
  (λ t. let w = (between a identity p q).0 t in
      let e : w.0 ≡ q = eqb-true w.0 q (sym (pairs-identity w.0 q w.1 k) ∙ w.3) in
      subst (λ r. pairs a p r ≡ true) e w.2),
  (λ t. (between a identity p q).1 (q, k, t, pairs-identity q q k k ∙ eq-eqb q q refl)),
))

pub charted_lawful : (boxes : List ℕ) (finals : List Bool) → ((c : ℕ) → c < 16 → slice_index boxes c < 2 ^ 64) → Lawful (charted boxes finals)
charted_lawful boxes finals boxed = record {
  some = omega arith;
  few = omega arith;
  own_neutral = identity_lt;
  own_command = boxed;
  own_join = λ a b _ _. composed_lt a b;
  assoc = λ a b c _ _ _. composed_assoc a b c;
  left = composed_left;
  right = composed_right;
  same_is = λ a b _ _. Decides-eqb a b;
}
