-- The laws of a pair follow from those of its parts.
use Rattle.std.proofs.Common.{ap₂, arith}
use Rattle.std.proofs.lemmas.Bool.Decides.{Decides-and, Decides-like}
use Rattle.rules.specs.Meaning.{Meaning, Lawful}
use Rattle.rules.specs.Pairs.{paired}

pub paired_lawful : {A B : Type 0} {a : Meaning A} {b : Meaning B} → Lawful a → Lawful b → Lawful (paired a b)
paired_lawful {A} {B} {a} {b} x y = record {
  some = omega (arith, x.some, y.some);
  few = omega (arith, x.few, y.few);
  own_neutral = (x.own_neutral, y.own_neutral);
  own_command = λ c h. (x.own_command c (omega arith), y.own_command c (omega arith));
  own_join = λ d e p q. (x.own_join d.0 e.0 p.0 q.0, y.own_join d.1 e.1 p.1 q.1);
  assoc = λ d e f p q r. ap₂ (λ u v. (u, v)) (x.assoc d.0 e.0 f.0 p.0 q.0 r.0) (y.assoc d.1 e.1 f.1 p.1 q.1 r.1);
  left = λ d p. ap₂ (λ u v. (u, v)) (x.left d.0 p.0) (y.left d.1 p.1);
  right = λ d p. ap₂ (λ u v. (u, v)) (x.right d.0 p.0) (y.right d.1 p.1);
  same_is = λ d e p q.
      Decides-like ((paired a b).same d e) (λ h. ap₂ (λ u v. (u, v)) h.0 h.1) (λ h. (cc, cc))
      (Decides-and (a.same d.0 e.0) (b.same d.1 e.1) (x.same_is d.0 e.0 p.0 q.0) (y.same_is d.1 e.1 p.1 q.1));
}
