-- The laws of a count.
use Rattle.std.proofs.Common.{sym, ◌∙◌, ap, add_assoc, mod-eq_of_lt, add-zero, zero-add}
use Rattle.std.specs.Prelude.{ℕ, ◌+◌, ◌%◌, ◌≤◌, length}
use Rattle.std.proofs.Math.Nat.{mod-add-mod, add-mod-mod}
use Rattle.std.proofs.lemmas.Nat.{mod_below}
use Rattle.std.proofs.lemmas.Bool.Decides.{Decides-eqb}
use Rattle.foundation.specs.declared.bounded.Bounded.{Bounded}
use Rattle.foundation.specs.Bounds.{items}
use Rattle.rules.specs.Counting.{counted, Modular, Residues}
use Rattle.rules.specs.Meaning.{Lawful}
use Rattle.foundation.specs.Laws.Bounds.{items_fit}

pub counted_lawful : (m : ℕ) (weights : Bounded ℕ 16) (mask : ℕ) → Modular m → 1 ≤ length (items weights) → Residues m (items weights) (length (items weights)) → Lawful (counted m (items weights) mask)
counted_lawful m weights mask modular some residues = record {
  some = some;
  few = items_fit weights;
  own_neutral = modular.0;
  own_command = residues;
  own_join = λ a b _ _. mod_below (a + b) m modular.0;
  assoc = λ a b c _ _ _. mod-add-mod (a + b) m c ∙ ap (λ n. n % m) (add_assoc a b c) ∙ sym (add-mod-mod a (b + c) m);
  left = λ a h. ap (λ n. n % m) (zero-add a) ∙ mod-eq_of_lt h;
  right = λ a h. ap (λ n. n % m) (add-zero a) ∙ mod-eq_of_lt h;
  same_is = λ a b _ _. Decides-eqb a b;
}
