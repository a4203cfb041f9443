-- The records of a chart, one after another.
use Rattle.std.proofs.Common.{◌≡◌, ℕ, ◌+◌, ◌*◌, ◌≤◌, List, ◌++◌, length, take, drop, sym, ap, ◌∙◌, arith}
use Rattle.std.proofs.lemmas.List.{drop_at, drop-drop, length-append, length-drop, take_at}
use Rattle.rules.specs.Automata.{record_at}

-- what is left of the bytes begins with a record: it is the one of this number, and the rest is behind it
pub record Next (bytes entry more : List ℕ) (i : ℕ) : Type 0 where
  pub is : entry ≡ record_at bytes i
  pub rest : more ≡ drop (12 * (i + 1)) bytes
  pub within : 12 * (i + 1) ≤ length bytes

pub next_record : (bytes rest entry more : List ℕ) (i : ℕ) → rest ≡ drop (12 * i) bytes → rest ≡ entry ++ more → length entry ≡ 12 → 12 * i ≤ length bytes → Next bytes entry more i
next_record bytes rest entry more i left split size within =
    let e : entry ++ more ≡ drop (12 * i) bytes = sym split ∙ left in
    record {
      is = sym (take_at entry more 12 size) ∙ ap (take 12) e;
      rest = sym (drop_at entry more 12 size) ∙ ap (drop 12) e ∙ drop-drop 12 (12 * i) bytes ∙ ap (λ n. drop n bytes) (let u : 12 * i + 12 ≡ 12 * (i + 1) = omega arith in u);
      within = omega (arith, ap length e, length-append entry more, length-drop (12 * i) bytes);
    }
