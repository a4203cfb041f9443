-- Two rules side by side.
use Rattle.std.specs.Prelude.{ℕ, min, ◌&&◌, ◌||◌, ◌⊎◌, ◌↔◌, List}
use Rattle.rules.specs.declared.lists.Judgement.{Judgement}
use Rattle.rules.specs.declared.lists.Judgement.TheVariants.{Permitted as permitted, Forbidden as forbidden, Neither as neither}
use Rattle.rules.specs.Meaning.{Meaning, Below, Permitted, Forbidden}

abbrev pub paired : {A B : Type 0} → Meaning A → Meaning B → Meaning (A × B)
paired a b = record {
  commands = min a.commands b.commands;
  own = λ e. a.own e.0 × b.own e.1;
  command = λ c. (a.command c, b.command c);
  neutral = (a.neutral, b.neutral);
  join = λ e f. (a.join e.0 f.0, b.join e.1 f.1);
  same = λ e f. a.same e.0 f.0 && b.same e.1 f.1;
  breaks = λ e. a.breaks e.0 || b.breaks e.1;
}

-- What the pair p of a and b permits and forbids, by what its parts do.
pub record PermitsBoth {A B P : Type 0} (a : Meaning A) (b : Meaning B) (p : Meaning P) : Type 0 where
  pub permitted : (w : List ℕ) → Permitted p w ↔ (Permitted a w × Permitted b w)
  pub forbidden : (w : List ℕ) → Forbidden p w ↔ (Below a.commands w × Below b.commands w × (Forbidden a w ⊎ Forbidden b w))

-- what is said of a list by both parts
abbrev pub JudgedBoth : {A B : Type 0} → Meaning A → Meaning B → List ℕ → Judgement → Type 0
JudgedBoth a b w permitted = Permitted a w × Permitted b w
JudgedBoth a b w forbidden = Below a.commands w × Below b.commands w × (Forbidden a w ⊎ Forbidden b w)
JudgedBoth a b w neither = ¬ (Below a.commands w × Below b.commands w)
