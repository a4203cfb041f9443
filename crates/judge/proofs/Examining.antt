-- What the judge finds of a chart, in the words of its automaton.
use Rattle.std.proofs.Common.{◌≡◌, ℕ, ◌+◌, ◌^◌, ◌<◌, ◌≤◌, Bool, ◌⊎◌, List, [], ◌∷◌, ◌++◌, length, get_or, Some, Ok, Err, Option, Result, refl, ap, ◌∙◌, subst, inl, inr, arith}
use Rattle.std.proofs.ByRecursion.{All-push, All-get_or}
use Rattle.std.proofs.lemmas.List.{get_or_append_left, get_or_push, length_push}
use Rattle.std.proofs.lemmas.Bool.{cases_lt}
use Rattle.std.proofs.lemmas.Bool.Decides.{Decides-like}
use Rattle.rules.specs.declared.fault.EffectsFault.{EffectsFault}
use Rattle.rules.specs.declared.fault.EffectsFault.TheVariants.{TooMany, ShortSlice}
use Rattle.rules.specs.declared.table.EffectTable.{EffectTable}
use Rattle.rules.specs.Automata.{Chartable, LeadAlike}
use Rattle.rules.specs.Behaviours.{behaviour}
use Rattle.rules.specs.Boxes.{charted, Charts}
use Rattle.rules.specs.Meaning.{Below, effect}
use Rattle.rules.specs.Numbering.{Exceeds}
use Rattle.rules.specs.Surveys.{view, Surveyed}
use Rattle.rules.specs.Laws.Boxes.{charted_lawful}
use Rattle.rules.proofs.Effects.{effect_own}
use Rattle.formulas.specs.Records.{Read}
use Rattle.formulas.specs.Symbols.{Entry}
use Rattle.judge.specs.declared.fault.JudgeFault.TheVariants.{Effects}
use Rattle.judge.specs.Reports.{Automatic, TooManyEffects, Posed, Reported}

module _ (bytes : List ℕ) (boxes : List ℕ) (finals : List Bool) (boxed : (c : ℕ) → c < 16 → get_or boxes c 0 < 2 ^ 64) (chart : Chartable bytes) (charts : Charts bytes (charted boxes finals)) where
  own : (w : List ℕ) → Below 16 w → effect (charted boxes finals) w < 2 ^ 64
  own = effect_own (charted boxes finals) (charted_lawful boxes finals boxed)

  pub automatic : Automatic bytes (behaviour (charted boxes finals))
  automatic = record {
    commands = refl;
    same = λ u v o p. Decides-like _ (charts.alike u v o p).0 (charts.alike u v o p).1
        ((charted_lawful boxes finals boxed).same_is (effect (charted boxes finals) u) (effect (charted boxes finals) v) (own u o) (own v p));
    breaks = λ w o. ((λ t. ((charts.forbids w).0 (o, t)).1), (λ never. ((charts.forbids w).1 (o, never)).1));
  }

  abbrev pub posed : (p : List ℕ) (rs : List Entry) → Read p (Ok rs) → (t : EffectTable) (old new : List ℕ) → Surveyed (charted boxes finals) old new (Ok t) → Posed bytes p
  posed p rs read t old new s = record {
    chartable = chart;
    rule = behaviour (charted boxes finals);
    automatic = automatic;
    table = view t;
    numbers = s.1.numbers;
    few = t.few;
    records = rs;
    read = read;
  }

  pub too_many : (old new : List ℕ) → Exceeds (charted boxes finals) 64 old new → TooManyEffects bytes
  too_many old new over = record {
    chart = chart;
    lists = over.lists ++ over.more ∷ [];
    many = length_push over.lists over.more ∙ ap (λ n. n + 1) over.full;
    own = All-push (Below 16) over.lists over.more over.own over.more_own;
    differ = λ i j h l. differ i j h (cases_lt j 64) l;
  }
    where
      old_at : (i : ℕ) → i < 64 → get_or (over.lists ++ over.more ∷ []) i [] ≡ get_or over.lists i []
      old_at i h = get_or_append_left over.lists (over.more ∷ []) [] i (omega (arith, over.full))

      own_at : (i : ℕ) → i < 64 → Below 16 (get_or over.lists i [])
      own_at i h = All-get_or (Below 16) over.lists i [] (omega (arith, over.full)) over.own

      differ : (i j : ℕ) → i < j → (j < 64) ⊎ (64 ≤ j) → j < 65 → LeadAlike bytes (get_or (over.lists ++ over.more ∷ []) i []) (get_or (over.lists ++ over.more ∷ []) j []) → ⊥
      differ i j h (inl l) _ same =
          over.differ i j h l ((charts.alike (get_or over.lists i []) (get_or over.lists j []) (own_at i (omega arith)) (own_at j l)).1
          (subst (λ u. LeadAlike bytes u (get_or over.lists j [])) (old_at i (omega arith)) (subst (LeadAlike bytes (get_or (over.lists ++ over.more ∷ []) i [])) (old_at j l) same)))
      differ i j h (inr l) k same =
          let e : get_or (over.lists ++ over.more ∷ []) j [] ≡ over.more = get_or_push over.lists over.more [] j (let z : length over.lists ≡ j = omega (arith, over.full) in z) in
          over.more_differs i (omega arith) ((charts.alike (get_or over.lists i []) over.more (own_at i (omega arith)) over.more_own).1
          (subst (λ u. LeadAlike bytes u over.more) (old_at i (omega arith)) (subst (LeadAlike bytes (get_or (over.lists ++ over.more ∷ []) i [])) e same)))

  -- the table's fault on the way up, where the records were read
  pub refused : (procs : Option (List ℕ)) (p : List ℕ) (rs : List Entry) → procs ≡ Some p → Read p (Ok rs) → (old new : List ℕ) (r : Result EffectTable EffectsFault) (f : EffectsFault) → 64 ≤ length old → Surveyed (charted boxes finals) old new r → r ≡ Err f → Reported bytes procs (Err (Effects f))
  refused procs p rs is read old new (Ok t) f room s e = let z : ◌≡◌ {A = ℕ} 0 1 = cc in absurd (omega arith)
  refused procs p rs is read old new (Err TooMany) TooMany room s e = (too_many old new s.1, (p, rs, is, read))
  refused procs p rs is read old new (Err TooMany) (ShortSlice n) room s e = let z : ◌≡◌ {A = ℕ} 0 1 = cc in absurd (omega arith)
  refused procs p rs is read old new (Err (ShortSlice k)) f room s e = absurd (omega (arith, s.0))
