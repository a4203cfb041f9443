-- The formulas of bodies, and the rounds.
use Rattle.std.specs.Prelude.{ℕ, zero, suc, List, [], ◌∷◌, map, Some, None, Ok, Err, Option, Result, slice_index_or}
use Rattle.std.specs.List.{range_with_len}
use Rattle.rules.specs.Lookups.{table_command}
use Rattle.rules.specs.Tables.{Table}
use Rattle.formulas.specs.declared.symbol.Owner.{Owner}
use Rattle.formulas.specs.declared.symbol.Owner.TheVariants.{Station, Field}
use Rattle.formulas.specs.declared.symbol.Symbol.{Symbol}
use Rattle.formulas.specs.declared.symbol.Symbol.TheVariants.{Command, Procedure}
use Rattle.formulas.specs.Steps.{bind}
use Rattle.formulas.specs.Formulas.{impossible, neutral, both, either, shift, then}
use Rattle.formulas.specs.Symbols.{Entry, bodies, owner_of}

-- how many procedures there are
unfoldable pub procedures : ℕ
procedures = 32

-- a list of formulas by procedure; past its end a procedure is impossible
abbrev pub formula_at : List (List ℕ) → ℕ → List ℕ
formula_at L x = slice_index_or L x impossible

module _ (limit : ℕ) where
  -- two bodies of a procedure, combined as its owner chooses between them
  abbrev pub mixed : Owner → List ℕ → List ℕ → Option (List ℕ)
  mixed Station F G = both limit F G
  mixed Field F G = either limit F G

  -- the first body is combined with nothing
  abbrev pub mixed_with : Owner → Option (List ℕ) → List ℕ → Option (List ℕ)
  mixed_with o None G = Some G
  mixed_with o (Some F) G = mixed o F G

module _ (limit : ℕ) (t : Table) where
  -- shifted by the effect of a command; a command that the rule lacks leads nowhere
  abbrev pub shift_by : Option ℕ → List ℕ → Option (List ℕ)
  shift_by None F = Some impossible
  shift_by (Some e) F = shift limit t e F

  -- a symbol in front of what has the formula F, where the procedures have the formulas L
  abbrev pub in_front : List (List ℕ) → Symbol → List ℕ → Option (List ℕ)
  in_front L (Command c) F = shift_by (table_command t c) F
  in_front L (Procedure x) F = then limit t (formula_at L x) F

  -- the formula of a list of symbols, from the last symbol to the first
  abbrev pub body_formula : List (List ℕ) → List Symbol → Option (List ℕ)
  body_formula L [] = Some neutral
  body_formula L (s ∷ ss) = bind (body_formula L ss) (in_front L s)

  -- F combined with each body in order
  abbrev pub mixed_all : List (List ℕ) → Owner → List ℕ → List (List Symbol) → Option (List ℕ)
  mixed_all L o F [] = Some F
  mixed_all L o F (b ∷ bs) = bind (body_formula L b) (λ G. bind (mixed limit o F G) (λ H. mixed_all L o H bs))

  -- the first body is combined with nothing
  abbrev pub combined : List (List ℕ) → Owner → List (List Symbol) → Option (List ℕ)
  combined L o [] = Some impossible
  combined L o (b ∷ bs) = bind (body_formula L b) (λ F. mixed_all L o F bs)

  -- the same from between the bodies on, with what there is so far
  abbrev pub combined_on : List (List ℕ) → Owner → Option (List ℕ) → List (List Symbol) → Option (List ℕ)
  combined_on L o None bs = combined L o bs
  combined_on L o (Some F) bs = mixed_all L o F bs

  abbrev pub next_owned : List (List ℕ) → Option Owner → List (List Symbol) → Option (List ℕ)
  next_owned L None bs = Some impossible
  next_owned L (Some o) bs = combined L o bs

  -- the formula of x in the round after L
  abbrev pub next_formula : List Entry → List (List ℕ) → ℕ → Option (List ℕ)
  next_formula rs L x = next_owned L (owner_of rs x) (bodies rs x)

-- ---- a round: a formula for each procedure, by the formulas of the round before alone

abbrev pub with_first : ℕ → Option (List ℕ) → Result (List (List ℕ)) ℕ → Result (List (List ℕ)) ℕ
with_first x None r = Err x
with_first x (Some F) (Ok Fs) = Ok (F ∷ Fs)
with_first x (Some F) (Err y) = Err y

-- the formulas of the procedures xs one after the other, or the first procedure that has none
abbrev pub each_formula : (ℕ → Option (List ℕ)) → List ℕ → Result (List (List ℕ)) ℕ
each_formula f [] = Ok []
each_formula f (x ∷ xs) = with_first x (f x) (each_formula f xs)

abbrev pub first_round : List (List ℕ)
first_round = map (λ _. impossible) (range_with_len 0 procedures)

abbrev pub on_round : Result (List (List ℕ)) ℕ → (List (List ℕ) → Result (List (List ℕ)) ℕ) → Result (List (List ℕ)) ℕ
on_round (Ok L) f = f L
on_round (Err x) f = Err x

module _ (limit : ℕ) (rs : List Entry) (t : Table) where
  abbrev pub next_round : List (List ℕ) → Result (List (List ℕ)) ℕ
  next_round L = each_formula (next_formula limit t rs L) (range_with_len 0 procedures)

  -- round k, or the procedure at which a clause too many would have stood
  abbrev pub round : ℕ → Result (List (List ℕ)) ℕ
  round zero = Ok first_round
  round (suc k) = on_round (round k) next_round
