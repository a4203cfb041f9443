-- A record as twelve bytes: the procedure, its owner, the length of the body, the body, and 255 up to the end.
use Rattle.std.specs.Prelude.{◌≡◌, ℕ, ◌+◌, ◌-◌, Bool, if◌then◌else◌, ◌&&◌, List, [], ◌∷◌, ◌++◌, map, length, take, drop, replicate, Some, None, Option, ◌==◌, nat_eq, nat_le, nat_lt, slice_index}
use Rattle.std.specs.Option.{option_map}
use Rattle.std.specs.List.{list_all}
use Rattle.formulas.specs.declared.symbol.Owner.{Owner}
use Rattle.formulas.specs.declared.symbol.Owner.TheVariants.{Station, Field}
use Rattle.formulas.specs.declared.symbol.Symbol.{Symbol}
use Rattle.formulas.specs.declared.symbol.Symbol.TheVariants.{Command, Procedure}
use Rattle.formulas.specs.Steps.{bind}
use Rattle.formulas.specs.Symbols.{Entry, InRange}

-- ---- in words: the bytes of a record

abbrev pub owner_byte : Owner → ℕ
owner_byte Station = 0
owner_byte Field = 1

-- a command is its own byte, a procedure comes after 32
abbrev pub symbol_byte : Symbol → ℕ
symbol_byte (Command c) = c
symbol_byte (Procedure x) = 32 + x

abbrev pub record_bytes : Entry → List ℕ
record_bytes r = r.procedure ∷ owner_byte r.owner ∷ length r.body ∷ (map symbol_byte r.body ++ replicate (9 - length r.body) 255)

-- bs is exactly the bytes of r, and everything in r is in range
pub record RecordForm (bs : List ℕ) (r : Entry) : Type 0 where
  pub range : InRange r
  pub bytes : bs ≡ record_bytes r

-- ---- by computing: the record that bytes say

abbrev pub symbol_in : ℕ → Option Symbol
symbol_in b =
    if nat_lt b 16 then Some (Command b)
    else if nat_le 32 b && nat_lt b 64 then Some (Procedure (b - 32))
    else None

abbrev pub owner_in : ℕ → Option Owner
owner_in b = if b == 0 then Some Station else if b == 1 then Some Field else None

-- a symbol for each byte; None where a byte is none
abbrev pub symbols_in : List ℕ → Option (List Symbol)
symbols_in [] = Some []
symbols_in (b ∷ bs) = bind (symbol_in b) (λ s. option_map (λ ss. s ∷ ss) (symbols_in bs))

abbrev pub body_bytes : List ℕ → List ℕ
body_bytes bs = take (slice_index bs 2) (drop 3 bs)

abbrev pub fill_bytes : List ℕ → List ℕ
fill_bytes bs = drop (3 + slice_index bs 2) bs

-- the length, the procedure, the length of the body and the bytes after it are as they should be
abbrev pub framed : List ℕ → Bool
framed bs = length bs == 12 && (nat_lt (slice_index bs 0) 32 && (nat_le (slice_index bs 2) 9 && list_all (λ b. nat_eq b 255) (fill_bytes bs)))

-- None where the bytes have another form
abbrev pub entry_in : List ℕ → Option Entry
entry_in bs =
    if framed bs
    then bind (owner_in (slice_index bs 1)) (λ o. option_map (λ ss. record { procedure = slice_index bs 0; owner = o; body = ss }) (symbols_in (body_bytes bs)))
    else None
