-- One step after the other.
use Rattle.std.specs.Prelude.{Ok, Err, Option, Result}
use Rattle.std.specs.Option.{option_and_then}

-- the next step, where there is a value so far: the library's `option_and_then`, with the value first as steps are read
abbrev pub bind : {X Y : Type 0} → Option X → (X → Option Y) → Option Y
bind o f = option_and_then f o

abbrev pub bind_ok : {X Y E : Type 0} → Result X E → (X → Result Y E) → Result Y E
bind_ok (Ok x) f = f x
bind_ok (Err e) f = Err e
