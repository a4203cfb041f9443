-- Numbers by their binary digits, for any width.
use Rattle.std.specs.Prelude.{ℕ, zero, suc, ◌+◌, ◌*◌, ◌/◌, ◌%◌, ◌^◌, Bool, false, if◌then◌else◌, ◌||◌, ◌==◌}

-- whether bit k of n is set
abbrev pub has : ℕ → ℕ → Bool
has n k = n / 2 ^ k % 2 == 1

-- whether some number below n passes
unfoldable pub some_below : ℕ → (ℕ → Bool) → Bool
some_below zero f = false
some_below (suc n) f = f n || some_below n f

-- the number below 2 ^ n whose bit k is set exactly where f k
abbrev pub number : (ℕ → Bool) → ℕ → ℕ
number f zero = 0
number f (suc n) = (if f n then 1 else 0) * 2 ^ n + number f n
