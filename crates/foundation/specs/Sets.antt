-- Sets of numbers. A set stands as the number whose bit k is set exactly for a member k, so `has s k` says that k is a member of s.
-- A width w gives the numbers below w a place. Nothing here fixes it.
use Rattle.std.specs.Prelude.{◌≡◌, ℕ, zero, suc, ◌+◌, ◌/◌, ◌%◌, ◌^◌, ◌<◌, Bool, true, false, if◌then◌else◌, List, [], ◌∷◌, map, ◌==◌, bit_and, bit_or, nat_lt}
use Rattle.foundation.specs.Bits.{has}
use Rattle.std.specs.List.{list_any}

-- s with n as one more member; a number that has no place leaves s as it is
abbrev pub added : ℕ → ℕ → ℕ → ℕ
added w s n = if nat_lt n w then bit_or s (2 ^ n) else s

-- whether each member of a is a member of b: what they share is all of a
abbrev pub within : ℕ → ℕ → Bool
within a b = bit_and a b == a

-- how many numbers below w are members of s. It does not unfold by itself, since a width that is written out would unfold it whole
unfoldable pub size : ℕ → ℕ → ℕ
size zero s = 0
size (suc w) s = (if has s w then 1 else 0) + size w s

-- n is the first member of s, the lowest one
pub record First (s n : ℕ) : Type 0 where
  pub member : has s n ≡ true
  pub least : (k : ℕ) → k < n → has s k ≡ false

-- ---- the members one by one

-- the members among the first n places, lowest first
unfoldable pub members_in : ℕ → ℕ → List ℕ
members_in zero s = []
members_in (suc n) zero = []
members_in (suc n) (suc s) = if suc s % 2 == 1 then 0 ∷ map suc (members_in n (suc s / 2)) else map suc (members_in n (suc s / 2))

-- the members of s, lowest first: none stands at or above the place s
unfoldable pub members : ℕ → List ℕ
members s = members_in s s

-- the set of the numbers in a list
abbrev pub gathered : List ℕ → ℕ
gathered [] = 0
gathered (k ∷ ks) = bit_or (2 ^ k) (gathered ks)

-- whether the set s has a member in A
abbrev pub hits : (ℕ → Bool) → ℕ → Bool
hits A s = list_any A (members s)
