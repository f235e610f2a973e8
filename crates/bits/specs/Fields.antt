-- Bits, fields and bytes, most significant bit first.
use Rattle.std.specs.Prelude.{ℕ, zero, suc, ◌+◌, ◌*◌, ◌/◌, ◌%◌, ◌^◌, List, [], ◌∷◌, ◌++◌, length, take, drop}

-- The bits of a field of w bits that holds x: the last is x % 2, and before it stand those of x / 2.
unfoldable pub field : ℕ → ℕ → List ℕ
field zero x = []
field (suc w) x = field w (x / 2) ++ x % 2 ∷ []

-- The bits of bytes: eight for each, one byte after the other.
unfoldable pub bits_of : List ℕ → List ℕ
bits_of [] = []
bits_of (b ∷ bs) = field 8 b ++ bits_of bs

-- The number that bits write.
unfoldable pub number : List ℕ → ℕ
number [] = 0
number (b ∷ bs) = b * 2 ^ length bs + number bs

-- The w bits from bit p on.
abbrev pub cut : List ℕ → ℕ → ℕ → List ℕ
cut us p w = take w (drop p us)

-- The number that the w bits from bit p on write.
unfoldable pub value_at : List ℕ → ℕ → ℕ → ℕ
value_at us p w = number (cut us p w)
