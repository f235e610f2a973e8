-- Bits that are packed into bytes, with zeros up to a whole byte.
use Rattle.std.specs.Prelude.{ℕ, zero, suc, ◌+◌, ◌-◌, ◌/◌, List, [], ◌∷◌, ◌++◌, length, take, drop, replicate}
use Rattle.bits.specs.Fields.{number}
use Rattle.bits.specs.Trailing.{whole}

-- Bits, and the zeros that fill the last byte.
unfoldable pub filled : List ℕ → List ℕ
filled us = us ++ replicate (whole (length us) - length us) 0

-- The first k bytes of bits, eight bits to each.
unfoldable pub packed : ℕ → List ℕ → List ℕ
packed zero us = []
packed (suc k) us = number (take 8 us) ∷ packed k (drop 8 us)

-- The bytes of bits, the last one filled with zeros.
unfoldable pub bytes_of : List ℕ → List ℕ
bytes_of us = packed ((length us + 7) / 8) (filled us)
