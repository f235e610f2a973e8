-- What reading a field answers.
use Rattle.std.specs.Prelude.{◌≡◌, ℕ, ◌+◌, ◌^◌, ◌<◌, ◌≤◌, List, length, Some, None, Option}
use Rattle.bits.specs.Fields.{field, cut, value_at}

-- The w bits from bit p on are all there, and x is their number; so they are the bits of a field that holds x.
pub record Got (us : List ℕ) (p w x : ℕ) : Type 0 where
  pub there : p + w ≤ length us
  pub value : x ≡ value_at us p w
  pub small : x < 2 ^ w
  pub same_bits : cut us p w ≡ field w x

-- A field that is not there whole is not read.
abbrev pub Reads : List ℕ → ℕ → ℕ → Option ℕ → Type 0
Reads us p w (Some x) = Got us p w x
Reads us p w None = length us < p + w
