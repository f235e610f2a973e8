-- What may follow the last field.
use Rattle.std.specs.Prelude.{◌≡◌, ℕ, ◌+◌, ◌*◌, ◌/◌, ◌<◌, Bool, true, false, ◌&&◌, ◌||◌, List, length, Some, None, Option, ◌==◌, nat_le, nat_lt, slice_index}

-- The first multiple of 8 from p on: where the filling behind bit p ends.
abbrev pub whole : ℕ → ℕ
whole p = (p + 7) / 8 * 8

-- A bit from bit p on is at fault where it is set, or stands in a byte after the filling.
abbrev pub at_fault : List ℕ → ℕ → ℕ → Bool
at_fault us p q = (nat_le p q && nat_lt q (length us)) && (slice_index us q == 1 || nat_le (whole p) q)

-- q passes the test, and nothing before it does.
pub record FirstPassing (test : ℕ → Bool) (q : ℕ) : Type 0 where
  pub passes : test q ≡ true
  pub before : (p : ℕ) → p < q → test p ≡ false

-- The first number that passes the test, if one does.
abbrev pub First : (ℕ → Bool) → Option ℕ → Type 0
First test (Some q) = FirstPassing test q
First test None = (q : ℕ) → test q ≡ false
