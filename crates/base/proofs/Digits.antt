-- Laws of `has`: the members of the sets that bit operations make. A member is a digit that is 1, as std's laws of `bit_at` speak of it.
use Rattle.std.specs.Int.{bit_at}
use Rattle.std.proofs.Common.{◌≡◌, ℕ, ◌-◌, ◌*◌, ◌%◌, ◌^◌, ◌<◌, ◌≤◌, true, false, cond, not, ◌&&◌, ◌||◌, eqb, ltb, inl, inr, ◌∙◌, w64, arith}
use lib.Bits.{bit_and, bit_or}
use Rattle.std.proofs.lemmas.Nat.{one_shl}
use Rattle.std.proofs.lemmas.Nat.Bits.{bit_at-lt, bit_at-pow_same, bit_at-pow_other, bit_at_above, bit_at_and, bit_at_or, bit_at_not, bit_at_ones, bit_at_ones_above}
use Rattle.std.proofs.lemmas.Bool.{cases_lt, cases_eq}
use Rattle.std.proofs.lemmas.Bool.Decides.{nat_tests}
use Rattle.base.specs.JobSets.{has}

pub has_past : (s u n : ℕ) → s < 2 ^ n → n ≤ u → has s u ≡ false
unfolding has
has_past s u n l h = rw (bit_at_above s n u l h)

pub has-zero : (u : ℕ) → has 0 u ≡ false
has-zero u = has_past 0 u 0 (omega arith) (omega arith)

-- a member is below 64
pub has_below : (s u : ℕ) → s < 2 ^ 64 → has s u ≡ true → u < 64
has_below s u l h = grind (arith, has_past s u 64 l)

pub digit : (s u : ℕ) → bit_at s u ≡ cond (has s u) 1 0
unfolding has
digit s u = grind (arith, nat_tests, bit_at-lt s u)

-- ---- one number, and every number below another

pub has-pow : (v u : ℕ) → has (2 ^ v) u ≡ eqb u v
unfolding has
has-pow v u = elim (cases_eq u v) [
  | inl e ↦ rw (e, bit_at-pow_same v) (grind (arith, nat_tests))
  | inr n ↦ rw (bit_at-pow_other v u n) (grind (arith, nat_tests))
]

-- `1 << v` at 64 bits
pub has-shl : (v u : ℕ) → v < 64 → has ((1 * 2 ^ v) % 2 ^ 64) u ≡ eqb u v
has-shl v u l = rw (one_shl v 64 l) (has-pow v u)

pub has_ones : (n u : ℕ) → has (2 ^ n - 1) u ≡ ltb u n
unfolding has
has_ones n u = elim (cases_lt u n) [
  | inl l ↦ rw (bit_at_ones n u l) (grind (arith, nat_tests))
  | inr g ↦ rw (bit_at_ones_above n u g) (grind (arith, nat_tests))
]

-- `(1 << n) - 1` at 64 bits, and `u64::MAX`
pub has_low : (n u : ℕ) → n < 64 → has ((1 * 2 ^ n) % 2 ^ 64 - 1) u ≡ ltb u n
has_low n u l = rw (one_shl n 64 l) (has_ones n u)

pub has_all : (n u : ℕ) → n ≡ 64 → has (2 ^ 64 - 1) u ≡ ltb u n
has_all n u e = rw e (has_ones 64 u)

-- ---- bit operations

pub has-and : (a b u : ℕ) → has (bit_and a b) u ≡ (has a u && has b u)
unfolding has
has-and a b u = grind (arith, nat_tests, bit_at_and a b u, bit_at-lt a u, bit_at-lt b u)

pub has-or : (a b u : ℕ) → has (bit_or a b) u ≡ (has a u || has b u)
unfolding has
has-or a b u = grind (arith, nat_tests, bit_at_or a b u, bit_at-lt a u, bit_at-lt b u)

-- `!b` at 64 bits
pub has-not : (b u : ℕ) → b < 2 ^ 64 → u < 64 → has (2 ^ 64 - 1 - b) u ≡ not (has b u)
unfolding has
has-not b u l h = grind (arith, nat_tests, bit_at_not w64 b u l h, bit_at-lt b u)

-- `a & !b`
pub has_without : (a b u : ℕ) → a < 2 ^ 64 → b < 2 ^ 64 → has (bit_and a (2 ^ 64 - 1 - b)) u ≡ (has a u && not (has b u))
has_without a b u p q =
    has-and a (2 ^ 64 - 1 - b) u ∙ elim (cases_lt u 64) [ inl l ↦ rw (has-not b u q l) | inr g ↦ rw (has_past a u 64 p g) ]

-- `s & !(1 << v)`
pub has_cleared : (s v u : ℕ) → v < 64 → s < 2 ^ 64 → has (bit_and s (2 ^ 64 - 1 - (1 * 2 ^ v) % 2 ^ 64)) u ≡ (has s u && not (eqb u v))
has_cleared s v u l p = has_without s ((1 * 2 ^ v) % 2 ^ 64) u p (omega arith) ∙ rw (has-shl v u l)

-- the laws of digits, for `grind`
pub ruleset digits = (nat_tests, has_past, has-zero, has_below, has-shl, has_low, has_all, has-and, has-or, has_without, has_cleared)
