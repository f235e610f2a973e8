-- What writing a field does.
use Rattle.std.specs.Prelude.{◌≡◌, ℕ, ◌+◌, ◌^◌, ◌<◌, ◌≤◌, Bool, true, false, ◌&&◌, List, length, take, drop, nat_le, nat_lt}
use Rattle.bits.specs.Fields.{field, bits_of, cut, value_at}

-- The w bits from bit p on are all there, and now are those of a field that holds x, which reads back; the bits on both sides are as they were.
pub record Wrote (us : List ℕ) (p w x : ℕ) (vs : List ℕ) : Type 0 where
  pub there : p + w ≤ length us
  pub small : x < 2 ^ w
  pub front : take p vs ≡ take p us
  pub same_bits : cut vs p w ≡ field w x
  pub back : drop (p + w) vs ≡ drop (p + w) us
  pub reads_back : value_at vs p w ≡ x

-- The bits are not all there, or x has more than w bits: nothing was written.
pub record Misfit (old : List ℕ) (p w x : ℕ) (new : List ℕ) : Type 0 where
  pub unfit : (nat_le (p + w) (length (bits_of old)) && nat_lt x (2 ^ w)) ≡ false
  pub kept : new ≡ old

-- What writing x into the w bits from bit p on answers, and what the bytes then are.
abbrev pub WritesField : List ℕ → ℕ → ℕ → ℕ → Bool → List ℕ → Type 0
WritesField old p w x true new = Wrote (bits_of old) p w x (bits_of new)
WritesField old p w x false new = Misfit old p w x new
