-- Setting a bit of a byte sets one bit in the list of bits, and no other.
use Rattle.std.proofs.Common.{◌≡◌, ◌≢◌, ℕ, zero, suc, ◌+◌, ◌-◌, ◌*◌, ◌/◌, ◌%◌, ◌^◌, ◌<◌, List, [], ◌∷◌, ◌++◌, length, get_or, set, sym, ap, ◌∙◌, inl, inr, w8, arith}
use lib.Bits.{bit_and, bit_or}
use Rattle.std.specs.Int.{bit_at}
use Rattle.std.proofs.lemmas.Nat.Bits.{bit_at_set_same, bit_at_set_other, bit_at_clear_same, bit_at_clear_other}
use Rattle.std.proofs.lemmas.List.{ext_get_or, length-set, get_or-set_same, get_or-set_other, set-append_left, set-append_right}
use Rattle.std.proofs.lemmas.Bool.{cases_eq}
use Rattle.bits.specs.Fields.{field, bits_of}
use Rattle.bits.proofs.Packing.{length-field, length-bits, get_or-field}

-- a byte that differs from another in bit j, from the front, at most
field_set : (a y j b : ℕ) → j < 8 → bit_at y (7 - j) ≡ b → ((i : ℕ) → i < 8 → i ≢ 7 - j → bit_at y i ≡ bit_at a i) → field 8 y ≡ set (field 8 a) j b
field_set a y j b l here others =
    ext_get_or 0 (field 8 y) (set (field 8 a) j b) (length-field 8 y ∙ sym (length-set (field 8 a) j b ∙ length-field 8 a)) (λ i h. at i (let len = length-field 8 y in omega arith))
  where
    at : (i : ℕ) → i < 8 → get_or (field 8 y) i 0 ≡ get_or (set (field 8 a) j b) i 0
    at i h = elim (cases_eq i j) [
      | inl e ↦ get_or-field 8 y i h ∙ rw e (here ∙ sym (get_or-set_same (field 8 a) j b 0 (let len = length-field 8 a in omega arith)))
      | inr n ↦ get_or-field 8 y i h ∙ others (7 - i) (omega arith) (λ e. n (omega arith)) ∙ sym (get_or-set_other (field 8 a) j i b 0 n ∙ get_or-field 8 a i h)
    ]

-- the same for bit j of byte i, in the bits of all bytes
bits_set : (bs : List ℕ) (i j y b : ℕ) → i < length bs → j < 8 → field 8 y ≡ set (field 8 (get_or bs i 0)) j b → bits_of (set bs i y) ≡ set (bits_of bs) (8 * i + j) b
unfolding bits_of
bits_set [] i j y b l h e = absurd (omega arith)
bits_set (x ∷ xs) zero j y b l h e =
    let len = length-field 8 x in
    ap (λ us. us ++ bits_of xs) e ∙ sym (set-append_left (field 8 x) (bits_of xs) j b (omega arith)) ∙ ap (λ p. set (field 8 x ++ bits_of xs) p b) (omega arith)
bits_set (x ∷ xs) (suc i) j y b l h e =
    ap (λ us. field 8 x ++ us) (bits_set xs i j y b (omega arith) h e ∙ ap (λ p. set (bits_of xs) p b) (omega arith))
    ∙ sym (set-append_right (field 8 x) (bits_of xs) 8 (8 * suc i + j) b (length-field 8 x) (omega arith))

-- a byte y in place of the one with bit p, which differs from it there at most
byte_set : (bs : List ℕ) (p y b : ℕ) → p < length (bits_of bs) → bit_at y (7 - p % 8) ≡ b → ((i : ℕ) → i < 8 → i ≢ 7 - p % 8 → bit_at y i ≡ bit_at (get_or bs (p / 8) 0) i)
    → bits_of (set bs (p / 8) y) ≡ set (bits_of bs) p b
byte_set bs p y b l here others =
    let len = length-bits bs in
    bits_set bs (p / 8) (p % 8) y b (omega arith) (omega arith) (field_set (get_or bs (p / 8) 0) y (p % 8) b (omega arith) here others)
    ∙ ap (λ q. set (bits_of bs) q b) (omega arith)

-- the same by a mask of one bit, which sets it or clears it
pub set_by_mask : (bs : List ℕ) (p : ℕ) → p < length (bits_of bs) → bits_of (set bs (p / 8) (bit_or (get_or bs (p / 8) 0) (1 * 2 ^ (7 - p % 8) % 256))) ≡ set (bits_of bs) p 1
set_by_mask bs p l =
    let a = get_or bs (p / 8) 0 in
    let k = 7 - p % 8 in
    byte_set bs p _ 1 l (bit_at_set_same w8 a k (omega arith)) (λ i m n. bit_at_set_other w8 a k (omega arith) i n)

pub cleared_by_mask : (bs : List ℕ) (p : ℕ) → p < length (bits_of bs) → bits_of (set bs (p / 8) (bit_and (get_or bs (p / 8) 0) (255 - 1 * 2 ^ (7 - p % 8) % 256))) ≡ set (bits_of bs) p 0
cleared_by_mask bs p l =
    let a = get_or bs (p / 8) 0 in
    let k = 7 - p % 8 in
    byte_set bs p _ 0 l (bit_at_clear_same w8 a k (omega arith)) (λ i m n. bit_at_clear_other w8 a k (omega arith) i m n)

-- what setting a bit does, and how many bits there are
pub ruleset setting = (set_by_mask, cleared_by_mask, length-bits)
