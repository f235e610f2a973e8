-- Bits that are packed into bytes, and back.
use Rattle.std.proofs.Common.{◌≡◌, ℕ, zero, suc, ◌+◌, ◌-◌, ◌*◌, ◌/◌, ◌^◌, ◌<◌, ◌≤◌, false, List, [], ◌∷◌, ◌++◌, length, get_or, take, drop, replicate, sym, refl, ap, ◌∙◌, ap₂, inl, inr, pow-suc, add-one, arith, pow_mono}
use Rattle.std.proofs.lemmas.List.{append_assoc, nil_from_length, replicate_more, replicate-append-replicate, length-append, length-replicate, get_or-replicate, length-take-le, length-drop, get_or_append_left, get_or-append_right, get_or_past, get_or-take, get_or-drop, take-append-drop, ext_get_or}
use Rattle.std.proofs.lemmas.Bool.{cases_lt, cases_eq, both_ways}
use Rattle.bits.specs.Fields.{field, bits_of, number}
use Rattle.bits.specs.Laws.{BytesHoldBits}
use Rattle.bits.specs.Bytes.{filled, packed, bytes_of}
use Rattle.bits.specs.Trailing.{whole, at_fault}
use Rattle.bits.proofs.Packing.{length-field, length-bits, get_or-field, number-field}
use Rattle.bits.proofs.Determining.{value_gives_bits, bits_give_bytes}
use Rattle.bits.proofs.Straying.{quiet, absent, set_bit, too_many}

-- each is 0 or 1
abbrev pub Bits : List ℕ → Type 0
Bits us = (i : ℕ) → get_or us i 0 < 2

-- each is below 256
abbrev pub Bytes : List ℕ → Type 0
Bytes bs = (i : ℕ) → get_or bs i 0 < 256

-- ---- zeros

pub length_zeros : (k : ℕ) → length (replicate {A = ℕ} k 0) ≡ k
length_zeros k = length-replicate k 0

pub get_or-zeros : (k i : ℕ) → get_or (replicate {A = ℕ} k 0) i 0 ≡ 0
get_or-zeros k i = elim (cases_lt i k) [
  | inl l ↦ get_or-replicate k i 0 0 l
  | inr l ↦ get_or_past (replicate k 0) i 0 (let q = length_zeros k in omega arith)
]

-- ---- which lists are bits

pub bits_append : (us vs : List ℕ) → Bits us → Bits vs → Bits (us ++ vs)
bits_append us vs h g i = elim (cases_lt i (length us)) [
  | inl l ↦ rw (get_or_append_left us vs 0 i l) (h i)
  | inr l ↦ rw (get_or-append_right us vs (length us) i 0 refl l) (g (i - length us))
]

pub bytes_append : (bs cs : List ℕ) → Bytes bs → Bytes cs → Bytes (bs ++ cs)
bytes_append bs cs h g i = elim (cases_lt i (length bs)) [
  | inl l ↦ rw (get_or_append_left bs cs 0 i l) (h i)
  | inr l ↦ rw (get_or-append_right bs cs (length bs) i 0 refl l) (g (i - length bs))
]

pub bytes_drop : (n : ℕ) (bs : List ℕ) → Bytes bs → Bytes (drop n bs)
bytes_drop n bs h i = rw (get_or-drop n bs i 0) (h (n + i))

pub bits_take : (n : ℕ) (us : List ℕ) → Bits us → Bits (take n us)
bits_take n us h i = elim (cases_lt i n) [
  | inl l ↦ rw (get_or-take n us i 0 l) (h i)
  | inr l ↦ let e = get_or_past (take n us) i 0 (let q = lib.ListN.length-take n us in omega arith) in omega arith
]

pub bits_drop : (n : ℕ) (us : List ℕ) → Bits us → Bits (drop n us)
bits_drop n us h i = rw (get_or-drop n us i 0) (h (n + i))

pub bits_zeros : (n : ℕ) → Bits (replicate n 0)
bits_zeros n i = let e = get_or-zeros n i in omega arith

pub bits_field : (w x : ℕ) → Bits (field w x)
bits_field w x i = elim (cases_lt i w) [
  | inl l ↦ let e = get_or-field w x i l in omega arith
  | inr l ↦ let e = get_or_past (field w x) i 0 (let q = length-field w x in omega arith) in omega arith
]

pub bits_bytes : (bs : List ℕ) → Bits (bits_of bs)
unfolding bits_of
bits_bytes [] i = omega arith
bits_bytes (b ∷ bs) i = bits_append (field 8 b) (bits_of bs) (bits_field 8 b) (bits_bytes bs) i

-- ---- bits of bytes that stand one after the other

pub bits_join : (bs cs : List ℕ) → bits_of (bs ++ cs) ≡ bits_of bs ++ bits_of cs
unfolding bits_of
bits_join [] cs = refl
bits_join (b ∷ bs) cs = ap (λ ys. field 8 b ++ ys) (bits_join bs cs) ∙ sym (append_assoc (field 8 b) (bits_of bs) (bits_of cs))

pub field_zeros : (k : ℕ) → field k 0 ≡ replicate k 0
unfolding field
field_zeros zero = refl
field_zeros (suc k) = ap (λ ys. ys ++ 0 ∷ []) (field_zeros k) ∙ replicate_more k 0 ∙ ap (λ n. replicate n 0) (add-one k)

pub bits_zero_bytes : (k : ℕ) → bits_of (replicate k 0) ≡ replicate (8 * k) 0
unfolding bits_of
bits_zero_bytes zero = refl
bits_zero_bytes (suc k) =
    ap₂ (λ xs ys. xs ++ ys) (field_zeros 8) (bits_zero_bytes k) ∙ replicate-append-replicate 8 (8 * k) 0 ∙ ap (λ n. replicate n 0) (omega arith)

-- ---- packing

pub number_small : (us : List ℕ) → Bits us → number us < 2 ^ length us
unfolding number
number_small [] h = omega arith
number_small (u ∷ us) h =
    let l = number_small us (λ i. h (suc i)) in
    let p = pow-suc 2 (length us) in
    let b = h 0 in
    elim (cases_lt u 1) [ inl z ↦ (let e : u ≡ 0 = omega arith in rw e (omega arith)) | inr o ↦ (let e : u ≡ 1 = omega arith in rw e (omega arith)) ]

pub length-packed : (k : ℕ) (us : List ℕ) → length (packed k us) ≡ k
unfolding packed
length-packed zero us = refl
length-packed (suc k) us = ap suc (length-packed k (drop 8 us))

pub packed_bits : (k : ℕ) (us : List ℕ) → length us ≡ 8 * k → Bits us → bits_of (packed k us) ≡ us
unfolding packed bits_of
packed_bits zero us e h = sym (nil_from_length us (omega arith))
packed_bits (suc k) us e h =
    let eight : length (take 8 us) ≡ 8 = length-take-le 8 us (omega arith) in
    let first : field 8 (number (take 8 us)) ≡ take 8 us = ap (λ n. field n (number (take 8 us))) (sym eight) ∙ value_gives_bits (take 8 us) (bits_take 8 us h) in
    let left = length-drop 8 us in
    ap₂ (λ xs ys. xs ++ ys) first (packed_bits k (drop 8 us) (omega arith) (bits_drop 8 us h)) ∙ take-append-drop 8 us

packed_small : (k : ℕ) (us : List ℕ) → Bits us → Bytes (packed k us)
unfolding packed
packed_small zero us h i = omega arith
packed_small (suc k) us h zero =
    let b = bits_take 8 us h in
    let l = number_small (take 8 us) b in
    let q = lib.ListN.length-take 8 us in
    let m : 2 ^ length (take 8 us) ≤ 2 ^ 8 = pow_mono {i = length (take 8 us)} {j = 8} (omega arith) in
    omega arith
packed_small (suc k) us h (suc i) = packed_small k (drop 8 us) (bits_drop 8 us h) i

pub length-filled : (us : List ℕ) → length (filled us) ≡ whole (length us)
unfolding filled
length-filled us = let a = length-append us (replicate (whole (length us) - length us) 0) in let b = length_zeros (whole (length us) - length us) in omega arith

pub bits_filled : (us : List ℕ) → Bits us → Bits (filled us)
unfolding filled
bits_filled us h = bits_append us (replicate (whole (length us) - length us) 0) h (bits_zeros (whole (length us) - length us))

-- the bytes of bits: how many, that they are bytes, and their bits
pub length-bytes : (us : List ℕ) → length (bytes_of us) ≡ (length us + 7) / 8
unfolding bytes_of
length-bytes us = length-packed ((length us + 7) / 8) (filled us)

pub small_bytes : (us : List ℕ) → Bits us → Bytes (bytes_of us)
unfolding bytes_of
small_bytes us h = packed_small ((length us + 7) / 8) (filled us) (bits_filled us h)

pub bytes_hold_bits : BytesHoldBits
unfolding bytes_of
bytes_hold_bits us h = packed_bits ((length us + 7) / 8) (filled us) (let l = length-filled us in omega arith) (bits_filled us h)

-- bytes with the bits us, filled, are the bytes of us
pub bytes_from_bits : (bs us : List ℕ) → Bytes bs → Bits us → bits_of bs ≡ filled us → bs ≡ bytes_of us
bytes_from_bits bs us b h e = bits_give_bytes bs (bytes_of us) b (small_bytes us h) (e ∙ sym (bytes_hold_bits us h))

-- bytes in which nothing is at fault from bit p on: up to there their bits are filled
pub none_at_fault : (bs : List ℕ) (p : ℕ) → p ≤ 8 * length bs → ((q : ℕ) → at_fault (bits_of bs) p q ≡ false) → bits_of bs ≡ filled (take p (bits_of bs))
unfolding filled
none_at_fault bs p room h =
    let us = bits_of bs in
    let len = length-bits bs in
    let front : length (take p us) ≡ p = length-take-le p us (omega arith) in
    let all : length us ≤ whole p = elim (cases_lt (whole p) (length us)) [ inl l ↦ absurd (both_ways (at_fault us p (whole p)) (h (whole p)) (too_many us p (whole p) (omega arith) l)) | inr g ↦ g ] in
    let zeros : drop p us ≡ replicate (whole p - p) 0 =
    ext_get_or 0 (drop p us) (replicate (whole p - p) 0) (let a = length-drop p us in let b = length_zeros (whole p - p) in omega arith)
    (λ i l. get_or-drop p us i 0 ∙ zero_bit us (p + i) (λ o. both_ways (at_fault us p (p + i)) (h (p + i)) (set_bit us p (p + i) (omega arith) o)) (bits_bytes bs (p + i))
    ∙ sym (get_or-zeros (whole p - p) i)) in
    sym (take-append-drop p us) ∙ ap (λ ys. take p us ++ ys) zeros ∙ ap (λ n. take p us ++ replicate (whole n - n) 0) (sym front)
  where
    zero_bit : (us : List ℕ) (q : ℕ) → (get_or us q 0 ≡ 1 → ⊥) → get_or us q 0 < 2 → get_or us q 0 ≡ 0
    zero_bit us q n l = elim (cases_eq (get_or us q 0) 1) [ inl e ↦ absurd (n e) | inr g ↦ omega arith ]

-- and the other way round
filling_zero : (xs : List ℕ) (q : ℕ) → length xs ≤ q → q < whole (length xs) → get_or (filled xs) q 0 ≡ 0
unfolding filled
filling_zero xs q h l = get_or-append_right xs (replicate (whole (length xs) - length xs) 0) (length xs) q 0 refl h ∙ get_or-zeros (whole (length xs) - length xs) (q - length xs)

pub filled_not_at_fault : (xs : List ℕ) (q : ℕ) → at_fault (filled xs) (length xs) q ≡ false
filled_not_at_fault xs q = elim (cases_lt q (whole (length xs))) [
  | inl l ↦ quiet (filled xs) (length xs) q (λ h o. let z = filling_zero xs q h l in absurd (omega arith)) l
  | inr g ↦ absent (filled xs) (length xs) q (let e = length-filled xs in omega arith)
]

-- the laws of fields
pub ruleset field_laws = (number-field, value_gives_bits, bits_give_bytes, bytes_hold_bits)
