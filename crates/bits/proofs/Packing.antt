-- Laws of fields, of the bits of bytes and of the number that bits write.
use Rattle.std.proofs.Common.{◌≡◌, ℕ, zero, suc, ◌+◌, ◌-◌, ◌*◌, ◌/◌, ◌%◌, ◌^◌, ◌<◌, ◌≤◌, ◌⊎◌, eqb, List, [], ◌∷◌, ◌++◌, length, get_or, sym, refl, ap, ◌∙◌, inl, inr, mul_assoc, pow-suc, div-one, add-one, arith}
use Rattle.std.proofs.lemmas.List.{length-append, length_push, length-drop, get_or_append_left, get_or-append_right, get_or_push, get_or_past}
use lib.Bits.{bit_and}
use Rattle.std.specs.Int.{from_bool}
use Rattle.std.proofs.lemmas.Nat.{shr-shr}
use Rattle.std.proofs.lemmas.Nat.Bits.{shr_and_one, bit_at-zero}
use Rattle.std.proofs.lemmas.Bool.{cases_lt}
use Rattle.bits.specs.Fields.{field, bits_of, number}

pub length-field : (w x : ℕ) → length (field w x) ≡ w
unfolding field
length-field zero x = refl
length-field (suc w) x = length_push (field w (x / 2)) (x % 2) ∙ ap (λ n. n + 1) (length-field w (x / 2)) ∙ add-one w

pub length-bits : (bs : List ℕ) → length (bits_of bs) ≡ 8 * length bs
unfolding bits_of
length-bits [] = refl
length-bits (b ∷ bs) = length-append (field 8 b) (bits_of bs) ∙ (let e = length-field 8 b in let h = length-bits bs in omega arith)

-- bit i of a field
pub get_or-field : (w x i : ℕ) → i < w → get_or (field w x) i 0 ≡ x / 2 ^ (w - 1 - i) % 2
unfolding field
get_or-field zero x i l = absurd (omega arith)
get_or-field (suc w) x i l = go (cases_lt i w) (get_or-field w (x / 2) i)
  where
    go : (i < w) ⊎ (w ≤ i) → (i < w → get_or (field w (x / 2)) i 0 ≡ x / 2 / 2 ^ (w - 1 - i) % 2)
        → get_or (field w (x / 2) ++ x % 2 ∷ []) i 0 ≡ x / 2 ^ (suc w - 1 - i) % 2
    go (inl h) rec =
        let len = length-field w (x / 2) in
        let e : suc w - 1 - i ≡ 1 + (w - 1 - i) = omega arith in
        get_or_append_left (field w (x / 2)) (x % 2 ∷ []) 0 i (omega arith)
        ∙ rec h ∙ ap (λ n. n % 2) (shr-shr x 1 (w - 1 - i)) ∙ ap (λ k. x / 2 ^ k % 2) (sym e)
    go (inr h) rec =
        let len = length-field w (x / 2) in
        let e : suc w - 1 - i ≡ 0 = omega arith in
        get_or_push (field w (x / 2)) (x % 2) 0 i (omega arith) ∙ (rw e (ap (λ n. n % 2) (sym (div-one x))))

-- bit p of bytes
pub get_or-bits : (bs : List ℕ) (p : ℕ) → get_or (bits_of bs) p 0 ≡ bit_and (get_or bs (p / 8) 0 / 2 ^ (7 - p % 8)) 1
unfolding bits_of
get_or-bits [] p = sym (shr_and_one 0 (7 - p % 8) ∙ bit_at-zero (7 - p % 8))
get_or-bits (b ∷ bs) p = elim (cases_lt p 8) [
  | inl h ↦
      let len = length-field 8 b in
      let q : p / 8 ≡ 0 = omega arith in
      let r : p % 8 ≡ p = omega arith in
      rw (q, r) (get_or_append_left (field 8 b) (bits_of bs) 0 p (omega arith) ∙ get_or-field 8 b p h ∙ sym (shr_and_one b (7 - p)))
  | inr h ↦
      let q : p / 8 ≡ suc ((p - 8) / 8) = omega arith in
      let r : p % 8 ≡ (p - 8) % 8 = omega arith in
      rw (q, r) (get_or-append_right (field 8 b) (bits_of bs) 8 p 0 (length-field 8 b) h ∙ get_or-bits bs (p - 8))
]

-- a bit is 1, or it is 0
pub from_bit : (b : ℕ) → b < 2 → from_bool (eqb b 1) ≡ b
from_bit zero l = refl
from_bit (suc zero) l = refl
from_bit (suc (suc b)) l = absurd (omega arith)

-- what stands at a place of the bits of bytes, and how many there are
pub ruleset bits_of_bytes = (get_or-bits, length-bits, get_or_past)

-- one more bit at the end of a field, by what it adds and by what it leaves
pub field_more : (w x b : ℕ) → b < 2 → field (w + 1) (x * 2 + b) ≡ field w x ++ b ∷ []
unfolding field
field_more w x b l =
    let d : (x * 2 + b) / 2 ≡ x = omega arith in
    let m : (x * 2 + b) % 2 ≡ b = omega arith in
    rw (add-one w) (rw (d, m))

pub field_last : (w x : ℕ) → field (w + 1) x ≡ field w (x / 2) ++ x % 2 ∷ []
unfolding field
field_last w x = rw (add-one w)

pub field_none : (x : ℕ) → field 0 x ≡ []
unfolding field
field_none x = refl

pub number_push : (xs : List ℕ) (b : ℕ) → number (xs ++ b ∷ []) ≡ number xs * 2 + b
unfolding number
number_push [] b = omega arith
number_push (x ∷ xs) b =
    let e : length (xs ++ b ∷ []) ≡ suc (length xs) = length-append xs (b ∷ []) ∙ add-one (length xs) in
    let a : x * 2 ^ suc (length xs) ≡ x * 2 ^ length xs * 2 = ap (λ y. x * y) (pow-suc 2 (length xs)) ∙ sym (mul_assoc x (2 ^ length xs) 2) in
    let h = number_push xs b in
    rw (e, a, h) (omega arith)

-- the number of a field's bits is what it holds
pub number-field : (w x : ℕ) → x < 2 ^ w → number (field w x) ≡ x
unfolding field number
number-field zero x l = omega arith
number-field (suc w) x l =
    let p = pow-suc 2 w in
    number_push (field w (x / 2)) (x % 2) ∙ (let h = number-field w (x / 2) (omega arith) in omega arith)
