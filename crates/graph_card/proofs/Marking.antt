-- Predecessor fields: their bits, and the numbers that they write.
use Rattle.std.proofs.Common.{◌≡◌, ℕ, zero, suc, ◌+◌, ◌-◌, ◌/◌, ◌%◌, ◌^◌, ◌<◌, ◌≤◌, Bool, true, false, cond, ◌&&◌, eqb, ltb, [], ◌∷◌, ◌++◌, length, get_or, take, fold, sym, refl, ap, ◌∙◌, inl, inr, add-one, arith}
use lib.Bits.{bit_and}
use Rattle.std.proofs.lemmas.Nat.{and_mask, pow_pos}
use Rattle.std.proofs.lemmas.List.{length_push, get_or_append_left, get_or_push, get_or_past, take_all, take-append-le, ext_get_or}
use Rattle.std.proofs.lemmas.Bool.{cases_lt, cases_Bool, lt-ltb}
use Rattle.base.specs.JobSets.{has, size}
use Rattle.base.proofs.Digits.{has-zero}
use Rattle.base.proofs.Members.{bare_from_size}
use Rattle.std.specs.List.{range_with_len}
use Rattle.bits.specs.Fields.{field, number}
use Rattle.bits.proofs.Reading.{got, takes_in, taken_in}
use Rattle.bits.proofs.Packing.{length-field, get_or-field, number-field}
use Rattle.graph_card.specs.Layout.{marks}

pub marks_none : (s : ℕ) → marks s 0 ≡ []
unfolding marks
marks_none s = refl

pub length-marks : (s v : ℕ) → length (marks s v) ≡ v
unfolding marks
length-marks s zero = refl
length-marks s (suc v) = length_push (marks s v) (cond (has s v) 1 0) ∙ ap (λ n. n + 1) (length-marks s v) ∙ add-one v

pub get_or-marks : (s v u : ℕ) → u < v → get_or (marks s v) u 0 ≡ cond (has s u) 1 0
unfolding marks
get_or-marks s zero u l = absurd (omega arith)
get_or-marks s (suc v) u l = elim (cases_lt u v) [
  | inl h ↦ get_or_append_left (marks s v) (cond (has s v) 1 0 ∷ []) 0 u (let e = length-marks s v in omega arith) ∙ get_or-marks s v u h
  | inr h ↦ let e : v ≡ u = omega arith in get_or_push (marks s v) (cond (has s v) 1 0) 0 u (length-marks s v ∙ e) ∙ ap (λ k. cond (has s k) 1 0) e
]

pub marks_same : (s t v : ℕ) → ((u : ℕ) → u < v → has s u ≡ has t u) → marks s v ≡ marks t v
unfolding marks
marks_same s t zero h = refl
marks_same s t (suc v) h =
    ap (λ ys. ys ++ cond (has s v) 1 0 ∷ []) (marks_same s t v (λ u l. h u (omega arith))) ∙ ap (λ b. marks t v ++ cond b 1 0 ∷ []) (h v (omega arith))

pub marks_small : (s v u : ℕ) → get_or (marks s v) u 0 < 2
marks_small s v u = elim (cases_lt u v) [
  | inl l ↦ rw (get_or-marks s v u l) (go (has s u))
  | inr l ↦ let e = get_or_past (marks s v) u 0 (let q = length-marks s v in omega arith) in omega arith
]
  where
    go : (b : Bool) → cond {A = ℕ} b 1 0 < 2
    go true = omega arith
    go false = omega arith

-- ---- from the set to the number, bit by bit

-- the marks of the first jobs
pub marks_front : (s v n : ℕ) → v ≤ n → take v (marks s n) ≡ marks s v
unfolding marks
marks_front s zero zero l = refl
marks_front s (suc v) zero l = absurd (omega arith)
marks_front s v (suc n) l = elim (cases_lt n v) [
  | inl h ↦ let e : v ≡ suc n = omega arith in rw e (take_all (suc n) (marks s (suc n)) (omega (arith, length-marks s (suc n))))
  | inr h ↦ take-append-le v (marks s n) (cond (has s n) 1 0 ∷ []) (omega (arith, length-marks s n)) ∙ marks_front s v n h
]

-- a mark, as a test
pub mark_bit : (b : Bool) → eqb (cond b 1 0) 1 ≡ b
mark_bit true = refl
mark_bit false = refl

-- a mark is the bit that the set holds
pub mark_is : (s u : ℕ) → (has s u ≡ true → u ≤ 63) → eqb (get_or (marks s 64) u 0) 1 ≡ has s u
mark_is s u few = elim (cases_lt u 64) [
  | inl l ↦ rw (get_or-marks s 64 u l) (mark_bit (has s u))
  | inr l ↦ rw (get_or_past (marks s 64) u 0 (omega (arith, length-marks s 64))) (elim (cases_Bool (has s u)) [ inl t ↦ absurd (let q = few t in omega arith) | inr f ↦ sym f ])
]

-- taking in one mark after the other
pub numbered : (s v : ℕ) → v ≤ 63 → (field v (fold (takes_in (marks s 64)) 0 (range_with_len 0 v)) ≡ marks s v) × (fold (takes_in (marks s 64)) 0 (range_with_len 0 v) < 2 ^ v)
numbered s v few =
    let long = length-marks s 64 in
    let g = got (marks s 64) 0 v (marks_small s 64) (omega arith) in
    rw (taken_in (marks s 64) (marks_small s 64) 0 v (omega arith) few) (sym g.same_bits ∙ marks_front s v 64 (omega arith), g.small)

-- ---- from the number to the set

-- a set has just those of the first v jobs that a field of v bits marks, which holds x
pub marks_field : (x v s : ℕ) → ((j : ℕ) → has s j ≡ (ltb j v && eqb (bit_and (x / 2 ^ (v - 1 - j)) 1) 1)) → field v x ≡ marks s v
marks_field x v s h =
    ext_get_or 0 (field v x) (marks s v) (length-field v x ∙ sym (length-marks s v)) (λ i l.
    let few : i < v = omega (arith, length-field v x) in
    let e : has s i ≡ eqb (x / 2 ^ (v - 1 - i) % 2) 1 = rw (h i, lt-ltb i v few, and_mask (x / 2 ^ (v - 1 - i)) 1) refl in
    rw (get_or-field v x i few, get_or-marks s v i few, e) (go (x / 2 ^ (v - 1 - i) % 2) (omega arith)))
  where
    go : (b : ℕ) → b < 2 → b ≡ cond (eqb b 1) 1 0
    go zero l = refl
    go (suc zero) l = refl
    go (suc (suc b)) l = absurd (omega arith)

-- a number from 1 up marks a job
pub marks_zero : (n : ℕ) → marks 0 n ≡ field n 0
unfolding marks field
marks_zero zero = refl
marks_zero (suc n) = ap (λ ys. ys ++ cond (has 0 n) 1 0 ∷ []) (marks_zero n) ∙ ap (λ d. field n 0 ++ cond d 1 0 ∷ []) (has-zero n)

pub marks_some : (x v s : ℕ) → field v x ≡ marks s v → x < 2 ^ v → v ≤ 64 → 1 ≤ x → 1 ≤ size s
marks_some x v s e small few l = elim (cases_lt (size s) 1) [
  | inl z ↦ absurd (
      let none : (u : ℕ) → u < v → has s u ≡ false = λ u m. bare_from_size 64 s (omega arith) u (omega arith) in
      let zero_is : field v x ≡ field v 0 = e ∙ marks_same s 0 v (λ u m. none u m ∙ sym (has-zero u)) ∙ marks_zero v in
      let q : x ≡ 0 = sym (number-field v x small) ∙ ap number zero_is ∙ number-field v 0 (pow_pos v) in
      omega arith)
  | inr g ↦ g
]
