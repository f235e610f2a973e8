-- Which bits after the last field are at fault.
use Rattle.std.proofs.Common.{◌≡◌, ◌≢◌, ℕ, ◌*◌, ◌<◌, ◌≤◌, true, false, ◌&&◌, ◌||◌, eqb, ltb, leb, ◌⊎◌, List, length, get_or, Some, None, Option, MatchOption, inl, inr, arith}
use Rattle.std.proofs.lemmas.List.{get_or_past}
use Rattle.std.proofs.lemmas.Bool.{cases_lt, and_from, and_left, and_right, or_from, or_left, or_right, le-leb, lt-leb, lt-ltb, le-ltb, eq-eqb, ne_eqb}
use Rattle.std.specs.Bool.{then_some}
use Rattle.std.specs.Option.{option_or}
use Rattle.bits.specs.Fields.{bits_of}
use Rattle.bits.specs.Trailing.{whole, at_fault, First}
use Rattle.bits.proofs.Packing.{length-bits}

module _ (us : List ℕ) (p q : ℕ) where
  -- a bit of the filling that is not set, or what stands before it
  pub quiet : (p ≤ q → get_or us q 0 ≢ 1) → q < whole p → at_fault us p q ≡ false
  quiet unset l = go (cases_lt q p)
    where
      go : (q < p) ⊎ (p ≤ q) → at_fault us p q ≡ false
      go (inl h) = and_left (leb p q && ltb q (length us)) _ (and_left (leb p q) _ (lt-leb p q h))
      go (inr h) =
          and_right (leb p q && ltb q (length us)) (eqb (get_or us q 0) 1 || leb (whole p) q) (or_from (eqb (get_or us q 0) 1) (leb (whole p) q) (ne_eqb (get_or us q 0) 1 (unset h)) (lt-leb (whole p) q l))

  -- what is not there
  pub absent : length us ≤ q → at_fault us p q ≡ false
  absent h = and_left (leb p q && ltb q (length us)) _ (and_right (leb p q) (ltb q (length us)) (le-ltb q (length us) h))

  -- a bit of the filling that is set
  pub set_bit : p ≤ q → get_or us q 0 ≡ 1 → at_fault us p q ≡ true
  set_bit h one = go (cases_lt q (length us))
    where
      go : (q < length us) ⊎ (length us ≤ q) → at_fault us p q ≡ true
      go (inl l) =
          and_from (leb p q && ltb q (length us)) (eqb (get_or us q 0) 1 || leb (whole p) q) (and_from (leb p q) (ltb q (length us)) (le-leb p q h) (lt-ltb q (length us) l))
          (or_left (eqb (get_or us q 0) 1) (leb (whole p) q) (eq-eqb (get_or us q 0) 1 one))
      go (inr l) = let z = get_or_past us q 0 l in absurd (omega arith)

  -- a bit of a byte too many
  pub too_many : whole p ≤ q → q < length us → at_fault us p q ≡ true
  too_many h l =
      and_from (leb p q && ltb q (length us)) (eqb (get_or us q 0) 1 || leb (whole p) q) (and_from (leb p q) (ltb q (length us)) (le-leb p q (omega arith)) (lt-ltb q (length us) l))
      (or_right (eqb (get_or us q 0) 1) (leb (whole p) q) (le-leb (whole p) q h))

-- the first bit at fault is one of the filling that is set, or the first of a byte too many
pub first : (bs : List ℕ) (p n a b : ℕ) (r : Option ℕ)
    → MatchOption r ((k : ℕ) → a ≤ k → k < b → get_or (bits_of bs) k 0 ≢ 1) (λ i. (a ≤ i) × (i < b) × (get_or (bits_of bs) i 0 ≡ 1) × ((k : ℕ) → a ≤ k → k < i → get_or (bits_of bs) k 0 ≢ 1))
    → a ≡ p → b ≡ n * 8 → n * 8 ≡ whole p → First (at_fault (bits_of bs) p) (option_or r (then_some (ltb n (length bs)) (n * 8)))
first bs p n a b (Some i) h start end all = record { passes = set_bit (bits_of bs) p i (omega arith) h.2; before = λ q l. quiet (bits_of bs) p q (λ m. h.3 q (omega arith) l) (omega arith) }
first bs p n a b None h start end all =
    let len = length-bits bs in
    elim (cases_lt n (length bs)) [
      | inl l ↦ rw (lt-ltb n (length bs) l) record { passes = too_many (bits_of bs) p (n * 8) (omega arith) (omega arith); before = λ q m. quiet (bits_of bs) p q (λ k. h q (omega arith) (omega arith)) (omega arith) }
      | inr g ↦ rw (le-ltb n (length bs) g) (λ q. elim (cases_lt q (n * 8)) [ inl l ↦ quiet (bits_of bs) p q (λ k. h q (omega arith) (omega arith)) (omega arith) | inr m ↦ absent (bits_of bs) p q (omega arith) ])
    ]
