-- Reading a field bit by bit, and as a number of some type.
use Rattle.std.proofs.Common.{◌≡◌, ℕ, zero, suc, ◌+◌, ◌*◌, ◌%◌, ◌^◌, ◌<◌, ◌≤◌, eqb, List, length, get_or, take, drop, fold, Some, None, Option, option_map, MatchOption, sym, refl, ap, ◌∙◌, add-one, mod-eq_of_lt, arith, pow_mono}
use lib.Bits.{bit_or}
use Rattle.std.proofs.lemmas.Nat.{or_shifted}
use Rattle.std.proofs.lemmas.List.{take_more, take_all, length-take-le, length-drop, get_or-drop}
use Rattle.std.proofs.lemmas.List.Sums.{fold_more}
use Rattle.std.proofs.lemmas.List.FromFn.{length-range_with_len, get_or-range_with_len}
use Rattle.std.specs.Int.{from_bool}
use Rattle.std.specs.List.{range_with_len}
use Rattle.bits.specs.Fields.{number, cut, value_at}
use Rattle.bits.specs.Reading.{Got, Reads}
use Rattle.bits.proofs.Packing.{number_push, from_bit}
use Rattle.bits.proofs.Determining.{value_gives_bits}
use Rattle.bits.proofs.Filling.{Bits, bits_take, bits_drop, number_small}

-- the bits of a field, and the number that they write
pub got : (us : List ℕ) (p w : ℕ) → Bits us → p + w ≤ length us → Got us p w (value_at us p w)
unfolding value_at
got us p w h l =
    let bits = bits_take w (drop p us) (bits_drop p us h) in
    let n : length (cut us p w) ≡ w = length-take-le w (drop p us) (let d = length-drop p us in omega arith) in
    record { there = l; value = refl; small = rw n at (number_small (cut us p w) bits); same_bits = sym (rw n at (value_gives_bits (cut us p w) bits)) }

-- one more bit
value_more : (us : List ℕ) (p k : ℕ) → p + k < length us → value_at us p (k + 1) ≡ value_at us p k * 2 + get_or us (p + k) 0
unfolding value_at
value_more us p k l =
    ap number (take_more (drop p us) k 0 (let d = length-drop p us in omega arith)) ∙ number_push (cut us p k) (get_or (drop p us) k 0)
    ∙ ap (λ b. number (cut us p k) * 2 + b) (get_or-drop p us k 0)

-- a number that takes in bit p of us
abbrev pub takes_in : List ℕ → ℕ → ℕ → ℕ
takes_in us x p = bit_or (x * 2 % 2 ^ 64) (from_bool (eqb (get_or us p 0) 1))

-- which makes it the number of one bit more
step : (us : List ℕ) → Bits us → (p k : ℕ) → p + k < length us → k < 63 → takes_in us (value_at us p k) (p + k) ≡ value_at us p (k + 1)
step us h p k l few =
    let x = value_at us p k in
    let small : x < 2 ^ k = (got us p k h (omega arith)).small in
    let most : 2 ^ k ≤ 2 ^ 62 = pow_mono {i = k} {j = 62} (omega arith) in
    let fits : x * 2 % 2 ^ 64 ≡ x * 2 = mod-eq_of_lt (omega arith) in
    rw (fits, from_bit (get_or us (p + k) 0) (h (p + k))) (or_shifted x 1 (get_or us (p + k) 0) (h (p + k)) ∙ sym (value_more us p k l))

-- taking in one bit after the other
pub taken_in : (us : List ℕ) → Bits us → (p w : ℕ) → p + w ≤ length us → w ≤ 63 → fold (takes_in us) 0 (range_with_len p w) ≡ value_at us p w
unfolding value_at number
taken_in us h p w l few = ap (λ ps. fold (takes_in us) 0 ps) (sym (take_all w (range_with_len p w) (let n = length-range_with_len p w in omega arith))) ∙ front w (omega arith)
  where
    front : (k : ℕ) → k ≤ w → fold (takes_in us) 0 (take k (range_with_len p w)) ≡ value_at us p k
    front zero m = refl
    front (suc k) m =
        let n = length-range_with_len p w in
        rw (← add-one k) (fold_more (takes_in us) 0 (range_with_len p w) k 0 (omega arith) ∙ ap (λ q. takes_in us (fold (takes_in us) 0 (take k (range_with_len p w))) q) (get_or-range_with_len p w k 0 (omega arith))
        ∙ ap (λ x. takes_in us x (p + k)) (front k (omega arith)) ∙ step us h p k (omega arith) (omega arith))

-- a number of a type that has it, where only one that is too large may be missing
pub read_as : {T : Type 0} (value_of : T → ℕ) (us : List ℕ) (p w most x : ℕ) (r : Option T) → w ≤ most → Got us p w x → MatchOption r (2 ^ most ≤ x) (λ y. value_of y ≡ x)
    → Reads us p w (option_map value_of r)
read_as value_of us p w most x None l g h = let m : 2 ^ w ≤ 2 ^ most = pow_mono {i = w} {j = most} l in let s = g.small in absurd (omega arith)
read_as value_of us p w most x (Some y) l g h = rw h g
