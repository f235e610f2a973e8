-- Writing a field bit by bit: its start, its step and its end.
use Rattle.std.proofs.Common.{◌≡◌, ℕ, ◌+◌, ◌-◌, ◌*◌, ◌/◌, ◌%◌, ◌^◌, ◌<◌, ◌≤◌, eqb, List, [], ◌∷◌, ◌++◌, length, take, drop, set, sym, refl, ap, ◌∙◌, div-one, arith}
use lib.Bits.{bit_and}
use Rattle.std.specs.Int.{from_bool}
use Rattle.std.proofs.lemmas.Nat.{shr-shr, shr_split, mod_below, pow_pos, and_mask}
use Rattle.std.proofs.lemmas.List.{length-take-le, set-append_right, append_assoc, take-append-drop, take_at, drop_at, drop-drop, drop_more}
use Rattle.bits.specs.Fields.{field, number, cut, value_at}
use Rattle.bits.specs.Writing.{Wrote}
use Rattle.bits.proofs.Packing.{length-field, length-bits, field_none, field_last, number-field, from_bit}

-- the bits us, with the first k bits of a field of w bits that holds x at bit s
unfoldable pub placed : List ℕ → ℕ → ℕ → ℕ → ℕ → List ℕ
placed us s w x k = take s us ++ (field k (x / 2 ^ (w - k)) ++ drop (s + k) us)

pub placed_none : (us : List ℕ) (s w x : ℕ) → us ≡ placed us s w x 0
unfolding placed
placed_none us s w x =
    let e : s + 0 ≡ s = omega arith in
    sym (rw (field_none (x / 2 ^ (w - 0)), e) (take-append-drop s us))

-- one more bit of the field
pub placed_more : (us : List ℕ) (s w x k : ℕ) → k < w → s + w ≤ length us
    → set (placed us s w x k) (s + k) (from_bool (eqb (bit_and (x / 2 ^ (w - 1 - k)) 1) 1)) ≡ placed us s w x (k + 1)
unfolding placed
placed_more us s w x k l room =
    let b = x / 2 ^ (w - 1 - k) % 2 in
    let e : w - (k + 1) ≡ w - 1 - k = omega arith in
    let q : w - 1 - k + 1 ≡ w - k = omega arith in
    let z : s + k - s - k ≡ 0 = omega arith in
    let n : s + (k + 1) ≡ s + k + 1 = omega arith in
    let f = field k (x / 2 ^ (w - k)) in
    let last : field (k + 1) (x / 2 ^ (w - (k + 1))) ≡ f ++ b ∷ [] =
    rw e (field_last k (x / 2 ^ (w - 1 - k)) ∙ ap (λ y. field k y ++ b ∷ []) (shr-shr x (w - 1 - k) 1 ∙ ap (λ j. x / 2 ^ j) q)) in
    rw (and_mask (x / 2 ^ (w - 1 - k)) 1, from_bit b (mod_below (x / 2 ^ (w - 1 - k)) 2 (omega arith)))
    (set-append_right (take s us) (f ++ drop (s + k) us) s (s + k) b (length-take-le s us (omega arith)) (omega arith)
    ∙ ap (λ ys. take s us ++ ys) (
    set-append_right f (drop (s + k) us) k (s + k - s) b (length-field k (x / 2 ^ (w - k))) (omega arith)
    ∙ ap (λ ys. f ++ ys) (ap (λ ys. set ys (s + k - s - k) b) (drop_more us (s + k) 0 (omega arith)) ∙ rw (z, n) refl)
    ∙ sym (append_assoc f (b ∷ []) (drop (s + (k + 1)) us))
    ∙ ap (λ ys. ys ++ drop (s + (k + 1)) us) (sym last)))

-- all bits of the field
pub placed_all : (us vs : List ℕ) (s w x k : ℕ) → k ≡ w → s + w ≤ length us → x / 2 ^ w ≡ 0 → vs ≡ placed us s w x k → Wrote us s w x vs
unfolding placed value_at
placed_all us vs s w x k same room none e =
    let z : w - w ≡ 0 = omega arith in
    let small : x < 2 ^ w = let t : 0 * 2 ^ w + x % 2 ^ w ≡ x = rw none at (shr_split x w) in let l = mod_below x (2 ^ w) (pow_pos w) in omega arith in
    let front : length (take s us) ≡ s = length-take-le s us (omega arith) in
    let rest = field w x ++ drop (s + w) us in
    let is : vs ≡ take s us ++ rest = e ∙ rw (same, z, div-one x) in
    let cuts : cut vs s w ≡ field w x =
    ap (λ ys. cut ys s w) is ∙ ap (λ ys. take w ys) (drop_at (take s us) rest s front) ∙ take_at (field w x) (drop (s + w) us) w (length-field w x) in
    record {
      there = room;
      small = small;
      front = ap (λ ys. take s ys) is ∙ take_at (take s us) rest s front;
      same_bits = cuts;
      back = sym (drop-drop w s vs) ∙ ap (λ ys. drop w (drop s ys)) is ∙ ap (λ ys. drop w ys) (drop_at (take s us) rest s front)
          ∙ drop_at (field w x) (drop (s + w) us) w (length-field w x);
      reads_back = ap number cuts ∙ number-field w x small;
    }

-- the start and the steps of writing into the bits of bytes
pub ruleset placing = (placed_none, placed_more, length-bits)
