-- Where the fields of a job begin.
use Rattle.std.proofs.Common.{◌≡◌, ℕ, zero, suc, ◌+◌, ◌*◌, ◌/◌, ◌<◌, ◌≤◌, refl, inl, inr, mul-le-mul, arith}
use Rattle.std.proofs.lemmas.Bool.{cases_lt}
use Rattle.graph_card.specs.Layout.{start}

-- twice the bit, without a division
twice : (v : ℕ) → 2 * start v ≡ 66 + v * (v + 21)
unfolding start
twice zero = refl
twice (suc v) = let h = twice v in omega arith

pub start_is : (v : ℕ) → start v ≡ 33 + v * (v + 21) / 2
start_is v = let h = twice v in omega arith

pub start_range : (n : ℕ) → n ≤ 64 → (33 ≤ start n) × (start n ≤ 2753)
start_range n l =
    let e = start_is n in
    let small : n * (n + 21) ≤ 64 * 85 = mul-le-mul {n₁ = n} {m₁ = n + 21} {n₂ = 64} {m₂ = 85} (omega arith) (omega arith) in
    (omega arith, omega arith)

pub start_zero : start 0 ≡ 33
unfolding start
start_zero = refl

pub start_suc : (v : ℕ) → start (suc v) ≡ start v + (11 + v)
unfolding start
start_suc v = refl

-- the fields of a job end before those of a later one begin
pub start_mono : (v n : ℕ) → v < n → start v + (11 + v) ≤ start n
start_mono v zero l = absurd (omega arith)
start_mono v (suc n) l = elim (cases_lt v n) [
  | inl h ↦ let r = start_mono v n h in let s = start_suc n in omega arith
  | inr h ↦ let e : v ≡ n = omega arith in let s = start_suc n in rw e (omega arith)
]
