-- Laws of `any_below`: a test that one of the numbers below a limit passes.
use Rattle.std.proofs.Common.{◌≡◌, ℕ, zero, suc, ◌+◌, ◌<◌, Bool, true, false, ◌||◌, refl, ap₂, inl, inr, add-one, arith}
use Rattle.std.proofs.lemmas.Bool.{cases_lt, both_ways, or_cases, or_parts, or_from}
use Rattle.graph.specs.Rules.{any_below}

pub any_none : (test : ℕ → Bool) → any_below test 0 ≡ false
unfolding any_below
any_none test = refl

pub any_more : (test : ℕ → Bool) (n : ℕ) → any_below test (n + 1) ≡ (any_below test n || test n)
unfolding any_below
any_more test n = rw (add-one n)

-- one passes, and which
pub any_which : (test : ℕ → Bool) (n : ℕ) → any_below test n ≡ true → (v : ℕ) × (v < n) × (test v ≡ true)
unfolding any_below
any_which test zero h = absurd (both_ways false refl h)
any_which test (suc n) h = elim (or_cases (any_below test n) (test n) h) [
  | inl a ↦ let w = any_which test n a in (w.0, omega (arith, w.1), w.2)
  | inr b ↦ (n, omega arith, b)
]

-- none passes
pub any_absent : (test : ℕ → Bool) (n : ℕ) → ((v : ℕ) → v < n → test v ≡ false) → any_below test n ≡ false
unfolding any_below
any_absent test zero h = refl
any_absent test (suc n) h = or_from (any_below test n) (test n) (any_absent test n (λ v l. h v (omega arith))) (h n (omega arith))

pub any_fails : (test : ℕ → Bool) (n v : ℕ) → any_below test n ≡ false → v < n → test v ≡ false
unfolding any_below
any_fails test zero v h l = absurd (omega arith)
any_fails test (suc n) v h l =
    let p = or_parts (any_below test n) (test n) h in
    elim (cases_lt v n) [ inl g ↦ any_fails test n v p.0 g | inr g ↦ let e : n ≡ v = omega arith in rw e at p.1 ]

-- tests that agree
pub any_same : (a b : ℕ → Bool) (n : ℕ) → ((v : ℕ) → v < n → a v ≡ b v) → any_below a n ≡ any_below b n
unfolding any_below
any_same a b zero h = refl
any_same a b (suc n) h = ap₂ (λ x y. x || y) (any_same a b n (λ v l. h v (omega arith))) (h n (omega arith))
