-- Numbers in decimal digits, with a space between them, can be told apart.
use Rattle.std.proofs.Common.{◌≡◌, ℕ, ◌^◌, ◌<◌, List, [], ◌∷◌, ◌++◌, drop, decimal, refl, ap, append_assoc, arith}
use Rattle.std.specs.Str.Parse.{AllDigits}
use Rattle.std.specs.Char.{digit_value}
use Rattle.std.proofs.lemmas.Fmt.{decimal_is_IsNumeral, decimal_injective}
use Rattle.text.specs.Lines.{refusal_line, LinesDiffer}

-- Digits end where a byte stands that is no digit.
split : (s : ℕ) (xs ys us vs : List ℕ) → (digit_value s < 10 → ⊥) → AllDigits 10 xs → AllDigits 10 ys → xs ++ s ∷ us ≡ ys ++ s ∷ vs → (xs ≡ ys) × (us ≡ vs)
split s [] [] us vs none p q e = (refl, cc)
split s [] (y ∷ ys) us vs none p q e = let same : y ≡ s = cc in absurd (none (rw same at q.0))
split s (x ∷ xs) [] us vs none p q e = let same : x ≡ s = cc in absurd (none (rw same at p.0))
split s (x ∷ xs) (y ∷ ys) us vs none p q e =
    let first : x ≡ y = cc in let rest : xs ++ s ∷ us ≡ ys ++ s ∷ vs = cc in
    let parts = split s xs ys us vs none p.1 q.1 rest in (cc, parts.1)

-- The numbers and the places of two equal lines are equal.
pub lines_differ : LinesDiffer
unfolding refusal_line
lines_differ n p m q n_fits p_fits m_fits q_fits e =
    let digits : (k : ℕ) → k < 2 ^ 32 → AllDigits 10 (decimal k) = λ k h. (decimal_is_IsNumeral k (omega arith)).0.1 in
    let numbers = split 32 (decimal n) (decimal m) _ _ (λ h. omega arith) (digits n n_fits) (digits m m_fits) (ap (drop 8) (simp append_assoc at e)) in
    let places = split 10 (decimal p) (decimal q) [] [] (λ h. omega arith) (digits p p_fits) (digits q q_fits) numbers.1 in
    (decimal_injective n m (omega arith) (omega arith) numbers.0, decimal_injective p q (omega arith) (omega arith) places.0)
