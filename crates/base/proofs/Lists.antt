-- A list of one value, and the same value past its end.
use Rattle.std.proofs.Common.{◌≡◌, ℕ, zero, suc, get_or, replicate, refl}

pub get_or_same : {A : Type 0} (n i : ℕ) (d : A) → get_or (replicate n d) i d ≡ d
get_or_same zero i d = refl
get_or_same (suc n) zero d = refl
get_or_same (suc n) (suc i) d = get_or_same n i d
