-- The lines of text that the library writes, as lists of bytes.
use Rattle.std.specs.Prelude.{◌≡◌, ℕ, ◌^◌, ◌<◌, List, ◌++◌, codes, decimal}

-- The line of a refusal: the word refused, the number, the place, single spaces, a line feed.
unfoldable pub refusal_line : ℕ → ℕ → List ℕ
refusal_line number place = codes "refused " ++ decimal number ++ codes " " ++ decimal place ++ codes "\n"

-- The first line of a plan's sheet: how many jobs and crews.
unfoldable pub first_line : ℕ → ℕ → List ℕ
first_line jobs crews = codes "plan " ++ decimal jobs ++ codes " jobs " ++ decimal crews ++ codes " crews\n"

-- Equal lines have equal numbers and equal places: refusals that differ in either have different lines.
abbrev pub LinesDiffer : Type 0
LinesDiffer = (n p m q : ℕ) → n < 2 ^ 32 → p < 2 ^ 32 → m < 2 ^ 32 → q < 2 ^ 32 → refusal_line n p ≡ refusal_line m q → (n ≡ m) × (p ≡ q)
