-- Sets of job numbers, and their laws.
use Rattle.std.specs.Prelude.{◌≡◌, ℕ, zero, suc, ◌+◌, ◌/◌, ◌%◌, ◌^◌, ◌<◌, ◌≤◌, Bool, true, false, cond, ◌&&◌, ◌||◌, List, [], ◌∷◌, ◌++◌, length, Option, MatchOption, ◌==◌, nat_lt, slice_index}
use Rattle.std.specs.List.{list_any}

-- A set of the numbers 0 to 63 is kept as one number: v is a member where bit v, counted from the lowest, is 1.
unfoldable pub has : ℕ → ℕ → Bool
has s v = s / 2 ^ v % 2 == 1

-- The members below v, in ascending sequence.
unfoldable pub members_below : ℕ → ℕ → List ℕ
members_below s zero = []
members_below s (suc v) = members_below s v ++ cond (has s v) (v ∷ []) []

-- All members, in ascending sequence.
abbrev pub members : ℕ → List ℕ
members s = members_below s 64

-- How many members there are.
abbrev pub size : ℕ → ℕ
size s = length (members s)

-- There is no member.
abbrev pub Empty : ℕ → Type 0
Empty s = (u : ℕ) → has s u ≡ false

-- Every member of a is one of b.
abbrev pub Subset : ℕ → ℕ → Type 0
Subset a b = (u : ℕ) → has a u ≡ true → has b u ≡ true

-- No member of a is one of b.
abbrev pub Disjoint : ℕ → ℕ → Type 0
Disjoint a b = (u : ℕ) → has a u ≡ true → has b u ≡ false

-- v is the lowest member.
pub record Lowest (s v : ℕ) : Type 0 where
  pub within : v ≤ 63
  pub member : has s v ≡ true
  pub first : (u : ℕ) → u < v → has s u ≡ false

-- The members of s are the numbers of the list that are below 64.
abbrev pub IsSetOf : List ℕ → ℕ → Type 0
IsSetOf jobs s = (u : ℕ) → has s u ≡ (list_any (λ j. u == j) jobs && nat_lt u 64)

-- The lowest member is taken out, if there is one: `before` and `after` are the sets then and now.
abbrev pub TakesLowest : ℕ → Option ℕ → ℕ → Type 0
TakesLowest before r after = MatchOption r ((members before ≡ []) × (after ≡ before)) (λ v. members before ≡ v ∷ members after)

-- One call of an iterator over members, of which `before` were to come and then `after` are: the next one, or none where none was left.
abbrev pub GivesNext : List ℕ → Option ℕ → List ℕ → Type 0
GivesNext before r after = MatchOption r ((before ≡ []) × (after ≡ before)) (λ v. before ≡ v ∷ after)

-- Two sets with the same members are the same number.
abbrev pub SameMembers : Type 0
SameMembers = (a b : ℕ) → a < 2 ^ 64 → b < 2 ^ 64 → ((u : ℕ) → u < 64 → has a u ≡ has b u) → a ≡ b

-- The list of the members ascends.
abbrev pub Ascending : Type 0
Ascending = (s j k : ℕ) → j < k → k < size s → slice_index (members s) j < slice_index (members s) k

-- What stands in the list of the members is a member, and is at most 63.
abbrev pub Listed : Type 0
Listed = (s k : ℕ) → k < size s → (has s (slice_index (members s) k) ≡ true) × (slice_index (members s) k ≤ 63)

-- Each member stands in the list.
abbrev pub Complete : Type 0
Complete = (s v : ℕ) → s < 2 ^ 64 → has s v ≡ true → (k : ℕ) × (k < size s) × (slice_index (members s) k ≡ v)

-- There are at most 64 members.
abbrev pub SizeWithin : Type 0
SizeWithin = (s : ℕ) → size s ≤ 64

-- A part of a set has no more members than the set.
abbrev pub SubsetSize : Type 0
SubsetSize = (a b : ℕ) → Subset a b → size a ≤ size b

-- A set whose members are those of two sets that are apart has as many as both together.
abbrev pub UnionSize : Type 0
UnionSize = (a b c : ℕ) → Disjoint a b → ((u : ℕ) → has c u ≡ (has a u || has b u)) → size c ≡ size a + size b
