-- Laws of `members_below`: which numbers it lists, and how many.
use Rattle.std.proofs.Common.{◌≡◌, ℕ, zero, suc, ◌+◌, ◌*◌, ◌%◌, ◌^◌, ◌<◌, ◌≤◌, Bool, true, false, cond, not, ◌&&◌, ◌||◌, ◌==◌, eqb, ◌⊎◌, [], ◌∷◌, ◌++◌, length, get_or, sym, refl, ap, ◌∙◌, inl, inr, mod-eq_of_lt, one-add, ◌-◌, ◌≢◌, Decides, w64, arith}
use lib.Arith.{lt-one}
use lib.Bits.{bit_and, bit_or}
use lib.Count.{ones, ones_cat, ones-ones, count_trailing_zeros}
use Rattle.std.proofs.Math.Bool.{and-true}
use Rattle.std.proofs.lemmas.Nat.{mod-pow-add, mod_below, pow_pos, zero_from_ones}
use Rattle.std.proofs.lemmas.Nat.Bits.{same_from_bits, same_from_bits_below, bit_at-trailing_zeros}
use Rattle.std.proofs.lemmas.List.{length-append, get_or_append_left, get_or_push}
use Rattle.std.proofs.lemmas.Bool.{cases_lt, both_ways, eq-eqb, eqb-true, ne_eqb}
use Rattle.std.proofs.lemmas.Bool.Decides.{nat_tests}
use Rattle.base.specs.declared.job_set.JobSet.{JobSet}
use Rattle.base.specs.JobSets.{has, members_below, members, size, Empty, Lowest}
use Rattle.base.proofs.Digits.{digit, has-zero, has-pow, has-or, has-shl, has_cleared}

-- ---- the number is known from its members

pub same_members : (a b : ℕ) → a < 2 ^ 64 → b < 2 ^ 64 → ((u : ℕ) → u < 64 → has a u ≡ has b u) → a ≡ b
same_members a b p q h = same_from_bits_below 64 a b p q (λ u l. digit a u ∙ rw (h u l) (sym (digit b u)))

-- a set is kept as its word
abbrev set_of : ℕ → JobSet
set_of n = record { bits = n }

-- the same with no bound
pub same_set : (a b : ℕ) → ((u : ℕ) → has a u ≡ has b u) → a ≡ b
same_set a b h = same_from_bits a b (λ u. digit a u ∙ rw (h u) (sym (digit b u)))

-- and of sets
pub same_sets : (a b : JobSet) → ((u : ℕ) → has a.bits u ≡ has b.bits u) → a ≡ b
same_sets a b h = ap set_of (same_set a.bits b.bits h)

pub set_known : (a b : JobSet) → Decides (a.bits == b.bits) (a ≡ b)
set_known a b = ((λ e. ap set_of (eqb-true a.bits b.bits e)), (λ e. eq-eqb a.bits b.bits (ap (λ (s : JobSet). s.bits) e)))

pub bare_is_zero : (s : ℕ) → s < 2 ^ 64 → Empty s → s ≡ 0
bare_is_zero s p h = same_members s 0 p (omega arith) (λ u l. h u ∙ sym (has-zero u))

-- ---- the list

pub members_more : (s n : ℕ) (d : Bool) → has s n ≡ d → members_below s (suc n) ≡ members_below s n ++ cond d (n ∷ []) []
unfolding members_below
members_more s n d e = rw e

pub size_more : (s n : ℕ) → length (members_below s (suc n)) ≡ length (members_below s n) + cond (has s n) 1 0
size_more s n = go (has s n) refl
  where
    go : (d : Bool) → has s n ≡ d → length (members_below s (suc n)) ≡ length (members_below s n) + cond d 1 0
    go true e = rw (members_more s n true e) (length-append (members_below s n) (n ∷ []))
    go false e = rw (members_more s n false e) (length-append (members_below s n) [])

pub members_zero : (s : ℕ) → members_below s 0 ≡ []
unfolding members_below
members_zero s = refl

pub members_bare : (n s : ℕ) → ((u : ℕ) → u < n → has s u ≡ false) → members_below s n ≡ []
members_bare zero s h = members_zero s
members_bare (suc n) s h = members_more s n false (h n (omega arith)) ∙ rw (members_bare n s (λ u l. h u (omega arith)))

-- the lowest member stands first
pub members_lowest : (n v s t : ℕ) → v < n → has s v ≡ true → ((u : ℕ) → u < v → has s u ≡ false) → ((u : ℕ) → has t u ≡ (has s u && not (eqb u v))) → members_below s n ≡ v ∷ members_below t n
members_lowest zero v s t l m b h = absurd (omega arith)
members_lowest (suc n) v s t l m b h = elim (cases_lt v n) [ inl g ↦ later g (members_lowest n v s t g m b h) | inr g ↦ here (omega arith) ]
  where
    later : v < n → members_below s n ≡ v ∷ members_below t n → members_below s (suc n) ≡ v ∷ members_below t (suc n)
    later g i =
        let e : has t n ≡ has s n = h n ∙ rw (ne_eqb n v (λ q. omega arith)) (and-true (has s n)) in
        rw (members_more s n (has s n) refl, members_more t n (has s n) e, i)

    here : n ≡ v → members_below s (suc n) ≡ v ∷ members_below t (suc n)
    here e =
        let out : (u : ℕ) → u < suc n → has t u ≡ false = λ u g. h u ∙ grind (arith, nat_tests, b u) in
        rw (members_bare (suc n) t out, members_more s n true (rw e m), members_bare n s (λ u g. b u (omega arith)), e)

-- what stands in the list below n stands there in the next
at_front : (n s k : ℕ) → k < length (members_below s n) → get_or (members_below s (suc n)) k 0 ≡ get_or (members_below s n) k 0
at_front n s k l =
    rw (members_more s n (has s n) refl) (get_or_append_left (members_below s n) (cond (has s n) (n ∷ []) []) 0 k l)

-- n itself stands at the end
at_end : (n s : ℕ) → has s n ≡ true → (length (members_below s n) < length (members_below s (suc n))) × (get_or (members_below s (suc n)) (length (members_below s n)) 0 ≡ n)
at_end n s e =
    (grind (arith, size_more s n), rw (members_more s n true e) (get_or_push (members_below s n) n 0 (length (members_below s n)) refl))

-- a place in the list is one in the list before it, or the end of that
at_cases : (n s k : ℕ) → k < length (members_below s (suc n)) → (k < length (members_below s n)) ⊎ ((k ≡ length (members_below s n)) × (has s n ≡ true))
at_cases n s k l = grind (arith, size_more s n)

pub listed : (n s k : ℕ) → k < length (members_below s n) → (has s (get_or (members_below s n) k 0) ≡ true) × (get_or (members_below s n) k 0 < n)
listed zero s k l = absurd (omega (arith, ap length (members_zero s)))
listed (suc n) s k l = elim (at_cases n s k l) [
  | inl g ↦ let i = listed n s k g in (rw (at_front n s k g) i.0, omega (arith, at_front n s k g, i.1))
  | inr w ↦ rw (w.0, (at_end n s w.1).1) (w.1, omega arith)
]

pub ascending : (n s j k : ℕ) → j < k → k < length (members_below s n) → get_or (members_below s n) j 0 < get_or (members_below s n) k 0
ascending zero s j k h l = absurd (omega (arith, ap length (members_zero s)))
ascending (suc n) s j k h l = elim (at_cases n s k l) [
  | inl g ↦ rw (at_front n s k g, at_front n s j (omega arith)) (ascending n s j k h g)
  | inr w ↦ rw (w.0, (at_end n s w.1).1, at_front n s j (omega arith)) (listed n s j (omega arith)).1
]

-- each member stands where the list of those below it ends
pub place : (n v s : ℕ) → v < n → has s v ≡ true → (length (members_below s v) < length (members_below s n)) × (get_or (members_below s n) (length (members_below s v)) 0 ≡ v)
place zero v s l m = absurd (omega arith)
place (suc n) v s l m = elim (cases_lt v n) [
  | inl g ↦ let i = place n v s g m in (omega (arith, size_more s n, i.0), at_front n s (length (members_below s v)) i.0 ∙ i.1)
  | inr g ↦ let e : v ≡ n = omega arith in rw e (at_end n s (rw e at m))
]

pub bare_from_size : (n s : ℕ) → length (members_below s n) ≡ 0 → (u : ℕ) → u < n → has s u ≡ false
bare_from_size n s z u l = go (has s u) refl
  where
    go : (d : Bool) → has s u ≡ d → d ≡ false
    go true e = absurd (omega (arith, (place n u s l e).0))
    go false e = refl

-- ---- how many

pub size_within : (n s : ℕ) → length (members_below s n) ≤ n
size_within zero s = rw (members_zero s) (omega arith)
size_within (suc n) s = grind (arith, size_more s n, size_within n s)

pub size_of_zero : size 0 ≡ 0
size_of_zero = ap length (members_bare 64 0 (λ u l. has-zero u))

pub part_size : (n a b : ℕ) → ((u : ℕ) → u < n → has a u ≡ true → has b u ≡ true) → length (members_below a n) ≤ length (members_below b n)
part_size zero a b h = rw (members_zero a) (omega arith)
part_size (suc n) a b h =
    let l : length (members_below a n) ≤ length (members_below b n) = part_size n a b (λ u l. h u (omega arith)) in
    rw (size_more a n, size_more b n) (grind (arith, h n (omega arith)))

pub union_size : (n a b c : ℕ) → ((u : ℕ) → u < n → has a u ≡ true → has b u ≡ false) → ((u : ℕ) → u < n → has c u ≡ (has a u || has b u)) → length (members_below c n) ≡ length (members_below a n) + length (members_below b n)
union_size zero a b c p h = rw (members_zero a, members_zero b, members_zero c)
union_size (suc n) a b c p h =
    let l : length (members_below c n) ≡ length (members_below a n) + length (members_below b n) =
    union_size n a b c (λ u l. p u (omega arith)) (λ u l. h u (omega arith)) in
    rw (size_more a n, size_more b n, size_more c n, h n (omega arith)) (grind (arith, p n (omega arith)))

-- one number more
pub size_one_more : (n v s t : ℕ) → v < n → has s v ≡ false → ((u : ℕ) → has t u ≡ (has s u || eqb u v)) → length (members_below t n) ≡ length (members_below s n) + 1
size_one_more n v s t l m h =
    let one : members_below (2 ^ v) n ≡ v ∷ members_below 0 n =
    members_lowest n v (2 ^ v) 0 l (has-pow v v ∙ eq-eqb v v refl) (λ u g. has-pow v u ∙ ne_eqb u v (λ e. omega arith))
    (λ u. has-zero u ∙ rw has-pow (grind (arith, nat_tests))) in
    union_size n s (2 ^ v) t (λ u g i. has-pow v u ∙ ne_eqb u v (λ e. both_ways (has s u) (rw e m) i)) (λ u g. rw has-pow (h u))
    ∙ rw (one, members_bare n 0 (λ u g. has-zero u))

-- the lowest n + 1 digits are digit n and the lowest n
digits_more : (s n : ℕ) → s % 2 ^ suc n ≡ cond (has s n) 1 0 * 2 ^ n + s % 2 ^ n
digits_more s n = rw (← one-add n, mod-pow-add s 1 n, digit s n)

one_digit : (d : Bool) → ones (cond d 1 0) ≡ cond d 1 0
unfolding ones
one_digit true = refl
one_digit false = refl

pub ones_size : (n s : ℕ) → ones (s % 2 ^ n) ≡ length (members_below s n)
ones_size zero s = rw (members_zero s, lt-one (mod_below s 1 (omega arith))) (ones-ones 0)
ones_size (suc n) s =
    rw (digits_more s n, ones_cat n (cond (has s n) 1 0) (s % 2 ^ n) (mod_below s (2 ^ n) (pow_pos n)), ones_size n s, size_more s n, one_digit (has s n))
    (omega arith)

-- ---- what the bit operations do to the members

-- one digit is made 1
pub set_more : (s v : ℕ) → v < 64 → has s v ≡ false → size (bit_or s ((1 * 2 ^ v) % 2 ^ 64)) ≡ size s + 1
set_more s v l z = size_one_more 64 v s (bit_or s ((1 * 2 ^ v) % 2 ^ 64)) l z (λ u. has-or s ((1 * 2 ^ v) % 2 ^ 64) u ∙ rw (has-shl v u l))

-- one digit is made 0
pub cleared_fewer : (s v : ℕ) → v < 64 → s < 2 ^ 64 → has s v ≡ true → size s ≡ size (bit_and s (2 ^ 64 - 1 - (1 * 2 ^ v) % 2 ^ 64)) + 1
cleared_fewer s v l p m =
    size_one_more 64 v (bit_and s (2 ^ 64 - 1 - (1 * 2 ^ v) % 2 ^ 64)) s l (grind (arith, nat_tests, has_cleared s v v l p))
    (λ u. grind (arith, nat_tests, has_cleared s v u l p, m))

pub cleared_first : (s v : ℕ) → v < 64 → s < 2 ^ 64 → Lowest s v → members s ≡ v ∷ members (bit_and s (2 ^ 64 - 1 - (1 * 2 ^ v) % 2 ^ 64))
cleared_first s v l p w = members_lowest 64 v s _ l w.member w.first (λ u. has_cleared s v u l p)

-- as many zeros as stand below the lowest 1
pub lowest_found : (s : ℕ) → s < 2 ^ 64 → size s ≢ 0 → Lowest s (count_trailing_zeros 64 s)
unfolding has
lowest_found s p n =
    let some : 0 < s = grind (arith, size_of_zero, n) in
    let low = bit_at-trailing_zeros w64 s some p in
    let l = low.0 in
    record { within = omega arith; member = rw low.1; first = λ u g. rw (low.2 u g) }

-- as many members as digits that are 1
pub counted : (s : ℕ) → s < 2 ^ 64 → ones s ≡ size s
counted s p = let e : s % 2 ^ 64 ≡ s = mod-eq_of_lt p in rw e at (ones_size 64 s)

pub none_counted : (s : ℕ) → s < 2 ^ 64 → Decides (eqb (ones s) 0) (Empty s)
none_counted s p = (
  λ t. rw (zero_from_ones s (eqb-true (ones s) 0 t)) has-zero,
  λ b. eq-eqb (ones s) 0 (counted s p ∙ rw (bare_is_zero s p b) size_of_zero),
)

-- a set with no member lists none
pub none_listed : (s : ℕ) → Empty s → members s ≡ []
none_listed s b = members_bare 64 s (λ u l. b u)
