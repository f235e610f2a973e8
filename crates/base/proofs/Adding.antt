-- Adding one number after the other to a set.
use Rattle.std.proofs.Common.{◌≡◌, ℕ, zero, suc, ◌+◌, ◌^◌, ◌≤◌, Bool, true, false, cond, ◌&&◌, ◌||◌, eqb, leb, ltb, List, [], ◌∷◌, fold, refl, sym, ap, ◌∙◌, arith}
use lib.Bits.{bit_or}
use Rattle.std.specs.List.{filter, list_any, range_with_len}
use Rattle.std.proofs.Math.Bool.{or-false}
use Rattle.std.proofs.lemmas.Map.Views.{any-filter_same}
use Rattle.std.proofs.lemmas.Bool.{eqb-true}
use Rattle.std.proofs.lemmas.Bool.Decides.{nat_tests}
use Rattle.base.specs.declared.job_set.JobSet.{JobSet}
use Rattle.base.specs.JobSets.{has}
use Rattle.base.proofs.Digits.{has-zero, has-or, has-pow}
use Rattle.base.proofs.Members.{same_sets}

-- the set s and the number v, where v is below 64
abbrev pub added : JobSet → ℕ → JobSet
added s v = record { bits = bit_or s.bits (cond (ltb v 64) (2 ^ v) 0) }

one_more : (v u : ℕ) → has (cond (ltb v 64) (2 ^ v) 0) u ≡ (eqb u v && ltb u 64)
one_more v u = go (ltb v 64) refl
  where
    go : (b : Bool) → ltb v 64 ≡ b → has (cond b (2 ^ v) 0) u ≡ (eqb u v && ltb u 64)
    go true e = has-pow v u ∙ grind (arith, nat_tests)
    go false e = has-zero u ∙ grind (arith, nat_tests)

has-added : (s : JobSet) (v u : ℕ) → has (added s v).bits u ≡ (has s.bits u || (eqb u v && ltb u 64))
has-added s v u = has-or s.bits (cond (ltb v 64) (2 ^ v) 0) u ∙ ap (λ b. has s.bits u || b) (one_more v u)

-- a set with just these members is that set
pub added_is : (s : JobSet) (v : ℕ) (t : JobSet) → ((u : ℕ) → has t.bits u ≡ (has s.bits u || (eqb u v && ltb u 64))) → t ≡ added s v
added_is s v t h = same_sets t (added s v) (λ u. h u ∙ sym (has-added s v u))

-- the numbers of a list, added one after the other
pub has-fold_added : (vs : List ℕ) (s : JobSet) (u : ℕ) → has (fold added s vs).bits u ≡ (has s.bits u || (list_any (λ v. eqb u v) vs && ltb u 64))
has-fold_added [] s u = sym (or-false (has s.bits u))
has-fold_added (v ∷ vs) s u =
    has-fold_added vs (added s v) u ∙ ap (λ b. b || (list_any (λ w. eqb u w) vs && ltb u 64)) (has-added s v u)
    ∙ go (has s.bits u) (eqb u v) (list_any (λ w. eqb u w) vs) (ltb u 64)
  where
    go : (a b c d : Bool) → ((a || (b && d)) || (c && d)) ≡ (a || ((b || c) && d))
    go a b c d = grind (arith, nat_tests)

-- the numbers from a on, n of them
any-range : (n a u : ℕ) → list_any (λ v. eqb u v) (range_with_len a n) ≡ (leb a u && ltb u (a + n))
any-range zero a u = grind (arith, nat_tests)
any-range (suc n) a u = ap (λ b. eqb u a || b) (any-range n (a + 1) u) ∙ grind (arith, nat_tests)

-- those of the numbers below n that pass a test, added one after the other to the empty set
pub has-fold_filtered : (test : ℕ → Bool) (n u : ℕ) (s : JobSet) → s.bits ≡ 0 → n ≤ 64 → has (fold added s (filter test (range_with_len 0 n))).bits u ≡ (ltb u n && test u)
has-fold_filtered test n u s bare few =
    has-fold_added (filter test (range_with_len 0 n)) s u
    ∙ ap (λ b. has s.bits u || (b && ltb u 64)) (any-filter_same (λ v. eqb u v) test (test u) (λ v e. ap test (sym (eqb-true u v e))) (range_with_len 0 n) ∙ ap (λ b. test u && b) (any-range n 0 u))
    ∙ ap (λ b. b || ((test u && (leb 0 u && ltb u (0 + n))) && ltb u 64)) (ap (λ n. has n u) bare ∙ has-zero u) ∙ go (test u)
  where
    go : (b : Bool) → (false || ((b && (leb 0 u && ltb u (0 + n))) && ltb u 64)) ≡ (ltb u n && b)
    go b = grind (arith, nat_tests)
