-- What the questions about a draft answer.
use Rattle.std.proofs.Common.{◌≡◌, ℕ, ◌-◌, ◌^◌, ◌<◌, ◌≤◌, Bool, true, false, not, ◌&&◌, ◌||◌, eqb, ltb, leb, ◌⊎◌, [], Some, None, sym, ◌∙◌, inl, inr, arith}
use Rattle.std.proofs.lemmas.Bool.{both_ways, and_left, not_from_true, cases_Bool}
use Rattle.std.proofs.lemmas.Bool.Decides.{nat_tests}
use Rattle.base.specs.declared.fault.Layer.TheVariants.{Graph as GraphLayer}
use Rattle.base.specs.JobSets.{has, size, Subset, Lowest}
use Rattle.base.specs.Refusal.{says}
use Rattle.base.specs.Questions.{ask, first_no}
use Rattle.base.proofs.Asking.{passed, failed, nothing_asked, asked_all, asked_stops}
use Rattle.base.proofs.Digits.{has_past}
use Rattle.graph.specs.Limits.{jobs_allowed, crews_allowed, layover_allowed, time_allowed}
use Rattle.graph.specs.Rules.{has_succ}
use Rattle.graph.specs.Making.{sizes_asked, reaches, preds_lawful, job_asked, succ_asked, succs_asked, AllBelow}
use Rattle.graph.proofs.Below.{any_fails, any_absent}

-- ---- questions 3, 4 and 5

module _ (n m d : ℕ) where
  pub sizes_in : jobs_allowed n ≡ true → crews_allowed m ≡ true → layover_allowed d ≡ true → first_no (sizes_asked n m d) ≡ None
  unfolding sizes_asked first_no
  sizes_in a b c = grind (arith, nat_tests)

-- ---- questions 6 and 7

-- no member from v up
pub reaches_not : (s v : ℕ) → AllBelow s v → reaches s v ≡ false
reaches_not s v h = any_absent _ 64 (λ u l. grind (arith, nat_tests, h u))

pub reaches_none : (s v : ℕ) → s < 2 ^ 64 → reaches s v ≡ false → AllBelow s v
reaches_none s v fits h u m = grind (arith, nat_tests, any_fails (λ w. leb v w && has s w) 64 u h, has_past s u 64 fits)

-- to lie in the set of the numbers below v is to have no member from v up
pub in_below : (s b v : ℕ) → ((u : ℕ) → has b u ≡ (ltb u v && ltb u 64)) → Subset s b → AllBelow s v
in_below s b v is sub u m = grind (arith, nat_tests, is u, sub u m)

pub not_in_below : (s b v : ℕ) → s < 2 ^ 64 → v < 64 → ((u : ℕ) → has b u ≡ (ltb u v && ltb u 64)) → (r : Bool) → (Subset s b → r ≡ true) → r ≡ false → reaches s v ≡ true
not_in_below s b v fits few is r d out = elim (cases_Bool (reaches s v)) [
  | inl t ↦ t
  | inr f ↦ absurd (both_ways r out (d (λ u m. grind (arith, nat_tests, is u, reaches_none s v fits f u m))))
]

module _ (t s v : ℕ) where
  pub job_in : time_allowed t ≡ true → preds_lawful s v ≡ true → first_no (job_asked t s v) ≡ None
  unfolding job_asked first_no
  job_in a b = grind (arith, nat_tests)

module _ (s v : ℕ) where
  pub out_of_below : s < 2 ^ 64 → v < 64 → (b : ℕ) → ((u : ℕ) → has b u ≡ (ltb u v && ltb u 64)) → (r : Bool) → (Subset s b → r ≡ true) → r ≡ false → r ≡ preds_lawful s v
  out_of_below fits few b is r d out =
      out ∙ sym (and_left (not (reaches s v)) (eqb v 0 || leb 1 (size s)) (not_from_true (reaches s v) (not_in_below s b v fits few is r d out)))

  -- where all are lower, it counts whether there are any
  pub by_size : AllBelow s v → preds_lawful s v ≡ (eqb v 0 || leb 1 (size s))
  by_size h = rw (reaches_not s v h)

  pub of_first : AllBelow s v → v ≡ 0 → eqb v 0 ≡ preds_lawful s v
  of_first h e = grind (arith, nat_tests, by_size h)

  pub of_other : AllBelow s v → (v ≡ 0 → ⊥) → (r : Bool) → r ≡ eqb (size s) 0 → not r ≡ preds_lawful s v
  of_other h n r is = grind (arith, nat_tests, by_size h)

  pub preds_in : AllBelow s v → (v ≡ 0) ⊎ (1 ≤ size s) → preds_lawful s v ≡ true
  preds_in h some = grind (arith, nat_tests, by_size h)

-- ---- question 8

pub all_succs : (pred : ℕ → ℕ → Bool) (n : ℕ) → ((u : ℕ) → u < n - 1 → has_succ pred n u ≡ true) → first_no (succs_asked pred n) ≡ None
all_succs pred n h = asked_all (succ_asked pred n) (n - 1) (λ u l. passed (ask (has_succ pred n u) (says 8 u GraphLayer)) [] (h u l) ∙ nothing_asked)

-- `others` are the jobs, but for the last, that have no successor
module _ (pred : ℕ → ℕ → Bool) (n others : ℕ) (is_rest : (u : ℕ) → has others u ≡ (ltb u (n - 1) && not (has_succ pred n u))) where
  with_succ : (u : ℕ) → u < n - 1 → has others u ≡ false → has_succ pred n u ≡ true
  with_succ u l e = grind (arith, nat_tests, is_rest u)

  follows : (u : ℕ) → has_succ pred n u ≡ true → first_no (succ_asked pred n u) ≡ None
  follows u e = passed (ask (has_succ pred n u) (says 8 u GraphLayer)) [] e ∙ nothing_asked

  pub no_succ : (u : ℕ) → Lowest others u → first_no (succs_asked pred n) ≡ Some (says 8 u GraphLayer)
  no_succ u low =
      let l : u < n - 1 = grind (arith, nat_tests, is_rest u, low.member) in
      asked_stops (succ_asked pred n) (n - 1) u (says 8 u GraphLayer) l (asked_all (succ_asked pred n) u (λ w h. follows w (with_succ w (omega arith) (low.first w h))))
      (failed (ask (has_succ pred n u) (says 8 u GraphLayer)) [] (grind (arith, nat_tests, is_rest u, low.member)))
