-- A draft about which all questions hold keeps the rules, and so does the smallest graph.
use Rattle.std.proofs.Common.{◌≡◌, ℕ, ◌+◌, ◌-◌, ◌<◌, ◌≤◌, Bool, true, false, cond, ltb, ◌⊎◌, List, ◌++◌, length, take, drop, get_or, set, replicate, None, sym, refl, ap, ◌∙◌, subst, inl, inr, arith}
use Rattle.std.proofs.lemmas.List.{get_or-set_other, length-append, length-take, length-drop, length-replicate, get_or_append_left, get_or-append_right, get_or-take, get_or-drop}
use Rattle.std.proofs.lemmas.Bool.{cases_lt, both_ways, lt-ltb, le-ltb}
use Rattle.std.proofs.lemmas.Bool.Decides.{nat_tests}
use Rattle.base.specs.declared.job_set.JobSet.{JobSet}
use Rattle.base.specs.JobSets.{has, size}
use Rattle.base.specs.Questions.{first_no}
use Rattle.base.proofs.Asking.{held, both_held, asked_held}
use Rattle.base.proofs.Digits.{has-zero}
use Rattle.base.proofs.Lists.{get_or_same}
use Rattle.graph.specs.declared.draft.Draft.{Draft}
use Rattle.graph.specs.Rules.{none, time_at, preds_at, precedes, has_succ, Lawful}
use Rattle.graph.specs.Making.{sizes_asked, job_asked, jobs_asked, succ_asked, succs_asked, making, LowerBelow, Cleared}
use Rattle.graph.proofs.Below.{any_same}

pub record Sizes (n m d : ℕ) : Type 0 where
  pub some_jobs : 1 ≤ n
  pub few_jobs : n ≤ 64
  pub some_crews : 1 ≤ m
  pub few_crews : m ≤ 16
  pub some_layover : 1 ≤ d
  pub short_layover : d ≤ 92160

pub sizes_kept : (n m d : ℕ) → first_no (sizes_asked n m d) ≡ None → Sizes n m d
unfolding sizes_asked first_no
sizes_kept n m d e = grind (arith, nat_tests)

pub job_kept : (t s v : ℕ) → first_no (job_asked t s v) ≡ None → ((1 ≤ t) × (t ≤ 1440)) × ((v ≡ 0) ⊎ (1 ≤ size s))
unfolding job_asked first_no
job_kept t s v e = grind (arith, nat_tests)

-- all questions about a draft, by their kind
pub kinds : (d : Draft) → first_no (making d) ≡ None → (first_no (sizes_asked d.jobs d.crews d.layover) ≡ None) × (first_no (jobs_asked d.times d.preds d.jobs) ≡ None) × (first_no (succs_asked (precedes d.preds) d.jobs) ≡ None)
unfolding making
kinds d e =
    let p = both_held (sizes_asked d.jobs d.crews d.layover) _ e in
    let q = both_held (jobs_asked d.times d.preds d.jobs) _ p.1 in
    (p.0, q.0, q.1)

module _ (d e : Draft) (all : first_no (making d) ≡ None) (low : LowerBelow d.preds d.jobs) (is : Cleared d e) where
  sizes : Sizes d.jobs d.crews d.layover
  sizes = sizes_kept d.jobs d.crews d.layover (kinds d all).0

  time_in : (v : ℕ) → v < d.jobs → time_at e.times v ≡ time_at d.times v
  time_in v l = grind (arith, nat_tests, is.times v)

  time_out : (v : ℕ) → d.jobs ≤ v → time_at e.times v ≡ 0
  time_out v l = grind (arith, nat_tests, is.times v)

  preds_in : (v : ℕ) → v < d.jobs → preds_at e.preds v ≡ preds_at d.preds v
  preds_in v l = grind (arith, nat_tests, is.preds v)

  preds_out : (v : ℕ) → d.jobs ≤ v → preds_at e.preds v ≡ 0
  preds_out v l = grind (arith, nat_tests, is.preds v)

  job : (v : ℕ) → v < d.jobs → ((1 ≤ time_at d.times v) × (time_at d.times v ≤ 1440)) × ((v ≡ 0) ⊎ (1 ≤ size (preds_at d.preds v)))
  job v l = job_kept (time_at d.times v) (preds_at d.preds v) v (asked_held _ d.jobs v (kinds d all).1 l)

  succ : (u : ℕ) → u + 1 < d.jobs → has_succ (precedes e.preds) d.jobs u ≡ true
  succ u l =
      any_same (λ v. precedes e.preds u v) (λ v. precedes d.preds u v) d.jobs (λ v h. ap (λ s. has s u) (preds_in v h))
      ∙ held _ _ (asked_held (succ_asked (precedes d.preds) d.jobs) (d.jobs - 1) u (kinds d all).2 (omega arith))

  low_all : (u v : ℕ) → precedes e.preds u v ≡ true → u < v
  low_all u v h = elim (cases_lt v d.jobs) [
    | inl l ↦ low v l u (ap (λ s. has s u) (sym (preds_in v l)) ∙ h)
    | inr g ↦ absurd (both_ways (has 0 u) (has-zero u) (ap (λ s. has s u) (sym (preds_out v g)) ∙ h))
  ]

  pub lawful : Lawful e.jobs e.crews e.layover e.times e.preds
  lawful =
      rw (is.jobs, is.crews, is.layover) record {
        all_times = is.all_times;
        all_preds = is.all_preds;
        some_jobs = sizes.some_jobs;
        few_jobs = sizes.few_jobs;
        some_crews = sizes.some_crews;
        few_crews = sizes.few_crews;
        some_layover = sizes.some_layover;
        short_layover = sizes.short_layover;
        timed = λ v l. rw (time_in v l) (job v l).0;
        untimed = time_out;
        lower = low_all;
        preceded = λ v a l. rw (preds_in v l) (elim (job v l).1 [ inl z ↦ absurd (omega arith) | inr h ↦ h ]);
        succeeded = succ;
        unpreceded = preds_out;
      }

-- ---- the front of a list, and nothing behind it

-- the set of the word 0
pub bare_none : (s : JobSet) → s.bits ≡ 0 → s ≡ none
bare_none s bare = ap (λ (n : ℕ). let x : JobSet = record { bits = n } in x) bare

module _ {A : Type 0} (nothing x : A) (same : x ≡ nothing) (xs front : List A) (n : ℕ) (is : front ≡ take n xs) (whole : length front ≡ length (take n (replicate 64 x))) (few : n ≤ 64) where
  long : length front ≡ n
  long = let a = length-take n (replicate 64 x) in let b = length-replicate 64 x in omega arith

  pub length_front : length (front ++ drop n (replicate 64 x)) ≡ 64
  length_front = let a = length-append front (drop n (replicate 64 x)) in let b = length-drop n (replicate 64 x) in let c = length-replicate 64 x in let l = long in omega arith

  pub read_front : (v : ℕ) → get_or (front ++ drop n (replicate 64 x)) v nothing ≡ cond (ltb v n) (get_or xs v nothing) nothing
  read_front v = elim (cases_lt v n) [
    | inl l ↦ rw (lt-ltb v n l) (get_or_append_left front _ nothing v (let e = long in omega arith) ∙ rw is (get_or-take n xs v nothing l))
    | inr l ↦ rw (le-ltb v n l) (get_or-append_right front _ n v nothing long l ∙ get_or-drop n (replicate 64 x) (v - n) nothing ∙ rw same (get_or_same 64 (n + (v - n)) nothing))
  ]

-- the same of sets, as numbers
pub preds_front : (s : JobSet) → s.bits ≡ 0 → (ps front : List JobSet) (n : ℕ) → front ≡ take n ps → length front ≡ length (take n (replicate 64 s)) → n ≤ 64
    → (v : ℕ) → preds_at (front ++ drop n (replicate 64 s)) v ≡ cond (ltb v n) (preds_at ps v) 0
preds_front s bare ps front n is whole few v =
    ap (λ (x : JobSet). x.bits) (read_front none s (bare_none s bare) ps front n is whole few v) ∙ go (ltb v n)
  where
    go : (b : Bool) → (cond b (get_or ps v none) none).bits ≡ cond b (preds_at ps v) 0
    go true = refl
    go false = refl

-- ---- a graph of one job

no_preds : (s : JobSet) → s.bits ≡ 0 → (v : ℕ) → preds_at (replicate 64 s) v ≡ 0
no_preds s bare v = let P : JobSet → Type 0 = λ x. preds_at (replicate 64 x) v ≡ 0 in subst P (sym (bare_none s bare)) (ap (λ (x : JobSet). x.bits) (get_or_same 64 v none))

pub single_lawful : (t : ℕ) → 1 ≤ t → t ≤ 1440 → (s : JobSet) → s.bits ≡ 0 → Lawful 1 1 1 (set (replicate 64 0) 0 t) (replicate 64 s)
single_lawful t low high s z = record {
  all_times = refl;
  all_preds = refl;
  some_jobs = omega arith;
  few_jobs = omega arith;
  some_crews = omega arith;
  few_crews = omega arith;
  some_layover = omega arith;
  short_layover = omega arith;
  timed = λ v l. let e : 0 ≡ v = omega arith in
      let P : ℕ → Type 0 = λ x. (1 ≤ get_or (set (replicate 64 0) 0 t) x 0) × (get_or (set (replicate 64 0) 0 t) x 0 ≤ 1440) in
      subst P e (low, high);
  untimed = λ v l. get_or-set_other (replicate 64 0) 0 v t 0 (λ e. omega arith) ∙ get_or_same 64 v 0;
  lower = λ u v h. absurd (both_ways (has 0 u) (has-zero u) (ap (λ x. has x u) (sym (no_preds s z v)) ∙ h));
  preceded = λ v a l. absurd (omega arith);
  succeeded = λ u l. absurd (omega arith);
  unpreceded = λ v l. no_preds s z v;
}
