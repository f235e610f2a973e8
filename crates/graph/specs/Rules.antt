-- The rules of a work graph, over its parts: how many jobs, and the lists of their times and predecessors by job number.
use Rattle.std.specs.Prelude.{◌≡◌, ℕ, zero, suc, ◌+◌, ◌<◌, ◌≤◌, Bool, true, false, ◌||◌, List, length, slice_index, slice_index_or}
use Rattle.base.specs.JobSets.{has, size}
use Rattle.base.specs.declared.job_set.JobSet.{JobSet}

-- The set with no member.
abbrev pub none : JobSet
none = record { bits = 0 }

-- The longest time of job v, and 0 where there is no such job.
abbrev pub time_at : List ℕ → ℕ → ℕ
time_at ts v = slice_index ts v

-- The predecessors of job v, and none where there is no such job.
abbrev pub preds_at : List JobSet → ℕ → ℕ
preds_at ps v = (slice_index_or ps v none).bits

-- Is u a predecessor of v?
abbrev pub precedes : List JobSet → ℕ → ℕ → Bool
precedes ps u v = has (preds_at ps v) u

-- Does one of the numbers below n pass the test?
unfoldable pub any_below : (ℕ → Bool) → ℕ → Bool
any_below test zero = false
any_below test (suc n) = any_below test n || test n

-- Has job u a successor among the n jobs, where `pred` tells what is a predecessor of what?
abbrev pub has_succ : (ℕ → ℕ → Bool) → ℕ → ℕ → Bool
has_succ pred n u = any_below (λ v. pred u v) n

-- Each of the n jobs lasts 1 to 1,440 minutes, and there are no others.
abbrev pub Timed : ℕ → List ℕ → Type 0
Timed n ts = (v : ℕ) → v < n → (1 ≤ time_at ts v) × (time_at ts v ≤ 1440)

abbrev pub Untimed : ℕ → List ℕ → Type 0
Untimed n ts = (v : ℕ) → n ≤ v → time_at ts v ≡ 0

-- A predecessor has a lower number. So job 0 has none.
abbrev pub Lower : List JobSet → Type 0
Lower ps = (u v : ℕ) → precedes ps u v ≡ true → u < v

-- Every other job has one, and there are no other jobs.
abbrev pub Preceded : ℕ → List JobSet → Type 0
Preceded n ps = (v : ℕ) → 1 ≤ v → v < n → 1 ≤ size (preds_at ps v)

abbrev pub Unpreceded : ℕ → List JobSet → Type 0
Unpreceded n ps = (v : ℕ) → n ≤ v → preds_at ps v ≡ 0

-- Every job but the last has a successor.
abbrev pub Succeeded : ℕ → List JobSet → Type 0
Succeeded n ps = (u : ℕ) → u + 1 < n → has_succ (precedes ps) n u ≡ true

-- All rules together.
pub record Lawful (n m d : ℕ) (ts : List ℕ) (ps : List JobSet) : Type 0 where
  pub all_times : length ts ≡ 64
  pub all_preds : length ps ≡ 64
  pub some_jobs : 1 ≤ n
  pub few_jobs : n ≤ 64
  pub some_crews : 1 ≤ m
  pub few_crews : m ≤ 16
  pub some_layover : 1 ≤ d
  pub short_layover : d ≤ 92160
  pub timed : Timed n ts
  pub untimed : Untimed n ts
  pub lower : Lower ps
  pub preceded : Preceded n ps
  pub succeeded : Succeeded n ps
  pub unpreceded : Unpreceded n ps
