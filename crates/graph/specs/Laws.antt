-- Laws of work graphs.
use Rattle.std.specs.Prelude.{◌≡◌, ℕ, ◌+◌, ◌<◌, ◌≤◌, true, false}
use Rattle.base.specs.JobSets.{Empty}
use Rattle.graph.specs.declared.graph.Graph.{Graph}
use Rattle.graph.specs.Graphs.{time_of, preds_of, is_pred}

-- What every graph keeps.
pub record KeepsRules (g : Graph) : Type 0 where
  pub jobs : (1 ≤ g.jobs) × (g.jobs ≤ 64)
  pub crews : (1 ≤ g.crews) × (g.crews ≤ 16)
  pub layover : (1 ≤ g.layover) × (g.layover ≤ 92160)
  pub times : (v : ℕ) → v < g.jobs → (1 ≤ time_of g v) × (time_of g v ≤ 1440)
  -- a predecessor is a lower number
  pub lower : (u v : ℕ) → is_pred g u v ≡ true → (u < v) × (v < g.jobs)
  -- job 0 alone has no predecessor
  pub first : Empty (preds_of g 0)
  pub first_alone : (v : ℕ) → v < g.jobs → Empty (preds_of g v) → v ≡ 0
  -- the last job alone has no successor
  pub last : (u : ℕ) → u + 1 ≡ g.jobs → (v : ℕ) → is_pred g u v ≡ false
  pub last_alone : (u : ℕ) → u < g.jobs → ((v : ℕ) → is_pred g u v ≡ false) → u + 1 ≡ g.jobs
  -- there is nothing from n up
  pub no_more : (v : ℕ) → g.jobs ≤ v → (time_of g v ≡ 0) × (preds_of g v ≡ 0)

abbrev pub RulesKept : Type 0
RulesKept = (g : Graph) → KeepsRules g

-- Graphs that say the same of their jobs are the same value.
pub record SameParts (g h : Graph) : Type 0 where
  pub jobs : g.jobs ≡ h.jobs
  pub crews : g.crews ≡ h.crews
  pub layover : g.layover ≡ h.layover
  pub times : (v : ℕ) → v < g.jobs → time_of g v ≡ time_of h v
  pub preds : (u v : ℕ) → u < v → v < g.jobs → is_pred g u v ≡ is_pred h u v

abbrev pub KnownByParts : Type 0
KnownByParts = (g h : Graph) → SameParts g h → g ≡ h
