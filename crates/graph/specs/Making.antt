-- Making a graph from a draft: the questions, in the sequence asked, and what is made.
use Rattle.std.specs.Prelude.{◌≡◌, ℕ, ◌-◌, ◌<◌, Bool, true, cond, not, ◌&&◌, ◌||◌, List, [], ◌∷◌, ◌++◌, length, Result, ◌==◌, nat_le, nat_lt}
use Rattle.base.specs.declared.fault.Fault.{Fault}
use Rattle.base.specs.declared.fault.Layer.TheVariants.{Card, Graph as GraphLayer}
use Rattle.base.specs.declared.job_set.JobSet.{JobSet}
use Rattle.base.specs.JobSets.{has, size}
use Rattle.base.specs.Refusal.{says}
use Rattle.base.specs.Questions.{Question, ask, asked_below, Asks}
use Rattle.graph.specs.declared.draft.Draft.{Draft}
use Rattle.graph.specs.declared.graph.Graph.{Graph}
use Rattle.graph.specs.Limits.{jobs_allowed, crews_allowed, layover_allowed, time_allowed}
use Rattle.graph.specs.Rules.{time_at, preds_at, precedes, any_below, has_succ}
use Rattle.graph.specs.Graphs.{time_of, preds_of}

-- Questions 3, 4 and 5: are n jobs, m crews and a layover of d minutes in range? The place is the value.
unfoldable pub sizes_asked : ℕ → ℕ → ℕ → List Question
sizes_asked n m d = ask (jobs_allowed n) (says 3 n Card) ∷ ask (crews_allowed m) (says 4 m Card) ∷ ask (layover_allowed d) (says 5 d Card) ∷ []

-- Is there a member from v up?
abbrev pub reaches : ℕ → ℕ → Bool
reaches s v = any_below (λ u. nat_le v u && has s u) 64

-- Are the predecessors s of job v lower than v, and is there one, unless v is 0?
abbrev pub preds_lawful : ℕ → ℕ → Bool
preds_lawful s v = not (reaches s v) && (v == 0 || nat_le 1 (size s))

-- Questions 6 and 7 of job v, whose longest time is t, and whose predecessors are s: the place is v.
unfoldable pub job_asked : ℕ → ℕ → ℕ → List Question
job_asked t s v = ask (time_allowed t) (says 6 v GraphLayer) ∷ ask (preds_lawful s v) (says 7 v GraphLayer) ∷ []

-- Those of each of n jobs.
abbrev pub jobs_asked : List ℕ → List JobSet → ℕ → List Question
jobs_asked ts ps n = asked_below (λ v. job_asked (time_at ts v) (preds_at ps v) v) n

-- Question 8 of job u, where there are n jobs: has it a successor? The place is u.
abbrev pub succ_asked : (ℕ → ℕ → Bool) → ℕ → ℕ → List Question
succ_asked pred n u = ask (has_succ pred n u) (says 8 u GraphLayer) ∷ []

-- That of every job but the last.
abbrev pub succs_asked : (ℕ → ℕ → Bool) → ℕ → List Question
succs_asked pred n = asked_below (succ_asked pred n) (n - 1)

-- All questions, in sequence.
unfoldable pub making : Draft → List Question
making d = sizes_asked d.jobs d.crews d.layover ++ (jobs_asked d.times d.preds d.jobs ++ succs_asked (precedes d.preds) d.jobs)

-- The graph has the parts of the draft, and nothing from n up.
pub record Made (d : Draft) (g : Graph) : Type 0 where
  pub jobs : g.jobs ≡ d.jobs
  pub crews : g.crews ≡ d.crews
  pub layover : g.layover ≡ d.layover
  pub times : (v : ℕ) → time_of g v ≡ cond (nat_lt v d.jobs) (time_at d.times v) 0
  pub preds : (v : ℕ) → preds_of g v ≡ cond (nat_lt v d.jobs) (preds_at d.preds v) 0

-- What making a graph answers.
abbrev pub Makes : Draft → Result Graph Fault → Type 0
Makes d r = Asks (making d) (Made d) (Unit {0}) r

-- A graph of one job of t minutes, one crew, and a layover of one minute.
pub record Single (t : ℕ) (g : Graph) : Type 0 where
  pub jobs : g.jobs ≡ 1
  pub crews : g.crews ≡ 1
  pub layover : g.layover ≡ 1
  pub time : time_of g 0 ≡ t

-- For the functions below `make`. All members are below v.
abbrev pub AllBelow : ℕ → ℕ → Type 0
AllBelow s v = (u : ℕ) → has s u ≡ true → u < v

-- The predecessors of each of n jobs are lower.
abbrev pub LowerBelow : List JobSet → ℕ → Type 0
LowerBelow ps n = (v : ℕ) → v < n → AllBelow (preds_at ps v) v

-- A draft with the parts of another, and nothing from n up.
pub record Cleared (d e : Draft) : Type 0 where
  pub all_times : length e.times ≡ 64
  pub all_preds : length e.preds ≡ 64
  pub jobs : e.jobs ≡ d.jobs
  pub crews : e.crews ≡ d.crews
  pub layover : e.layover ≡ d.layover
  pub times : (v : ℕ) → time_at e.times v ≡ cond (nat_lt v d.jobs) (time_at d.times v) 0
  pub preds : (v : ℕ) → preds_at e.preds v ≡ cond (nat_lt v d.jobs) (preds_at d.preds v) 0

-- A graph with just the parts of a draft.
pub record HasParts (d : Draft) (g : Graph) : Type 0 where
  pub jobs : g.jobs ≡ d.jobs
  pub crews : g.crews ≡ d.crews
  pub layover : g.layover ≡ d.layover
  pub times : g.times ≡ d.times
  pub preds : g.preds ≡ d.preds
