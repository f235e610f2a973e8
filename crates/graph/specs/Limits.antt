-- The limits of a work graph, each in one place.
use Rattle.std.specs.Prelude.{ℕ, Bool, List, [], ◌∷◌}
use Rattle.base.specs.declared.fault.Fault.{Fault}
use Rattle.base.specs.Refusal.{said}
use Rattle.base.specs.Questions.{Question, ask, within}
use Rattle.graph.specs.declared.limits.Limit.{Limit}
use Rattle.graph.specs.declared.limits.Limit.TheVariants.{Jobs, Crews, Layover, Time}

-- The greatest number of jobs, crews, minutes of layover and minutes of one job.
abbrev pub most : Limit → ℕ
most Jobs = 64
most Crews = 16
most Layover = 92160
most Time = 1440

-- May the number be this one?
abbrev pub allowed : Limit → ℕ → Bool
allowed limit number = within 1 number (most limit)

-- The question whether it may, and what is refused where not.
abbrev pub limit_asked : Limit → ℕ → Fault → List Question
limit_asked limit number refusal = ask (allowed limit number) (said refusal) ∷ []

-- May there be n jobs?
abbrev pub jobs_allowed : ℕ → Bool
jobs_allowed = allowed Jobs

-- May there be m crews?
abbrev pub crews_allowed : ℕ → Bool
crews_allowed = allowed Crews

-- May the train stand for d minutes?
abbrev pub layover_allowed : ℕ → Bool
layover_allowed = allowed Layover

-- May a job last t minutes at the longest?
abbrev pub time_allowed : ℕ → Bool
time_allowed = allowed Time
