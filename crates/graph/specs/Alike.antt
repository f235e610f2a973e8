-- When `==` on graphs answers yes: each of their parts is the same.
use Rattle.std.specs.Prelude.{Bool, ◌==◌}
use Rattle.std.specs.Cmp.Lexicographic.{pointwise}
use Rattle.std.specs.Ordering.{on, eq_of_both}
use Rattle.base.specs.declared.job_set.JobSet.{JobSet}
use Rattle.graph.specs.declared.graph.Graph.{Graph}

-- As many jobs and crews, and as long a layover.
abbrev pub sizes_alike : Graph → Graph → Bool
sizes_alike = eq_of_both (eq_of_both (on (λ g. g.jobs) ◌==◌) (on (λ g. g.crews) ◌==◌)) (on (λ g. g.layover) ◌==◌)

-- The same longest times.
abbrev pub times_alike : Graph → Graph → Bool
times_alike = on (λ g. g.times) (pointwise ◌==◌)

-- The same predecessors.
abbrev pub preds_alike : Graph → Graph → Bool
preds_alike = on (λ g. g.preds) (pointwise (on (λ (s : JobSet). s.bits) ◌==◌))

abbrev pub jobs_alike : Graph → Graph → Bool
jobs_alike = eq_of_both times_alike preds_alike

abbrev pub alike : Graph → Graph → Bool
alike = eq_of_both sizes_alike jobs_alike
