-- What a graph says.
use Rattle.std.specs.Prelude.{ℕ, Bool}
use Rattle.graph.specs.declared.graph.Graph.{Graph}
use Rattle.graph.specs.Rules.{time_at, preds_at, precedes}

-- The longest time of job v, and 0 where there is no such job.
abbrev pub time_of : Graph → ℕ → ℕ
time_of g v = time_at g.times v

-- The predecessors of job v, and none where there is no such job.
abbrev pub preds_of : Graph → ℕ → ℕ
preds_of g v = preds_at g.preds v

-- Is u a predecessor of v?
abbrev pub is_pred : Graph → ℕ → ℕ → Bool
is_pred g u v = precedes g.preds u v
