-- The questions about the jobs so far all hold.
use Rattle.std.proofs.Common.{◌≡◌, None}
use Rattle.base.specs.Questions.{first_no}
use Rattle.graph.specs.Making.{jobs_asked, LowerBelow}
use Rattle.graph.proofs.graph.make.SizedDraft.ask_jobs.Given as goal

abbrev pub invariant-loop-v : goal.invariant-loop-v
invariant-loop-v l = (first_no (jobs_asked l.self.parts.now.times l.self.parts.now.preds l.v) ≡ None) × LowerBelow l.self.parts.now.preds l.v
