-- The questions about a draft stop at the first that is refused.
use Rattle.std.proofs.Common.{◌≡◌, None, ◌∙◌}
use Rattle.base.specs.Questions.{first_no}
use Rattle.base.proofs.Asking.{all_passed}
use Rattle.graph.specs.declared.draft.Draft.{Draft}
use Rattle.graph.specs.Rules.{precedes}
use Rattle.graph.specs.Making.{sizes_asked, jobs_asked, succs_asked, making}

module _ (d : Draft) where
  -- where the sizes and the jobs are lawful, question 8 decides
  pub last_kind : first_no (sizes_asked d.jobs d.crews d.layover) ≡ None → first_no (jobs_asked d.times d.preds d.jobs) ≡ None
      → first_no (making d) ≡ first_no (succs_asked (precedes d.preds) d.jobs)
  unfolding making
  last_kind a b = all_passed (sizes_asked d.jobs d.crews d.layover) _ a ∙ all_passed (jobs_asked d.times d.preds d.jobs) _ b
