-- The first job that is refused decides.
use Rattle.std.proofs.Common.{arith}
use Rattle.base.proofs.Asking.{asked_to}
use Rattle.graph.proofs.graph.make.SizedDraft.ask_jobs.Goals as goal

pub returns-in_err-ask_job : goal.returns-in_err-ask_job
returns-in_err-ask_job c =
    asked_to _ c.args.self.parts.now.jobs c.loop-v.v _ _ _ _ c.from_residual.ensures (omega arith) c.loop-v.invariant.0 (rw (c.from.ensures, c.from-in-loop-v.ensures) at c.in_err-ask_job.ensures)
