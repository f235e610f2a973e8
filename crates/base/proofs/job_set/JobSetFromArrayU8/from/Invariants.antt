-- The set of the numbers so far.
use Rattle.std.proofs.Common.{take}
use Rattle.base.specs.JobSets.{IsSetOf}
use Rattle.base.proofs.job_set.JobSetFromArrayU8.from.Given as goal

abbrev pub invariant-loop-job : goal.invariant-loop-job
invariant-loop-job g l = IsSetOf (take l.job-index l.job-items) l.set.bits
