-- One job after the other.
use Rattle.graph_card.proofs.Putting.{job_fits, rows_start, one_row}
use Rattle.graph_card.proofs.write.put_jobs.Goals as goal

pub loop-v-init : goal.loop-v-init
loop-v-init c = rows_start _ _ _ _ c.requires

pub put_job-requires : goal.put_job-requires
put_job-requires c = job_fits _ _ _ _ _ c.requires c.loop-v.auto.target c.jobs-v-end.ensures.value c.loop-v-test.true

pub loop-v-preserved : goal.loop-v-preserved
loop-v-preserved c = one_row _ _ _ _ _ c.loop-v.v c.loop-v.invariant c.put_job.ensures
