-- One job after the other.
use Rattle.std.proofs.Common.{arith}
use Rattle.graph_card.proofs.Rowing.{so_far_none, so_far_more}
use Rattle.graph_card.proofs.read.read_rows.Goals as goal

pub loop-v-init : goal.loop-v-init
loop-v-init c = so_far_none _ c.empty-preds.result

pub loop-v-preserved : goal.loop-v-preserved
loop-v-preserved c = rw (c.from.ensures, c.from-in-loop-v.ensures) (so_far_more _ c.loop-v.v c.loop-v.times c.loop-v.preds c.in_ok-job.job (omega arith) c.loop-v.invariant c.in_ok-job.ensures)
