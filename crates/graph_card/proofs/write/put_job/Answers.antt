-- The time, and then, but for job 0, the predecessors.
use Rattle.graph_card.proofs.Putting.{put_first, put_row}
use Rattle.graph_card.proofs.write.put_job.Goals as goal

pub returns-in_default : goal.returns-in_default
returns-in_default c = put_first _ _ _ _ _ _ _ _ c.put.ensures c.in_default.ensures c.time.ensures.at c.time.ensures.bits c.time-2.ensures.value

pub returns-in-Some : goal.returns-in-Some
returns-in-Some c =
    put_row _ _ _ _ _ _ _ _ _ _ _ _ _ c.put-in-Some.ensures c.put.ensures c.in-Some.ensures.0 c.in-Some.ensures.1 c.to_number.ensures.bits c.preds-in-Some.ensures c.time.ensures.at c.time.ensures.bits c.time-2.ensures.value
