-- Four fields, one after the other.
use Rattle.graph_card.proofs.Putting.{put_head}
use Rattle.graph_card.proofs.write.put_head.Goals as goal

pub returns : goal.returns
returns c = put_head _ _ _ _ _ _ _ _ _ _ _ c.put-4.ensures c.put-3.ensures c.put-2.ensures c.put.ensures c.jobs.ensures.value c.crews.ensures.value c.layover.ensures.value
