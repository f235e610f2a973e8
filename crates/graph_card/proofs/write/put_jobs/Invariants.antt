-- The fields of the jobs so far.
use Rattle.bits.specs.Fields.{bits_of}
use Rattle.graph_card.specs.Layout.{rows}
use Rattle.graph_card.specs.Parts.{Put}
use Rattle.graph_card.proofs.write.put_jobs.Given as goal

abbrev pub invariant-loop-v : goal.invariant-loop-v
invariant-loop-v l = Put (bits_of l.initial.target) 33 (rows l.graph.times l.graph.preds l.v) (bits_of l.target)
