-- The fields of the jobs so far.
use Rattle.bits.specs.Fields.{bits_of}
use Rattle.graph_card.proofs.Rowing.{SoFar}
use Rattle.graph_card.proofs.read.read_rows.Given as goal

abbrev pub invariant-loop-v : goal.invariant-loop-v
invariant-loop-v l = SoFar (bits_of l.bytes) l.v l.times l.preds
