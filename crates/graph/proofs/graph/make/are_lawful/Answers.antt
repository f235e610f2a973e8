-- A set that is no part of the lower numbers reaches further.
use Rattle.std.proofs.Common.{arith}
use Rattle.graph.proofs.Asked.{out_of_below}
use Rattle.graph.proofs.graph.make.are_lawful.Goals as goal

pub returns-else-is_subset-clause-value : goal.returns-else-is_subset-clause-value
returns-else-is_subset-clause-value c =
    out_of_below c.args.preds.bits c.args.v (omega arith) c.requires c.below.result.bits c.below.ensures c.is_subset.result c.is_subset.ensures.part.1 c.if-is_subset.false
