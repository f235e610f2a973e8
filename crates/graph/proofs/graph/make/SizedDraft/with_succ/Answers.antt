-- One set of predecessors after the other.
use Rattle.std.proofs.Common.{refl, rules, arith}
use Rattle.std.proofs.lemmas.Iterator.{YieldsList-from_slice, YieldsList-from_take}
use Rattle.std.proofs.lemmas.Iterator.Consumers.{fold_from_yields_List}
use Rattle.graph.proofs.Gathered.{both, joined, gathered}
use Rattle.graph.proofs.graph.make.SizedDraft.with_succ.Goals as goal

pub returns : goal.returns
returns c =
    rw (fold_from_yields_List _ both c.empty.result c.fold.result c.fold.ensures.ran (YieldsList-from_take c.args.self.parts.now.jobs (YieldsList-from_slice c.args.self.parts.now.preds cc) cc) (λ a x b q k. (refl, joined a x.now b (search rules))))
    (gathered c.args.self.parts.now.preds c.args.self.parts.now.jobs c.empty.result c.empty.ensures.value (omega arith))
