-- A graph of one job keeps the rules.
use Rattle.graph.proofs.Keeping.{single_lawful}
use Rattle.graph.proofs.graph.make.single.Goals as goal

pub whole-requires : goal.whole-requires
whole-requires c = single_lawful c.args.minutes c.requires.0 c.requires.1 c.empty.result c.empty.ensures.value
