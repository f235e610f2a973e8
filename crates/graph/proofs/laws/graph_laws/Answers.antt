-- Every graph keeps the rules.
use Rattle.graph.proofs.Ruling.{rules_kept}
use Rattle.graph.proofs.laws.graph_laws.Goals as goal

pub returns-clause-rules : goal.returns-clause-rules
returns-clause-rules c = rules_kept
