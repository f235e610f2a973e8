-- The laws of cards.
use Rattle.graph_card.proofs.Returning.{reads_back, one_graph, one_card, largest}
use Rattle.graph_card.proofs.laws.card_laws.Goals as goal

pub returns : goal.returns
returns c = record { back = reads_back; graph = one_graph; card = one_card; largest = largest }
