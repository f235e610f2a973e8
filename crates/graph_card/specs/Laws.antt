-- One graph, one card.
use Rattle.std.specs.Prelude.{◌≡◌, ℕ, ◌≤◌, List, length, Ok, Result}
use Rattle.base.specs.declared.fault.Fault.{Fault}
use Rattle.graph.specs.declared.graph.Graph.{Graph}
use Rattle.graph_card.specs.Cards.{card, ReadsCard}

-- Reading the card of a graph takes it, and gives that graph back, whatever the place held.
abbrev pub ReadsBack : Type 0
ReadsBack = (g old new : Graph) (r : Result (Unit {0}) Fault) → ReadsCard (card g) old new r → (r ≡ Ok tt) × (new ≡ g)

-- Two graphs with one card are equal.
abbrev pub OneGraph : Type 0
OneGraph = (g h : Graph) → card g ≡ card h → g ≡ h

-- Bytes that are read as one graph are the same bytes: a graph has one card.
abbrev pub OneCard : Type 0
OneCard = (bytes others : List ℕ) (old old' g : Graph) → ReadsCard bytes old g (Ok tt) → ReadsCard others old' g (Ok tt) → bytes ≡ others

-- The largest card has 345 bytes.
abbrev pub Largest : Type 0
Largest = (g : Graph) → length (card g) ≤ 345
