-- The card of a graph, and what reading and writing it answers.
use Rattle.std.specs.Prelude.{◌≡◌, ℕ, List, Result}
use Rattle.base.specs.declared.fault.Fault.{Fault}
use Rattle.base.specs.Questions.{Asks, Writes}
use Rattle.bits.specs.Bytes.{bytes_of}
use Rattle.bits.specs.Fields.{bits_of}
use Rattle.graph.specs.declared.graph.Graph.{Graph}
use Rattle.graph_card.specs.Layout.{fields}
use Rattle.graph_card.specs.Asking.{questions}

-- The fields of a graph's card.
abbrev pub fields_of : Graph → List ℕ
fields_of g = fields g.jobs g.crews g.layover g.times g.preds

-- The card of a graph, as bytes.
abbrev pub card : Graph → List ℕ
card g = bytes_of (fields_of g)

-- Reading bytes into a place that held the graph `old` and then holds `new`: all questions hold, and the bytes are the card of
-- `new`; or the fault is that of the first that fails, and the place is as it was.
abbrev pub ReadsCard : List ℕ → Graph → Graph → Result (Unit {0}) Fault → Type 0
ReadsCard bytes old new r = Asks (questions (bits_of bytes)) (λ _. bytes ≡ card new) (new ≡ old) r

-- Writing the card of a graph to a target that held `old` and then holds `new`.
abbrev pub WritesCard : Graph → List ℕ → List ℕ → Result ℕ Fault → Type 0
WritesCard g old new r = Writes (card g) old new r
