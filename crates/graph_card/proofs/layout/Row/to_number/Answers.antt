-- The marks are taken in one after the other.
use Rattle.std.proofs.Common.{rules, refl, arith}
use borrow.Author.Tests.{tests}
use Rattle.std.proofs.lemmas.Iterator.{YieldsList-from_range}
use Rattle.std.proofs.lemmas.Iterator.Consumers.{fold_from_yields_List}
use Rattle.graph_card.specs.Layout.{marks}
use Rattle.bits.proofs.Reading.{takes_in}
use Rattle.graph_card.proofs.Marking.{numbered, mark_is}
use Rattle.graph_card.proofs.layout.Row.to_number.Goals as goal

pub returns : goal.returns
returns c =
    let s = c.args.preds.bits in
    let v = c.args.self.job in
    let is =
    fold_from_yields_List _ (takes_in (marks s 64)) 0 c.fold.result c.fold.ensures.ran (YieldsList-from_range 0 v v refl (omega arith)) (λ a x b q k. search (rules, tests, mark_is)) in
    rw is (let n = numbered s v (omega arith) in record { bits = n.0; small = n.1 })
