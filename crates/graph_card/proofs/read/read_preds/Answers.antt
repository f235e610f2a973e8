-- No field, or one that was read as a set.
use Rattle.std.proofs.Common.{arith}
use Rattle.graph_card.proofs.Ranging.{preds_first, preds_some}
use Rattle.graph_card.proofs.read.read_preds.Goals as goal

pub returns-in_default : goal.returns-in_default
returns-in_default c = preds_first _ _ _ _ c.in_default.ensures c.empty.ensures.value

pub returns : goal.returns
returns c =
    let some = c.if-number-eq0.false in
    preds_some _ _ _ _ c.in-Some.ensures.0 _ c.in-Some.ensures.1 c.in-Some.field.some c.args.row.few c.in_ok-number.number _ c.in_ok-number.ensures.does (omega arith) c.to_preds.ensures
