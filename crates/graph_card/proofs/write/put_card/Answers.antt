-- Zeros, then the head, then the jobs.
use Rattle.std.proofs.Common.{◌++◌, drop, ap, ◌∙◌, arith}
use Rattle.bits.specs.Fields.{bits_of}
use Rattle.graph_card.specs.Cards.{card}
use Rattle.graph_card.proofs.Putting.{both_parts, whole_card}
use Rattle.graph_card.proofs.write.put_card.Goals as goal

pub returns : goal.returns
returns c =
    let g = c.args.graph.now in
    let old = c.args.target.now in
    let is = c.size.ensures.value in
    let room = c.requires in
    whole_card g old c.clear.new.target c.put_jobs.new.target c.size.result is (omega arith) c.clear.ensures.small (λ i. omega (arith, c.type_inv.target i)) c.clear.ensures.zeros
    (both_parts (bits_of c.clear.new.target) (bits_of c.put_head.new.target) (bits_of c.put_jobs.new.target) g c.put_head.ensures c.put_jobs.ensures)
    ∙ ap (λ n. card g ++ drop n old) is
