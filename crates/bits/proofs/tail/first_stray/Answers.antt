-- The first bit that is set, or else the first byte too many.
use Rattle.std.proofs.Common.{◌≡◌, ◌≢◌, get_or, rules, arith}
use borrow.Author.Tests.{tests}
use Rattle.std.proofs.lemmas.Iterator.{first_from_Range}
use Rattle.bits.specs.Fields.{bits_of}
use Rattle.bits.proofs.Straying.{first}
use Rattle.bits.proofs.tail.first_stray.Goals as goal

pub returns : goal.returns
returns c =
    let us = bits_of c.args.bytes.now in
    let is : c.map.result ≡ c.or.result = search (rules, c.map.ensures.cases) in
    rw (is, c.or.ensures, c.then_some-behind.ensures)
    (first c.args.bytes.now c.args.at c.div_ceil-end.result _ _ c.find-stray.result
    (first_from_Range _ _ _ c.find-stray.result (λ q. get_or us q 0 ≡ 1) (λ q. get_or us q 0 ≢ 1) c.find-stray.ensures.ran (λ x q k. search (rules, tests)) (λ x q k. search (rules, tests)))
    (omega arith) (omega arith) (omega arith))
