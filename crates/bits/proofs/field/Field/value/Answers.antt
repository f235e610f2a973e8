-- The bits are taken in one after the other.
use Rattle.std.proofs.Common.{◌≡◌, rules, refl, ◌∙◌, arith}
use borrow.Author.Tests.{tests}
use Rattle.std.proofs.lemmas.Iterator.{YieldsList-from_range}
use Rattle.std.proofs.lemmas.Iterator.Consumers.{fold_from_yields_List}
use Rattle.bits.specs.Fields.{bits_of, value_at}
use Rattle.bits.proofs.Filling.{bits_bytes}
use Rattle.bits.proofs.Reading.{got, takes_in, taken_in}
use Rattle.bits.proofs.field.Field.value.Goals as goal

pub returns : goal.returns
returns g c =
    let us = bits_of c.args.bytes.now in
    let at = c.args.self.at in
    let w = c.args.self.bits in
    let is : c.fold.result ≡ value_at us at w =
    fold_from_yields_List _ (takes_in us) 0 c.fold.result c.fold.ensures.ran (YieldsList-from_range at c.end.result w refl (omega arith)) (λ a x b q k. search (rules, tests))
    ∙ taken_in us (bits_bytes c.args.bytes.now) at w c.requires.room c.requires.few in
    rw is (got us at w (bits_bytes c.args.bytes.now) c.requires.room)
