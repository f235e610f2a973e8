-- When all bits are in place, the field is written.
use Rattle.std.proofs.Common.{arith}
use Rattle.bits.specs.Fields.{bits_of}
use Rattle.bits.proofs.Placing.{placed_all}
use Rattle.bits.proofs.field.Field.place.Goals as goal

pub returns : goal.returns
returns g c =
    placed_all (bits_of c.args.bytes.now) (bits_of c.loop-k.bytes) c.args.self.at c.args.self.bits c.args.value c.loop-k.k
    (omega arith) c.requires.room c.requires.fits c.loop-k.invariant
