-- The number of the field is one of the type.
use Rattle.bits.specs.Fields.{bits_of}
use Rattle.bits.proofs.Reading.{read_as}
use Rattle.bits.proofs.field.Field.read.Goals as goal

pub returns : goal.returns
returns g c = read_as g.T.Holds.number (bits_of c.args.bytes.now) c.args.self.at c.args.self.bits g.row.MOST c.value.result c.from_u64.result c.args.self.most c.value.ensures c.from_u64.ensures
