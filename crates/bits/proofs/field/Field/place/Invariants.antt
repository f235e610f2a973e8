-- After k turns the first k bits of the value are in place.
use Rattle.std.proofs.Common.{◌≡◌}
use Rattle.bits.specs.Fields.{bits_of}
use Rattle.bits.proofs.Placing.{placed}
use Rattle.bits.proofs.field.Field.place.Given as goal

abbrev pub invariant-loop-k : goal.invariant-loop-k
invariant-loop-k g l = bits_of l.bytes ≡ placed (bits_of l.initial.bytes) l.self.at l.self.bits l.value l.k
