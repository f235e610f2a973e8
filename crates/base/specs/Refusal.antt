-- What each refusal says: number, place and layer.
use Rattle.std.specs.Prelude.{◌≡◌, ℕ, Bool, ◌==◌}
use Rattle.std.specs.Ordering.{on, eq_of_both}
use Rattle.base.specs.declared.fault.Layer.{Layer}
use Rattle.base.specs.declared.fault.Layer.TheVariants.{Bits, Card, Graph, Order, Run}
use Rattle.base.specs.declared.fault.Fault.{Fault}
use Rattle.base.specs.declared.fault.Fault.TheVariants.{FieldCut, UnknownVersion, JobsOutOfRange, CrewsOutOfRange, LayoverOutOfRange, TimeOutOfRange, NoPredecessor, NoSuccessor, StrayBit, TargetShort, BoundAboveLayover, ListLength, ListEntry, RowsShort, SlipsShort, RunOpen, NumbersSpent, NoSuchRun, NoSuchGrant, BeforeClock, Overdue, PassesOther}

-- What a refusal says: the number of the question that was answered no, the place, and the layer that asked.
pub record Said : Type 0 where
  pub number : ℕ
  pub place : ℕ
  pub layer : Layer

-- The number, the place and the layer, together.
abbrev pub says : ℕ → ℕ → Layer → Said
says n p l = record { number = n; place = p; layer = l }

-- Each case of `Fault` by its number, its place and its layer.
abbrev pub said : Fault → Said
said (FieldCut bit) = says 1 bit Bits
said (UnknownVersion value) = says 2 value Card
said (JobsOutOfRange value) = says 3 value Card
said (CrewsOutOfRange value) = says 4 value Card
said (LayoverOutOfRange value) = says 5 value Card
said (TimeOutOfRange job) = says 6 job Graph
said (NoPredecessor job) = says 7 job Graph
said (NoSuccessor job) = says 8 job Graph
said (StrayBit bit) = says 9 bit Bits
said (TargetShort needed) = says 10 needed Bits
said (BoundAboveLayover bound) = says 11 bound Graph
said (ListLength jobs) = says 12 jobs Order
said (ListEntry position) = says 13 position Order
said (RowsShort jobs) = says 14 jobs Run
said (SlipsShort places) = says 15 places Run
said (RunOpen run) = says 16 run Run
said (NumbersSpent next) = says 17 next Run
said (NoSuchRun ticket) = says 18 ticket Run
said (NoSuchGrant grant) = says 19 grant Run
said (BeforeClock clock) = says 20 clock Run
said (Overdue due) = says 21 due Run
said (PassesOther job) = says 22 job Run

-- Do two refusals say the same number and the same place?
abbrev pub said_alike : Fault → Fault → Bool
said_alike = eq_of_both (on (λ f. (said f).number) ◌==◌) (on (λ f. (said f).place) ◌==◌)

-- A refusal is known by its number and its place.
abbrev pub KnownByNumberAndPlace : Type 0
KnownByNumberAndPlace = (f g : Fault) → (said f).number ≡ (said g).number → (said f).place ≡ (said g).place → f ≡ g
