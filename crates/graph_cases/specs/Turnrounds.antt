-- Turnrounds worked out by hand, and cards that are refused: what the definitions answer.
use Rattle.std.specs.Prelude.{◌≡◌, ℕ, ◌+◌, ◌^◌, List, [], ◌∷◌, map, length, Some, None, Option}
use Rattle.base.specs.declared.job_set.JobSet.{JobSet}
use Rattle.base.specs.declared.fault.Layer.TheVariants.{Bits, Card, Graph}
use Rattle.base.specs.Refusal.{Said, says}
use Rattle.base.specs.Questions.{first_no}
use Rattle.bits.specs.Fields.{bits_of}
use Rattle.graph.specs.Making.{making}
use Rattle.graph_card.specs.Asking.{questions}
use Rattle.graph_card.specs.Layout.{card_of}

-- The set that has just these members, each named once.
abbrev pub word : List ℕ → ℕ
word [] = 0
word (v ∷ vs) = 2 ^ v + word vs

abbrev pub set_of : List ℕ → JobSet
set_of vs = record { bits = word vs }

-- A turnround: crews, layover, and for each job its longest time and its predecessors.
pub record Turnround : Type 0 where
  pub crews : ℕ
  pub layover : ℕ
  pub times : List ℕ
  pub preds : List (List ℕ)

-- How many jobs there are, and the predecessors as sets.
abbrev pub jobs : Turnround → ℕ
jobs t = length t.times

abbrev pub sets : Turnround → List JobSet
sets t = map set_of t.preds

-- Graph A.
abbrev pub graph_a : Turnround
graph_a = record {
  crews = 2;
  layover = 18;
  times = 2 ∷ 5 ∷ 4 ∷ 3 ∷ 6 ∷ 1 ∷ [];
  preds = [] ∷ (0 ∷ []) ∷ (0 ∷ []) ∷ (0 ∷ []) ∷ (1 ∷ 2 ∷ []) ∷ (3 ∷ 4 ∷ []) ∷ [];
}

abbrev pub card_a : List ℕ
card_a = 0x10 ∷ 0xC2 ∷ 0x00 ∷ 0x09 ∷ 0x00 ∷ 0x20 ∷ 0x0B ∷ 0x00 ∷ 0x90 ∷ 0x03 ∷ 0x80 ∷ 0x19 ∷ 0x80 ∷ 0x08 ∷ 0xC0 ∷ []

-- One job of 1,440 minutes, one crew, a layover of 1,440 minutes.
abbrev pub one_job : Turnround
one_job = record { crews = 1; layover = 1440; times = 1440 ∷ []; preds = [] ∷ [] }

abbrev pub card_one : List ℕ
card_one = 0x10 ∷ 0x21 ∷ 0x02 ∷ 0xD0 ∷ 0x5A ∷ 0x00 ∷ []

-- The first question about a card that is answered no, if there is one.
abbrev pub refusal : List ℕ → Option Said
refusal bytes = first_no (questions (bits_of bytes))

-- What holds of a turnround and its card: its parts make a graph, the card is that of its parts, and is taken.
pub record WorkedOut (t : Turnround) (card : List ℕ) : Type 0 where
  pub lawful : first_no (making (record { jobs = jobs t; crews = t.crews; layover = t.layover; times = t.times; preds = sets t })) ≡ None
  pub written : card_of (jobs t) t.crews t.layover t.times (sets t) ≡ card
  pub taken : refusal card ≡ None

-- The turnrounds, one to a row.
pub record WorkedTurnrounds : Type 0 where
  pub a : WorkedOut graph_a card_a
  pub one : WorkedOut one_job card_one

-- Cards that are refused, and the refusal of each.
pub record RefusedCards : Type 0 where
  pub no_bytes : refusal [] ≡ Some (says 1 0 Bits)
  pub version_only : refusal (0x10 ∷ []) ≡ Some (says 1 4 Bits)
  pub no_version : refusal (0x00 ∷ []) ≡ Some (says 2 0 Card)
  -- one job of 1,441 minutes
  pub too_long : refusal (0x10 ∷ 0x21 ∷ 0x02 ∷ 0xD0 ∷ 0x5A ∷ 0x10 ∷ []) ≡ Some (says 6 0 Graph)
  -- a filling bit, and a byte too many
  pub filling_bit : refusal (0x10 ∷ 0x21 ∷ 0x02 ∷ 0xD0 ∷ 0x5A ∷ 0x01 ∷ []) ≡ Some (says 9 47 Bits)
  pub byte_too_many : refusal (0x10 ∷ 0x21 ∷ 0x02 ∷ 0xD0 ∷ 0x5A ∷ 0x00 ∷ 0x00 ∷ []) ≡ Some (says 9 48 Bits)
