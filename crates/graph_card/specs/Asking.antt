-- The questions that reading a card asks, in their sequence, over the bits of the card.
use Rattle.std.specs.Prelude.{ℕ, zero, suc, ◌+◌, Bool, not, ◌&&◌, List, [], ◌∷◌, ◌++◌, length, ◌==◌, nat_le, nat_lt, slice_index}
use Rattle.base.specs.declared.fault.Layer.TheVariants.{Bits, Graph as GraphLayer}
use Rattle.base.specs.Refusal.{says}
use Rattle.base.specs.Questions.{Question, ask, asked_below}
use Rattle.bits.specs.Fields.{value_at}
use Rattle.bits.specs.Trailing.{at_fault}
use Rattle.card.specs.Heading.{there, heading, jobs_of}
use Rattle.graph.specs.Limits.{time_allowed}
use Rattle.graph.specs.Making.{succs_asked}
use Rattle.graph_card.specs.Layout.{start}

-- The longest time of job v, in the field at bit p: the place is v.
abbrev pub time_asked : List ℕ → ℕ → ℕ → List Question
time_asked us p v = there us p 11 ∷ ask (time_allowed (value_at us p 11)) (says 6 v GraphLayer) ∷ []

-- The predecessors of job v, in the field at bit p: is one bit set? The place is v. Job 0 has no such field.
abbrev pub preds_asked : List ℕ → ℕ → ℕ → List Question
preds_asked us p zero = []
preds_asked us p (suc u) = there us p (suc u) ∷ ask (nat_le 1 (value_at us p (suc u))) (says 7 (suc u) GraphLayer) ∷ []

-- The fields of job v.
unfoldable pub job_asked : List ℕ → ℕ → List Question
job_asked us v = time_asked us (start v) v ++ preds_asked us (start v + 11) v

-- Does the card say that u is a predecessor of v?
abbrev pub marked : List ℕ → ℕ → ℕ → Bool
marked us u v = nat_lt u v && slice_index us (start v + 11 + u) == 1

-- Question 9, of each bit behind the fields, which end before bit p: is it no fault? The place is the bit.
abbrev pub bit_asked : List ℕ → ℕ → ℕ → List Question
bit_asked us p q = ask (not (at_fault us p q)) (says 9 q Bits) ∷ []

unfoldable pub filling : List ℕ → ℕ → List Question
filling us p = asked_below (bit_asked us p) (length us)

-- The fields of the head and of each of n jobs; question 8 of every job but the last; then question 9.
unfoldable pub asked_of : List ℕ → ℕ → List Question
asked_of us n = heading us ++ (asked_below (job_asked us) n ++ (succs_asked (marked us) n ++ filling us (start n)))

-- All questions: the head says how many jobs there are.
abbrev pub questions : List ℕ → List Question
questions us = asked_of us (jobs_of us)
