-- The last question: what stands behind the fields.
use Rattle.std.proofs.Common.{◌≡◌, ℕ, ◌^◌, ◌<◌, ◌≤◌, true, false, not, ◌&&◌, ◌||◌, eqb, ltb, leb, List, [], length, get_or, take, Some, None, ap, ◌∙◌, inl, inr, arith}
use Rattle.std.proofs.lemmas.Bool.{cases_lt, both_ways, and_parts, ltb-true, not_from_true, not_from_false}
use Rattle.base.specs.declared.fault.Fault.TheVariants.{StrayBit}
use Rattle.base.specs.declared.fault.Layer.TheVariants.{Bits}
use Rattle.base.specs.Refusal.{says}
use Rattle.base.specs.Questions.{ask, first_no, Taken, Refused}
use Rattle.base.proofs.Asking.{passed, failed, nothing_asked, asked_all, asked_stops}
use Rattle.bits.specs.Bytes.{bytes_of}
use Rattle.bits.specs.Fields.{bits_of}
use Rattle.bits.specs.Trailing.{whole, at_fault, FirstPassing}
use Rattle.bits.proofs.Filling.{Bytes, bits_take, bits_bytes, bytes_from_bits, none_at_fault}
use Rattle.bits.proofs.Packing.{length-bits}
use Rattle.bits.proofs.Straying.{too_many}
use Rattle.graph.specs.declared.graph.Graph.{Graph}
use Rattle.graph_card.specs.Layout.{start}
use Rattle.graph_card.specs.Asking.{bit_asked, filling, questions}
use Rattle.graph_card.specs.Cards.{card}
use Rattle.graph_card.specs.Parts.{Unfilled}
use Rattle.graph_card.proofs.Spacing.{start_range}

module _ (us : List ℕ) (p : ℕ) where
  fine : (q : ℕ) → at_fault us p q ≡ false → first_no (bit_asked us p q) ≡ None
  fine q e = passed (ask (not (at_fault us p q)) (says 9 q Bits)) [] (not_from_false (at_fault us p q) e) ∙ nothing_asked

  -- a bit at fault is there
  is_there : (q : ℕ) → at_fault us p q ≡ true → q < length us
  is_there q h =
      ltb-true q (length us) (and_parts (leb p q) (ltb q (length us)) (and_parts (leb p q && ltb q (length us)) (eqb (get_or us q 0) 1 || leb (whole p) q) h).0).1

  pub nothing_behind : ((q : ℕ) → at_fault us p q ≡ false) → first_no (filling us p) ≡ None
  unfolding filling
  nothing_behind h = asked_all (bit_asked us p) (length us) (λ q l. fine q (h q))

  pub first_behind : (q : ℕ) → FirstPassing (at_fault us p) q → first_no (filling us p) ≡ Some (says 9 q Bits)
  unfolding filling
  first_behind q f =
      asked_stops (bit_asked us p) (length us) q (says 9 q Bits) (is_there q f.passes) (asked_all (bit_asked us p) q (λ r l. fine r (f.before r l)))
      (failed (ask (not (at_fault us p q)) (says 9 q Bits)) [] (not_from_true (at_fault us p q) f.passes))

  -- the first bit at fault stands no later than where the filling ends
  pub not_late : (q : ℕ) → FirstPassing (at_fault us p) q → q ≤ whole p
  not_late q f = elim (cases_lt (whole p) q) [
    | inl l ↦ absurd (both_ways (at_fault us p (whole p)) (f.before (whole p) l) (too_many us p (whole p) (omega arith) (let h = is_there q f.passes in omega arith)))
    | inr g ↦ g
  ]

pub all_read : (bs : List ℕ) (g : Graph) → Bytes bs → Unfilled bs g → ((q : ℕ) → at_fault (bits_of bs) (start g.jobs) q ≡ false) → Taken (questions (bits_of bs)) (bs ≡ card g)
all_read bs g small u h =
    let us = bits_of bs in
    let p = start g.jobs in
    let room = u.room in
    let len = length-bits bs in
    record {
      all_hold = u.left ∙ nothing_behind us p h;
      does = bytes_from_bits bs (take p us) small (bits_take p us (bits_bytes bs)) (none_at_fault bs p (omega arith) h) ∙ ap bytes_of u.same_bits;
    }

-- a bit at fault is refused, and its number is small
pub stray : (bs : List ℕ) (g : Graph) (q : ℕ) → Unfilled bs g → FirstPassing (at_fault (bits_of bs) (start g.jobs)) q → Refused (questions (bits_of bs)) (StrayBit q) (Unit {0})
stray bs g q u f = record { fails = u.left ∙ first_behind (bits_of bs) (start g.jobs) q f; keeps = tt }

pub near : (bs : List ℕ) (g : Graph) (q : ℕ) → FirstPassing (at_fault (bits_of bs) (start g.jobs)) q → q < 2 ^ 32
near bs g q f = let late = not_late (bits_of bs) (start g.jobs) q f in let high = (start_range g.jobs g.few_jobs).1 in omega arith

pub ruleset to_the_end = (stray, near, all_read)
