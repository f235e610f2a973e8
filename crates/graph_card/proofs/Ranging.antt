-- What the questions of a job's two fields say, each of them read from bit q on over w bits.
use Rattle.std.proofs.Common.{◌≡◌, ℕ, zero, suc, ◌+◌, ◌<◌, ◌≤◌, true, leb, List, [], ◌∷◌, length, sym, refl, ◌∙◌, inl, inr, arith}
use Rattle.std.proofs.lemmas.Bool.{both_ways, le-leb, lt-leb}
use Rattle.base.specs.declared.fault.Fault.{Fault}
use Rattle.base.specs.declared.fault.Fault.TheVariants.{TimeOutOfRange, NoPredecessor}
use Rattle.base.specs.declared.fault.Layer.TheVariants.{Graph as GraphLayer}
use Rattle.base.specs.JobSets.{has}
use Rattle.base.proofs.Digits.{has-zero}
use Rattle.base.specs.Refusal.{says}
use Rattle.base.specs.Questions.{ask, first_no, Taken, Refused}
use Rattle.base.proofs.Asking.{passed, failed, nothing_asked, stopped, then_refused, all_passed}
use Rattle.bits.specs.Fields.{value_at}
use Rattle.bits.specs.Reading.{Got}
use Rattle.card.specs.Heading.{there}
use Rattle.graph.specs.Limits.{allowed, limit_asked, time_allowed}
use Rattle.graph.specs.declared.limits.Limit.TheVariants.{Time}
use Rattle.graph_card.specs.Layout.{MarkedBy, start}
use Rattle.graph_card.specs.Asking.{time_asked, preds_asked, job_asked}
use Rattle.graph_card.specs.Parts.{Lasting, PrecededBy, RowRead}
use Rattle.graph_card.proofs.Marking.{marks_none, marks_some}

-- ---- the field of a time

module _ (us : List ℕ) (p q w v : ℕ) (at : q ≡ p) (wide : w ≡ 11) where
  pub time_cut : (f : Fault) → Refused (there us q w ∷ []) f (Unit {0}) → Refused (time_asked us p v) f (Unit {0})
  time_cut f r = stopped _ _ f (Unit {0}) (rw (at, wide) at r)

  time_turn : (x : ℕ) → Got us p 11 x → first_no (time_asked us p v) ≡ first_no (ask (time_allowed x) (says 6 v GraphLayer) ∷ [])
  time_turn x g = rw g.value (passed (there us p 11) (ask (time_allowed (value_at us p 11)) (says 6 v GraphLayer) ∷ []) (le-leb (p + 11) (length us) g.there))

  pub time_out : (x n : ℕ) → Got us q w x → n ≡ x → (f : Fault) → Refused (limit_asked Time n (TimeOutOfRange v)) f (Unit {0}) → Refused (time_asked us p v) f (Unit {0})
  time_out x n got same f r = record { fails = time_turn x (rw (at, wide) at got) ∙ (rw same at r.fails); keeps = tt }

  pub time_in : (x n : ℕ) → Got us q w x → n ≡ x → allowed Time n ≡ true → Taken (time_asked us p v) (Lasting us p x)
  time_in x n got same e =
      let g : Got us p 11 x = rw (at, wide) at got in
      let lawful : time_allowed x ≡ true = rw same at e in
      record { all_hold = time_turn x g ∙ passed _ [] lawful ∙ nothing_asked; does = record { got = g; lawful = lawful } }

-- ---- the predecessor field, which job 0 has not

pub preds_first : (us : List ℕ) (p v s : ℕ) → v ≡ 0 → s ≡ 0 → Taken (preds_asked us p v) (PrecededBy us p v s)
preds_first us p zero s e h =
    rw h record { all_hold = nothing_asked; does = record { same_bits = sym (marks_none 0); lower = λ u m. absurd (both_ways (has 0 u) (has-zero u) m); some = inl refl } }
preds_first us p (suc v) s e h = absurd (omega arith)

module _ (us : List ℕ) (p q w : ℕ) (at : q ≡ p) where
  pub preds_cut : (v : ℕ) → w ≡ v → 1 ≤ w → (f : Fault) → Refused (there us q w ∷ []) f (Unit {0}) → Refused (preds_asked us p v) f (Unit {0})
  preds_cut zero wide some f r = absurd (omega arith)
  preds_cut (suc v) wide some f r = stopped _ _ f (Unit {0}) (rw (at, wide) at r)

  preds_turn : (v x : ℕ) → Got us p (suc v) x → first_no (preds_asked us p (suc v)) ≡ first_no (ask (leb 1 x) (says 7 (suc v) GraphLayer) ∷ [])
  preds_turn v x g =
      rw g.value (passed (there us p (suc v)) (ask (leb 1 (value_at us p (suc v))) (says 7 (suc v) GraphLayer) ∷ []) (le-leb (p + suc v) (length us) g.there))

  pub preds_none : (v : ℕ) → w ≡ v → 1 ≤ w → (x : ℕ) → Got us q w x → x ≡ 0 → Refused (preds_asked us p v) (NoPredecessor v) (Unit {0})
  preds_none zero wide some x got z = absurd (omega arith)
  preds_none (suc v) wide some x got z = record { fails = preds_turn v x (rw (at, wide) at got) ∙ failed (ask (leb 1 x) (says 7 (suc v) GraphLayer)) [] (lt-leb 1 x (omega arith)); keeps = tt }

  pub preds_some : (v : ℕ) → w ≡ v → 1 ≤ w → v < 64 → (x s : ℕ) → Got us q w x → 1 ≤ x → MarkedBy x v s → Taken (preds_asked us p v) (PrecededBy us p v s)
  preds_some zero wide some few x s got l m = absurd (omega arith)
  preds_some (suc v) wide some few x s got l m =
      let g : Got us p (suc v) x = rw (at, wide) at got in
      record {
        all_hold = preds_turn v x g ∙ passed (ask (leb 1 x) (says 7 (suc v) GraphLayer)) [] (le-leb 1 x l) ∙ nothing_asked;
        does = record { same_bits = g.same_bits ∙ m.bits; lower = m.lower; some = inr (marks_some x (suc v) s m.bits g.small (omega arith) l) };
      }

-- ---- both fields, in turn

pub no_time : (us : List ℕ) (v : ℕ) (f : Fault) → Refused (time_asked us (start v) v) f (Unit {0}) → Refused (job_asked us v) f (Unit {0})
unfolding job_asked
no_time us v f r = stopped (time_asked us (start v) v) _ f (Unit {0}) r

pub no_preds : (us : List ℕ) (v t : ℕ) (f : Fault) → Taken (time_asked us (start v) v) (Lasting us (start v) t) → Refused (preds_asked us (start v + 11) v) f (Unit {0}) → Refused (job_asked us v) f (Unit {0})
unfolding job_asked
no_preds us v t f a r = then_refused (time_asked us (start v) v) _ f a.all_hold r

pub both_fields : (us : List ℕ) (v t s : ℕ) → Taken (time_asked us (start v) v) (Lasting us (start v) t) → Taken (preds_asked us (start v + 11) v) (PrecededBy us (start v + 11) v s) → Taken (job_asked us v) (RowRead us v t s)
unfolding job_asked
both_fields us v t s a b = record { all_hold = all_passed _ _ a.all_hold ∙ b.all_hold; does = record { time = a.does; preds = b.does } }

-- what the functions that read a job's fields name
pub ruleset of_time = (time_cut, time_out, time_in)

pub ruleset of_preds = (preds_first, preds_cut, preds_none, preds_some)

pub ruleset of_job = (no_time, no_preds, both_fields)
