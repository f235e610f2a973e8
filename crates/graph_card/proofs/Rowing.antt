-- Reading the fields of one job after the other.
use Rattle.std.proofs.Common.{◌≡◌, ℕ, ◌+◌, ◌<◌, ◌≤◌, List, length, take, drop, set, replicate, None, sym, refl, ap, ◌∙◌, subst, inl, inr, arith, length-take}
use Rattle.std.proofs.lemmas.List.{length-set, length-drop, get_or-set_same, get_or-set_other}
use Rattle.std.proofs.lemmas.Bool.{cases_eq}
use Rattle.base.specs.declared.job_set.JobSet.{JobSet}
use Rattle.base.specs.Questions.{first_no, asked_below, Taken, Refused}
use Rattle.base.specs.declared.fault.Fault.{Fault}
use Rattle.base.specs.Refusal.{said}
use Rattle.base.proofs.Asking.{asked_none, asked_more, asked_stops}
use Rattle.graph.specs.Rules.{none, time_at, preds_at}
use Rattle.graph_card.specs.Layout.{start}
use Rattle.graph_card.specs.Asking.{job_asked}
use Rattle.graph_card.specs.Parts.{RowRead, RowsRead}
use Rattle.graph_card.specs.declared.read.Job.{Job}
use Rattle.graph_card.proofs.Marking.{length-marks}

-- the fields of a job are there whole
pub row_room : (us : List ℕ) (v t s : ℕ) → RowRead us v t s → start v + (11 + v) ≤ length us
row_room us v t s r =
    let a = r.time.got.there in
    let b : length (take v (drop (start v + 11) us)) ≡ v = ap length r.preds.same_bits ∙ length-marks s v in
    let e = length-take v (drop (start v + 11) us) in
    let d = length-drop (start v + 11) us in
    omega arith

-- ---- those of the jobs below v

pub record SoFar (us : List ℕ) (v : ℕ) (ts : List ℕ) (ps : List JobSet) : Type 0 where
  pub all_times : length ts ≡ 64
  pub all_preds : length ps ≡ 64
  pub asked : first_no (asked_below (job_asked us) v) ≡ None
  pub rows : RowsRead us v ts ps

pub so_far_none : (us : List ℕ) (s : JobSet) → SoFar us 0 (replicate 64 0) (replicate 64 s)
so_far_none us s = record { all_times = refl; all_preds = refl; asked = asked_none (job_asked us); rows = λ w l. absurd (omega arith) }

module _ (us : List ℕ) (v : ℕ) (ts : List ℕ) (ps : List JobSet) (j : Job) (few : v < 64) (so : SoFar us v ts ps)
    (now : Taken (job_asked us v) (RowRead us v j.time j.preds.bits)) where
  here : RowRead us v (time_at (set ts v j.time) v) (preds_at (set ps v j.preds) v)
  here =
      let a : time_at (set ts v j.time) v ≡ j.time = get_or-set_same ts v j.time 0 (let q = so.all_times in omega arith) in
      let b : preds_at (set ps v j.preds) v ≡ j.preds.bits = ap (λ (s : JobSet). s.bits) (get_or-set_same ps v j.preds none (let q = so.all_preds in omega arith)) in
      rw (a, b) now.does

  else : (w : ℕ) → w < v → RowRead us w (time_at (set ts v j.time) w) (preds_at (set ps v j.preds) w)
  else w l =
      let n : w ≡ v → ⊥ = λ e. omega arith in
      let a : time_at (set ts v j.time) w ≡ time_at ts w = get_or-set_other ts v w j.time 0 n in
      let b : preds_at (set ps v j.preds) w ≡ preds_at ps w = ap (λ (s : JobSet). s.bits) (get_or-set_other ps v w j.preds none n) in
      rw (a, b) (so.rows w l)

  pub so_far_more : SoFar us (v + 1) (set ts v j.time) (set ps v j.preds)
  so_far_more = record {
    all_times = length-set ts v j.time ∙ so.all_times;
    all_preds = length-set ps v j.preds ∙ so.all_preds;
    asked = asked_more (job_asked us) v so.asked now.all_hold;
    rows = λ w l. elim (cases_eq w v) [
      | inl e ↦ let P : ℕ → Type 0 = λ k. RowRead us k (time_at (set ts v j.time) k) (preds_at (set ps v j.preds) k) in subst P (sym e) here
      | inr n ↦ else w (omega arith)
    ];
  }

-- one of them is refused, or all are read
pub rows_stop : (us : List ℕ) (n v : ℕ) (ts : List ℕ) (ps : List JobSet) (f : Fault) → v < n → SoFar us v ts ps → Refused (job_asked us v) f (Unit {0}) → Refused (asked_below (job_asked us) n) f (Unit {0})
rows_stop us n v ts ps f l so r = record { fails = asked_stops (job_asked us) n v (said f) l so.asked r.fails; keeps = tt }
