-- What was read as a draft, and made a graph: question 9 alone is left, and the fields are those of the graph.
use Rattle.std.proofs.Common.{◌≡◌, ℕ, zero, suc, ◌+◌, ◌-◌, ◌<◌, ◌≤◌, eqb, List, [], ◌∷◌, ◌++◌, length, get_or, take, drop, Some, None, Ok, Err, Result, sym, refl, ap, ◌∙◌, ap₂, inl, inr, add_assoc, arith, length-take}
use Rattle.std.proofs.lemmas.List.{append_assoc, append-nil, get_or-take, get_or-drop}
use Rattle.std.proofs.lemmas.Bool.{cases_lt, cases_Bool, lt-ltb, le-ltb}
use Rattle.std.proofs.Math.Seq.{take-add}
use Rattle.base.specs.declared.fault.Fault.{Fault}
use Rattle.base.specs.declared.job_set.JobSet.{JobSet}
use Rattle.base.specs.JobSets.{has}
use Rattle.base.specs.declared.fault.Layer.TheVariants.{Graph as GraphLayer}
use Rattle.base.specs.Refusal.{says, said}
use Rattle.base.specs.Questions.{ask, first_no, asked_below, Taken, Refused}
use Rattle.base.proofs.Asking.{all_passed, one_failed, asked_all, asked_same, inside}
use Rattle.bits.specs.Fields.{field, cut, bits_of}
use Rattle.graph.specs.declared.draft.Draft.{Draft}
use Rattle.graph.specs.declared.graph.Graph.{Graph}
use Rattle.graph.specs.Rules.{time_at, preds_at, precedes}
use Rattle.graph.specs.Making.{sizes_asked, jobs_asked, succs_asked, making, Makes, Made}
use Rattle.card.specs.Heading.{head, heading, Headed, jobs_of}
use Rattle.card.specs.declared.header.Header.{Header}
use Rattle.card.proofs.Heads.{length-head}
use Rattle.graph_card.specs.Layout.{marks, row, rows, start, fields}
use Rattle.graph_card.specs.Asking.{job_asked, marked, filling, asked_of, questions}
use Rattle.graph_card.specs.Cards.{fields_of}
use Rattle.graph_card.specs.declared.read.Rows.{Rows}
use Rattle.graph_card.specs.Parts.{RowRead, RowsRead, Drafted, ReadsUnfilled}
use Rattle.graph.proofs.Asked.{sizes_in, job_in, preds_in}
use Rattle.graph.proofs.Below.{any_same}
use Rattle.graph.proofs.Stopping.{last_kind}
use Rattle.graph_card.proofs.Marking.{get_or-marks, mark_bit}
use Rattle.graph_card.proofs.Rowing.{row_room}
use Rattle.graph_card.proofs.Spacing.{start_zero, start_suc}

-- ---- where the questions stop

module _ (us : List ℕ) where
  pub at_head : (f : Fault) → Refused (heading us) f (Unit {0}) → first_no (questions us) ≡ Some (said f)
  unfolding asked_of
  at_head f r = one_failed (heading us) _ (said f) r.fails

  pub at_rows : (f : Fault) (h : Header) (n : ℕ) → Taken (heading us) (Headed us h.jobs h.crews h.layover) → n ≡ h.jobs → Refused (asked_below (job_asked us) n) f (Unit {0}) → first_no (questions us) ≡ Some (said f)
  unfolding asked_of
  at_rows f h n t e r = rw (← e ∙ t.does.jobs) (all_passed (heading us) _ t.all_hold ∙ one_failed (asked_below (job_asked us) n) _ (said f) r.fails)

  pub past_rows : (n : ℕ) → n ≡ jobs_of us → first_no (heading us) ≡ None → first_no (asked_below (job_asked us) n) ≡ None → first_no (questions us) ≡ first_no (succs_asked (marked us) n ++ filling us (start n))
  unfolding asked_of
  past_rows n e a b = rw (← e) (all_passed (heading us) _ a ∙ all_passed (asked_below (job_asked us) n) _ b)

-- a head and rows that were read are a draft that was read
pub drafted : (us : List ℕ) (h : Header) (n m d : ℕ) (ts : List ℕ) (ps : List JobSet) → n ≡ h.jobs → m ≡ h.crews → d ≡ h.layover → Taken (heading us) (Headed us h.jobs h.crews h.layover)
    → Taken (asked_below (job_asked us) n) (RowsRead us n ts ps) → Drafted us (record { jobs = n; crews = m; layover = d; times = ts; preds = ps })
drafted us h n m d ts ps a b c first rest = record {
  head = rw (a, b, c) first.does;
  ranges = rw (a, b, c) record { some_jobs = h.some_jobs; few_jobs = h.few_jobs; some_crews = h.some_crews; few_crews = h.few_crews; some_layover = h.some_layover; short_layover = h.short_layover };
  rows = rest.does;
  left = past_rows us n (a ∙ first.does.jobs) first.all_hold rest.all_hold;
}

-- ---- what the card says of predecessors is what the draft holds

cut_bit : (us : List ℕ) (p w i : ℕ) → i < w → get_or (cut us p w) i 0 ≡ get_or us (p + i) 0
cut_bit us p w i l = get_or-take w (drop p us) i 0 l ∙ get_or-drop p us i 0

pub marked_is : (us : List ℕ) (v t s u : ℕ) → RowRead us v t s → marked us u v ≡ has s u
marked_is us v t s u r = elim (cases_lt u v) [
  | inl l ↦ rw (lt-ltb u v l) (ap (λ b. eqb b 1) (sym (cut_bit us (start v + 11) v u l) ∙ ap (λ ys. get_or ys u 0) r.preds.same_bits ∙ get_or-marks s v u l) ∙ mark_bit (has s u))
  | inr g ↦ rw (le-ltb u v g) (sym (elim (cases_Bool (has s u)) [ inl h ↦ absurd (let l = r.preds.lower u h in omega arith) | inr f ↦ f ]))
]

-- ---- the bits of the fields

pub row_bits : (us : List ℕ) (v t s : ℕ) → RowRead us v t s → take (start v + (11 + v)) us ≡ take (start v) us ++ row t s v
row_bits us v t s r =
    ap (λ n. take n us) (sym (add_assoc (start v) 11 v)) ∙ take-add (start v + 11) v us ∙ ap₂ (λ xs ys. xs ++ ys) (take-add (start v) 11 us ∙ ap (λ ys. take (start v) us ++ ys) r.time.got.same_bits) r.preds.same_bits
    ∙ append_assoc (take (start v) us) (field 11 t) (marks s v)

module _ (us : List ℕ) (d : Draft) (r : Drafted us d) where
  front : (n : ℕ) → n ≤ d.jobs → take (start n) us ≡ head d.jobs d.crews d.layover ++ rows d.times d.preds n
  unfolding rows
  front zero l = ap (λ n. take n us) start_zero ∙ r.head.bits ∙ sym (append-nil (head d.jobs d.crews d.layover))
  front (suc n) l =
      ap (λ k. take k us) (start_suc n) ∙ row_bits us n _ _ (r.rows n (omega arith)) ∙ ap (λ ys. ys ++ row (time_at d.times n) (preds_at d.preds n) n) (front n (omega arith))
      ∙ append_assoc (head d.jobs d.crews d.layover) (rows d.times d.preds n) (row (time_at d.times n) (preds_at d.preds n) n)

  there : (n : ℕ) → n ≤ d.jobs → start n ≤ length us
  there zero l = let e = start_zero in let h = ap length r.head.bits in let k = length-head d.jobs d.crews d.layover in let m = length-take 33 us in omega arith
  there (suc n) l = let e = start_suc n in let h = row_room us n _ _ (r.rows n (omega arith)) in omega arith

  -- the questions about the draft that were asked while it was read
  sizes_hold : first_no (sizes_asked d.jobs d.crews d.layover) ≡ None
  sizes_hold = sizes_in d.jobs d.crews d.layover (inside 1 d.jobs 64 r.ranges.some_jobs r.ranges.few_jobs) (inside 1 d.crews 16 r.ranges.some_crews r.ranges.few_crews) (inside 1 d.layover 92160 r.ranges.some_layover r.ranges.short_layover)

  jobs_hold : first_no (jobs_asked d.times d.preds d.jobs) ≡ None
  jobs_hold = asked_all _ d.jobs (λ v l. let w = r.rows v l in
      job_in (time_at d.times v) (preds_at d.preds v) v w.time.lawful (preds_in (preds_at d.preds v) v w.preds.lower w.preds.some))

  same_succs : succs_asked (marked us) d.jobs ≡ succs_asked (precedes d.preds) d.jobs
  same_succs = asked_same _ _ (d.jobs - 1) (λ u l. ap (λ b. ask b (says 8 u GraphLayer) ∷ []) (any_same (λ v. marked us u v) (λ v. precedes d.preds u v) d.jobs (λ v h. marked_is us v _ _ u (r.rows v h))))

  -- so question 8 is the one that decides about the draft
  decides : first_no (making d) ≡ first_no (succs_asked (marked us) d.jobs)
  decides = last_kind d sizes_hold jobs_hold ∙ ap first_no (sym same_succs)

  rows_of : (g : Graph) → Made d g → (n : ℕ) → n ≤ d.jobs → rows d.times d.preds n ≡ rows g.times g.preds n
  unfolding rows
  rows_of g m zero l = refl
  rows_of g m (suc n) l =
      let t : time_at d.times n ≡ time_at g.times n = sym (m.times n ∙ rw (lt-ltb n d.jobs (omega arith))) in
      let s : preds_at d.preds n ≡ preds_at g.preds n = sym (m.preds n ∙ rw (lt-ltb n d.jobs (omega arith))) in
      ap₂ (λ xs ys. xs ++ ys) (rows_of g m n (omega arith)) (ap₂ (λ x y. row x y n) t s)

  -- the fields are those of the graph that was made
  fields_same : (g : Graph) → Made d g → take (start d.jobs) us ≡ fields_of g
  unfolding fields
  fields_same g m =
      front d.jobs (omega arith) ∙ rw (m.jobs, m.crews, m.layover) (ap (λ ys. head d.jobs d.crews d.layover ++ ys) (rows_of g m d.jobs (omega arith)))

  all_there : start d.jobs ≤ length us
  all_there = there d.jobs (omega arith)

  one_left : first_no (making d) ≡ None → first_no (questions us) ≡ first_no (filling us (start d.jobs))
  one_left e = r.left ∙ all_passed (succs_asked (marked us) d.jobs) _ (sym decides ∙ e)

  pub not_made : (f : Fault) → Refused (making d) f (Unit {0}) → first_no (questions us) ≡ Some (said f)
  not_made f t = r.left ∙ one_failed (succs_asked (marked us) d.jobs) _ (said f) (sym decides ∙ t.fails)

pub unfilled : (bs : List ℕ) (d : Draft) → Drafted (bits_of bs) d → (r : Result Graph Fault) → Makes d r → ReadsUnfilled bs r
unfilled bs d r (Ok g) t =
    let n = t.does.jobs in
    record {
      room = rw n (all_there (bits_of bs) d r);
      same_bits = ap (λ k. take (start k) (bits_of bs)) n ∙ fields_same (bits_of bs) d r g t.does;
      left = one_left (bits_of bs) d r t.all_hold ∙ ap (λ k. first_no (filling (bits_of bs) (start k))) (sym n);
    }
unfilled bs d r (Err f) t = not_made (bits_of bs) d r f t

-- what the function that reads all fields names
pub made : (bs : List ℕ) (h : Header) (n m d : ℕ) (rows : Rows) (r : Result Graph Fault) → Taken (heading (bits_of bs)) (Headed (bits_of bs) h.jobs h.crews h.layover) → n ≡ h.jobs → m ≡ h.crews → d ≡ h.layover
    → Taken (asked_below (job_asked (bits_of bs)) n) (RowsRead (bits_of bs) n rows.times rows.preds) → Makes (record { jobs = n; crews = m; layover = d; times = rows.times; preds = rows.preds }) r → ReadsUnfilled bs r
made bs h n m d rows r t a b c w = unfilled bs _ (drafted (bits_of bs) h n m d rows.times rows.preds a b c t w) r

pub ruleset all_but_last = (at_head, at_rows, made)
