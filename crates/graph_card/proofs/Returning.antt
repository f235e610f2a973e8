-- One graph, one card.
use Rattle.std.proofs.Common.{◌≡◌, ℕ, zero, suc, ◌+◌, ◌-◌, ◌≤◌, Bool, true, false, cond, leb, List, [], length, get_or, None, Ok, Err, sym, refl, ap, ◌∙◌, inl, inr, arith}
use Rattle.std.proofs.lemmas.Bool.{cases_lt, cases_Bool, le-leb}
use Rattle.base.specs.declared.fault.Layer.TheVariants.{Graph as GraphLayer}
use Rattle.base.specs.JobSets.{has, size}
use Rattle.base.specs.Refusal.{says}
use Rattle.base.specs.Questions.{ask, first_no, asked_below}
use Rattle.base.proofs.Asking.{passed, nothing_asked, all_passed, asked_all}
use Rattle.base.proofs.Digits.{has-zero}
use Rattle.base.proofs.Members.{members_bare}
use Rattle.bits.specs.Bytes.{filled}
use Rattle.bits.specs.Fields.{field, number, bits_of, cut, value_at}
use Rattle.bits.proofs.Determining.{value_gives_bits}
use Rattle.bits.proofs.Filling.{bytes_hold_bits, filled_not_at_fault}
use Rattle.graph.specs.declared.graph.Graph.{Graph}
use Rattle.graph.specs.Limits.{time_allowed}
use Rattle.graph.specs.Rules.{has_succ}
use Rattle.graph.specs.Graphs.{is_pred}
use Rattle.graph.specs.Making.{AllBelow, succ_asked, succs_asked}
use Rattle.graph.proofs.Below.{any_same}
use Rattle.graph.proofs.Same.{same_graph}
use Rattle.card.specs.Heading.{there, heading, jobs_of}
use Rattle.graph_card.specs.Layout.{marks, start}
use Rattle.graph_card.specs.Asking.{preds_asked, time_asked, job_asked, marked, filling, asked_of, questions}
use Rattle.graph_card.specs.Cards.{fields_of, card}
use Rattle.graph_card.specs.Laws.{ReadsBack, OneGraph, OneCard, Largest}
use Rattle.graph_card.specs.Parts.{Lasting, RowRead}
use Rattle.graph_card.proofs.Closing.{nothing_behind}
use Rattle.graph_card.proofs.Drafting.{marked_is}
use Rattle.graph_card.proofs.Marking.{get_or-marks, marks_zero, marks_small, length-marks}
use Rattle.graph_card.proofs.Putting.{length-card, length_fields, bits_fields}
use Rattle.graph_card.proofs.Spacing.{start_range}
use Rattle.graph_card.proofs.Rowing.{row_room}
use Rattle.graph_card.proofs.Showing.{head_shown, row_shown, card_bits}

-- marks of a set with a member write a number from 1 up
marks_number : (s v : ℕ) → AllBelow s v → 1 ≤ size s → 1 ≤ number (marks s v)
marks_number s v low some = elim (cases_lt (number (marks s v)) 1) [
  | inl z ↦ absurd (
      let zero_is : number (marks s v) ≡ 0 = omega arith in
      let long = length-marks s v in
      let bare : field v 0 ≡ marks s v = ap (λ x. field v x) (sym zero_is) ∙ ap (λ n. field n (number (marks s v))) (sym long) ∙ value_gives_bits (marks s v) (marks_small s v) in
      let none : size s ≡ 0 = ap length (members_bare 64 s (λ u l. out bare u)) in
      omega arith)
  | inr g ↦ g
]
  where
    out : field v 0 ≡ marks s v → (u : ℕ) → has s u ≡ false
    out e u = elim (cases_lt u v) [
      | inl l ↦ go (has s u) (sym (get_or-marks s v u l) ∙ ap (λ ys. get_or ys u 0) (sym e ∙ sym (marks_zero v)) ∙ get_or-marks 0 v u l ∙ ap (λ b. cond b 1 0) (has-zero u))
      | inr p ↦ elim (cases_Bool (has s u)) [ inl t ↦ absurd (let q = low u t in omega arith) | inr f ↦ f ]
    ]
      where
        go : (b : Bool) → cond {A = ℕ} b 1 0 ≡ 0 → b ≡ false
        go true q = absurd (omega arith)
        go false q = refl

-- ---- the questions about the fields of a job that were read

preds_hold : (us : List ℕ) (v t s : ℕ) → RowRead us v t s → first_no (preds_asked us (start v + 11) v) ≡ None
unfolding value_at
preds_hold us zero t s r = nothing_asked
preds_hold us (suc v) t s r =
    let room = row_room us (suc v) t s r in
    let some : 1 ≤ size s = elim r.preds.some [ inl z ↦ absurd (omega arith) | inr h ↦ h ] in
    let q : 1 ≤ number (cut us (start (suc v) + 11) (suc v)) = rw r.preds.same_bits (marks_number s (suc v) r.preds.lower some) in
    passed (there us (start (suc v) + 11) (suc v)) _ (le-leb (start (suc v) + 11 + suc v) (length us) (omega arith))
    ∙ passed (ask (leb 1 (number (cut us (start (suc v) + 11) (suc v)))) (says 7 (suc v) GraphLayer)) [] (le-leb 1 (number (cut us (start (suc v) + 11) (suc v))) q) ∙ nothing_asked

time_holds : (us : List ℕ) (p v t : ℕ) → Lasting us p t → first_no (time_asked us p v) ≡ None
time_holds us p v t r =
    passed (there us p 11) _ (le-leb (p + 11) (length us) r.got.there)
    ∙ passed (ask (time_allowed (value_at us p 11)) (says 6 v GraphLayer)) [] (ap time_allowed (sym r.got.value) ∙ r.lawful) ∙ nothing_asked

job_holds : (us : List ℕ) (v t s : ℕ) → RowRead us v t s → first_no (job_asked us v) ≡ None
unfolding job_asked
job_holds us v t s r =
    all_passed (time_asked us (start v) v) (preds_asked us (start v + 11) v) (time_holds us (start v) v t r.time) ∙ preds_hold us v t s r

-- ---- all questions about the card of a graph

module _ (g : Graph) where
  abbrev pub us : List ℕ
  us = bits_of (card g)

  heading_holds : first_no (heading us) ≡ None
  heading_holds = (head_shown g us _ (card_bits g)).0

  pub jobs_shown : g.jobs ≡ jobs_of us
  jobs_shown = (head_shown g us _ (card_bits g)).1.jobs

  rows_hold : first_no (asked_below (job_asked us) g.jobs) ≡ None
  rows_hold = asked_all (job_asked us) g.jobs (λ v l. job_holds us v _ _ (row_shown g us _ (card_bits g) v l))

  succs_hold : first_no (succs_asked (marked us) g.jobs) ≡ None
  succs_hold = asked_all (succ_asked (marked us) g.jobs) (g.jobs - 1) (λ u l.
      let e : has_succ (marked us) g.jobs u ≡ true =
      any_same (λ v. marked us u v) (λ v. is_pred g u v) g.jobs (λ v h. marked_is us v _ _ u (row_shown g us _ (card_bits g) v h)) ∙ g.succeeded u (omega arith) in
      passed (ask (has_succ (marked us) g.jobs u) (says 8 u GraphLayer)) [] e ∙ nothing_asked)

  filling_holds : first_no (filling us (start g.jobs)) ≡ None
  filling_holds =
      rw (← length_fields g) (rw (bytes_hold_bits (fields_of g) (bits_fields g)) (nothing_behind (filled (fields_of g)) (length (fields_of g)) (filled_not_at_fault (fields_of g))))

  pub all_questions : first_no (questions us) ≡ None
  unfolding asked_of
  all_questions =
      rw (← jobs_shown) (all_passed (heading us) _ heading_holds ∙ all_passed (asked_below (job_asked us) g.jobs) _ rows_hold ∙ all_passed (succs_asked (marked us) g.jobs) _ succs_hold ∙ filling_holds)

-- ---- the laws

pub one_graph : OneGraph
one_graph g h e =
    let us = bits_of (card g) in
    let is : us ≡ _ = ap bits_of e ∙ card_bits h in
    let a = (head_shown g us _ (card_bits g)).1 in
    let b = (head_shown h us _ is).1 in
    let n : g.jobs ≡ h.jobs = a.jobs ∙ sym b.jobs in
    same_graph g h record {
      jobs = n;
      crews = a.crews ∙ sym b.crews;
      layover = a.layover ∙ sym b.layover;
      times = λ v l. (row_shown g us _ (card_bits g) v l).time.got.value ∙ sym (row_shown h us _ is v (omega arith)).time.got.value;
      preds = λ u v m l. sym (marked_is us v _ _ u (row_shown g us _ (card_bits g) v l)) ∙ marked_is us v _ _ u (row_shown h us _ is v (omega arith));
    }

pub reads_back : ReadsBack
reads_back g old new (Ok x) t = (refl, sym (one_graph g new t.does))
reads_back g old new (Err f) t = let z : ◌≡◌ {A = ℕ} 0 1 = cc (all_questions g, t.fails) in absurd (omega arith)

pub one_card : OneCard
one_card bytes others old old' g a b = a.does ∙ sym b.does

pub largest : Largest
largest g = let e = length-card g in let r = start_range g.jobs g.few_jobs in let h = r.1 in omega arith
