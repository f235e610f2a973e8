-- What the bits of a graph's card show, field by field.
use Rattle.std.proofs.Common.{◌≡◌, ℕ, zero, suc, ◌+◌, ◌-◌, ◌<◌, List, [], ◌++◌, length, replicate, None, subst, sym, ap, ◌∙◌, inl, inr, arith}
use Rattle.std.proofs.lemmas.List.{length-append, append_assoc, append-nil}
use Rattle.std.proofs.lemmas.Bool.{cases_lt}
use Rattle.base.specs.declared.job_set.JobSet.{JobSet}
use Rattle.base.proofs.Asking.{inside}
use Rattle.bits.specs.Bytes.{filled}
use Rattle.bits.specs.Fields.{field, bits_of}
use Rattle.bits.specs.Trailing.{whole}
use Rattle.bits.proofs.Filling.{bytes_hold_bits}
use Rattle.bits.proofs.Packing.{length-field}
use Rattle.graph.specs.declared.graph.Graph.{Graph}
use Rattle.graph.specs.Rules.{time_at, preds_at}
use Rattle.graph.specs.Graphs.{time_of, preds_of}
use Rattle.base.specs.Questions.{first_no}
use Rattle.card.specs.Heading.{head, heading, Headed}
use Rattle.card.proofs.Heads.{behind, cut_behind, length-head, head_reads_back}
use Rattle.graph_card.specs.Layout.{marks, row, rows, start, fields}
use Rattle.graph_card.specs.Cards.{fields_of, card}
use Rattle.graph_card.specs.Parts.{RowRead}
use Rattle.graph_card.proofs.Marking.{length-marks}
use Rattle.graph_card.proofs.Putting.{length-rows, bits_fields}

-- ---- the rows behind those of the jobs below v

later : (ts : List ℕ) (ps : List JobSet) (v n : ℕ) → v < n → (rest : List ℕ) × (rows ts ps n ≡ rows ts ps v ++ (row (time_at ts v) (preds_at ps v) v ++ rest))
unfolding rows
later ts ps v zero l = absurd (omega arith)
later ts ps v (suc n) l = elim (cases_lt v n) [
  | inl h ↦ let w = later ts ps v n h in
      let more = row (time_at ts n) (preds_at ps n) n in (
        w.0 ++ more,
        (ap (λ ys. ys ++ more) w.1 ∙ append_assoc (rows ts ps v) (row (time_at ts v) (preds_at ps v) v ++ w.0) more
            ∙ ap (λ ys. rows ts ps v ++ ys) (append_assoc (row (time_at ts v) (preds_at ps v) v) w.0 more)),
      )
  | inr h ↦ let e : v ≡ n = omega arith in
      ([], rw e (ap (λ ys. rows ts ps n ++ ys) (sym (append-nil (row (time_at ts n) (preds_at ps n) n)))))
]

module _ (g : Graph) (us zs : List ℕ) (is : us ≡ fields_of g ++ zs) where
  abbrev n : ℕ
  n = g.jobs

  abbrev top : List ℕ
  top = head g.jobs g.crews g.layover

  abbrev low : List ℕ
  low = rows g.times g.preds g.jobs

  split : us ≡ top ++ (low ++ zs)
  unfolding fields
  split = is ∙ append_assoc top low zs

  -- the head is not refused, and says what the graph says
  pub head_shown : (first_no (heading us) ≡ None) × Headed us g.jobs g.crews g.layover
  head_shown =
      let law = head_reads_back g.jobs g.crews g.layover (low ++ zs)
      (record { some_jobs = g.some_jobs; few_jobs = g.few_jobs; some_crews = g.some_crews; few_crews = g.few_crews; some_layover = g.some_layover; short_layover = g.short_layover }) in
      let P : List ℕ → Type 0 = λ xs. (first_no (heading xs) ≡ None) × Headed xs g.jobs g.crews g.layover in
      subst P (sym split) law

  pub row_shown : (v : ℕ) → v < g.jobs → RowRead us v (time_of g v) (preds_of g v)
  row_shown v l =
      let w = later g.times g.preds v g.jobs l in
      let t = field 11 (time_of g v) in
      let s = marks (preds_of g v) v in
      let before = rows g.times g.preds v in
      let rest = w.0 ++ zs in
      let at : us ≡ (top ++ before) ++ (t ++ (s ++ rest)) =
      split ∙ ap (λ ys. top ++ (ys ++ zs)) w.1 ∙ simp append_assoc in
      let a : length (top ++ before) ≡ start v = length-append top before ∙ (let x = length-head g.jobs g.crews g.layover in let y = length-rows g.times g.preds v in omega arith) in
      let b : length ((top ++ before) ++ t) ≡ start v + 11 = length-append (top ++ before) t ∙ (let x = length-field 11 (time_of g v) in omega arith) in
      let range = g.timed v l in
      let most = range.1 in
      record {
        time = record { got = behind us (top ++ before) (start v) 11 (time_of g v) (s ++ rest) at a (omega arith); lawful = inside 1 (time_of g v) 1440 range.0 range.1 };
        preds = record {
          same_bits = cut_behind us ((top ++ before) ++ t) s rest (start v + 11) v (at ∙ sym (append_assoc (top ++ before) t (s ++ rest))) b (length-marks (preds_of g v) v);
          lower = λ u m. g.lower u v m;
          some = elim (cases_lt v 1) [ inl z ↦ inl (omega arith) | inr p ↦ inr (g.preceded v p l) ];
        };
      }

-- the bits of the card
pub card_bits : (g : Graph) → bits_of (card g) ≡ fields_of g ++ replicate (whole (length (fields_of g)) - length (fields_of g)) 0
unfolding filled
card_bits g = bytes_hold_bits (fields_of g) (bits_fields g)
