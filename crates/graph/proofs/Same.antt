-- Graphs with the same parts are the same value.
use Rattle.std.proofs.Common.{◌≡◌, ℕ, ◌≤◌, Bool, true, false, ◌&&◌, ◌==◌, Decides, sym, refl, ap, ◌∙◌, subst, inl, inr, arith}
use denote.Struct.Declared.{one_follows}
use Rattle.graph.specs.contracts.graph.Graph.{the_type}
use Rattle.std.proofs.lemmas.List.{ext_get_or}
use Rattle.std.proofs.lemmas.Bool.{cases_lt, cases_Bool, eq-eqb, and_parts, and_from}
use Rattle.std.proofs.lemmas.Bool.Decides.{Decides-eqb, nat_tests}
use Rattle.std.proofs.lemmas.Slice.Eq.{slice_eq-Decides}
use Rattle.base.specs.JobSets.{has}
use Rattle.base.proofs.Members.{same_sets, set_known}
use Rattle.graph.specs.declared.graph.Graph.{Graph}
use Rattle.graph.specs.Rules.{none}
use Rattle.graph.specs.Graphs.{time_of, is_pred}
use Rattle.graph.specs.Alike.{sizes_alike, times_alike, preds_alike, jobs_alike, alike}
use Rattle.graph.specs.Laws.{SameParts, KnownByParts}

-- the rules of a graph are propositions, so that its parts decide it
pub by_parts : (g h : Graph) → g.jobs ≡ h.jobs → g.crews ≡ h.crews → g.layover ≡ h.layover → g.times ≡ h.times → g.preds ≡ h.preds → g ≡ h
by_parts g h n m d ts ps = one_follows the_type g h cc

-- ---- what is said of the jobs decides the parts

module _ (g h : Graph) (same : SameParts g h) where
  time_same : (v : ℕ) → time_of g v ≡ time_of h v
  time_same v = elim (cases_lt v g.jobs) [
    | inl l ↦ same.times v l
    | inr p ↦ g.untimed v p ∙ sym (h.untimed v (let e = same.jobs in omega arith))
  ]

  pred_same : (v u : ℕ) → is_pred g u v ≡ is_pred h u v
  pred_same v u = elim (cases_lt v g.jobs) [
    | inl l ↦ elim (cases_lt u v) [
      | inl m ↦ same.preds u v m l
      | inr m ↦ not_low g v u m ∙ sym (not_low h v u m)
    ]
    | inr p ↦ ap (λ s. has s u) (g.unpreceded v p ∙ sym (h.unpreceded v (let e = same.jobs in omega arith)))
  ]
    where
      not_low : (k : Graph) (w x : ℕ) → w ≤ x → is_pred k x w ≡ false
      not_low k w x m = elim (cases_Bool (is_pred k x w)) [ inl t ↦ absurd (let l = k.lower x w t in omega arith) | inr f ↦ f ]

  times_same : g.times ≡ h.times
  times_same = ext_get_or 0 g.times h.times (g.all_times ∙ sym h.all_times) (λ v l. time_same v)

  preds_same : g.preds ≡ h.preds
  preds_same = ext_get_or none g.preds h.preds (g.all_preds ∙ sym h.all_preds) (λ v l. same_sets _ _ (pred_same v))

  pub same_graph : g ≡ h
  same_graph = by_parts g h same.jobs same.crews same.layover times_same preds_same

pub known_by_parts : KnownByParts
known_by_parts = same_graph

-- ---- what `==` tests

module _ (g h : Graph) where
  times_same_decided : Decides (times_alike g h) (g.times ≡ h.times)
  times_same_decided = slice_eq-Decides Decides-eqb g.times h.times (times_alike g h) refl

  preds_same_decided : Decides (preds_alike g h) (g.preds ≡ h.preds)
  preds_same_decided = slice_eq-Decides set_known g.preds h.preds (preds_alike g h) refl

  sizes_same : sizes_alike g h ≡ true → (g.jobs ≡ h.jobs) × (g.crews ≡ h.crews) × (g.layover ≡ h.layover)
  sizes_same e = grind (arith, nat_tests)

  -- graphs that are alike are the same value, and no others
  pub alike_decides : Decides (alike g h) (g ≡ h)
  alike_decides = (
    (λ e. let p = and_parts (sizes_alike g h) (jobs_alike g h) e in
        let q = and_parts (times_alike g h) (preds_alike g h) p.1 in
        let s = sizes_same p.0 in
        by_parts g h s.0 s.1 s.2 (times_same_decided.0 q.0) (preds_same_decided.0 q.1)),
    (λ t.
        let sizes : sizes_alike g h ≡ true = and_from ((g.jobs == h.jobs) && (g.crews == h.crews)) (g.layover == h.layover)
        (and_from (g.jobs == h.jobs) (g.crews == h.crews) (eq-eqb g.jobs h.jobs (ap (λ (k : Graph). k.jobs) t)) (eq-eqb g.crews h.crews (ap (λ (k : Graph). k.crews) t)))
        (eq-eqb g.layover h.layover (ap (λ (k : Graph). k.layover) t)) in
        and_from (sizes_alike g h) (jobs_alike g h) sizes
        (and_from (times_alike g h) (preds_alike g h) (times_same_decided.1 (ap (λ (k : Graph). k.times) t)) (preds_same_decided.1 (ap (λ (k : Graph). k.preds) t)))),
  )

pub decided : (g h : Graph) (b : Bool) → b ≡ alike g h → Decides b (g ≡ h)
decided g h b e = subst (λ (x : Bool). Decides x (g ≡ h)) (sym e) (alike_decides g h)
