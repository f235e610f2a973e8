-- The numbers of jobs that pass the test, added one after the other. From n up none does.
use Rattle.std.proofs.Common.{◌≡◌, ℕ, ◌≤◌, false, ◌&&◌, ltb, refl, ap, sym, ◌∙◌, inl, inr, rules, arith}
use borrow.Author.Tests.{tests}
use Rattle.std.proofs.lemmas.Bool.{cases_lt, and_right, lt-ltb}
use Rattle.std.proofs.lemmas.Iterator.{YieldsList-from_range}
use Rattle.std.proofs.lemmas.Iterator.Consumers.{YieldsList-from_filter, fold_from_yields_List}
use Rattle.base.specs.JobSets.{has}
use Rattle.base.proofs.Digits.{has-zero}
use Rattle.base.proofs.Adding.{added, added_is, has-fold_filtered}
use Rattle.graph.specs.Graphs.{is_pred}
use Rattle.graph.proofs.graph.Graph.preceded_by.Goals as goal

pub returns : goal.returns
returns c = λ w.
    let g = c.args.self.now in
    let test = λ (w : ℕ). is_pred g c.args.v w in
    let bare : g.jobs ≤ w → test w ≡ false = λ l. ap (λ s. has s c.args.v) (g.unpreceded w l) ∙ has-zero c.args.v in
    let all : (ltb w g.jobs && test w) ≡ test w = elim (cases_lt w g.jobs) [
      | inl l ↦ rw (lt-ltb w g.jobs l)
      | inr l ↦ and_right (ltb w g.jobs) (test w) (bare l) ∙ sym (bare l)
    ] in
    let e = fold_from_yields_List _ added c.empty.result c.fold.result c.fold.ensures.ran
    (YieldsList-from_filter _ test (YieldsList-from_range 0 g.jobs g.jobs c.filter.ensures.source (omega arith)) c.filter.ensures.closure (λ x b q k. search (rules, tests)))
    (λ a x b q k. (refl, added_is a x b (search rules))) in
    rw e (has-fold_filtered test g.jobs w c.empty.result c.empty.ensures.value g.few_jobs ∙ all)
