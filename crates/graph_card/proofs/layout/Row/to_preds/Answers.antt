-- The jobs that the number marks, added one after the other.
use Rattle.std.proofs.Common.{◌≡◌, ℕ, ◌-◌, ◌/◌, ◌^◌, ◌&&◌, eqb, ltb, bit_and, refl, sym, ◌∙◌, rules, arith}
use borrow.Author.Tests.{tests}
use Rattle.std.proofs.lemmas.Bool.{and_parts, ltb-true}
use Rattle.std.proofs.lemmas.Iterator.{YieldsList-from_range}
use Rattle.std.proofs.lemmas.Iterator.Consumers.{YieldsList-from_filter, fold_from_yields_List}
use Rattle.base.specs.JobSets.{has}
use Rattle.base.proofs.Adding.{added, added_is, has-fold_filtered}
use Rattle.graph_card.proofs.Marking.{marks_field}
use Rattle.graph_card.proofs.layout.Row.to_preds.Goals as goal

pub returns : goal.returns
returns c =
    let x = c.args.number in
    let v = c.args.self.job in
    let test = λ (u : ℕ). eqb (bit_and (x / 2 ^ (v - 1 - u)) 1) 1 in
    let e = fold_from_yields_List _ added c.empty.result c.fold.result c.fold.ensures.ran
    (YieldsList-from_filter _ test (YieldsList-from_range 0 v v c.filter.ensures.source (omega arith)) c.filter.ensures.closure (λ y b q k. search (rules, tests)))
    (λ a y b q k. (refl, added_is a y b (search rules))) in
    let all : (u : ℕ) → has c.fold.result.bits u ≡ (ltb u v && test u) = λ u. rw e (has-fold_filtered test v u c.empty.result c.empty.ensures.value (omega arith)) in
    record { bits = marks_field x v c.fold.result.bits all; lower = λ u m. ltb-true u v (and_parts (ltb u v) (test u) (sym (all u) ∙ m)).0 }
