-- Every graph keeps the rules.
use Rattle.std.proofs.Common.{◌≡◌, ℕ, ◌+◌, ◌<◌, true, false, length, ap, ◌∙◌, inl, inr, arith}
use Rattle.std.proofs.lemmas.Bool.{cases_lt, cases_Bool, both_ways}
use Rattle.base.specs.JobSets.{has}
use Rattle.base.proofs.Digits.{has-zero}
use Rattle.base.proofs.Members.{none_listed}
use Rattle.graph.specs.declared.graph.Graph.{Graph}
use Rattle.graph.specs.Graphs.{preds_of, is_pred}
use Rattle.graph.specs.Laws.{KeepsRules, RulesKept}
use Rattle.graph.proofs.Below.{any_which}

module _ (g : Graph) where
  -- a job with a predecessor is one of the n jobs
  within : (u v : ℕ) → is_pred g u v ≡ true → v < g.jobs
  within u v h = elim (cases_lt v g.jobs) [
    | inl l ↦ l
    | inr p ↦ absurd (both_ways (is_pred g u v) (ap (λ s. has s u) (g.unpreceded v p) ∙ has-zero u) h)
  ]

  not_so : (u v : ℕ) → (u < v → v < g.jobs → ⊥) → is_pred g u v ≡ false
  not_so u v n = elim (cases_Bool (is_pred g u v)) [ inl t ↦ absurd (n (g.lower u v t) (within u v t)) | inr f ↦ f ]

  rules_of : KeepsRules g
  rules_of = record {
    jobs = (g.some_jobs, g.few_jobs);
    crews = (g.some_crews, g.few_crews);
    layover = (g.some_layover, g.short_layover);
    times = g.timed;
    lower = λ u v h. (g.lower u v h, within u v h);
    first = λ u. not_so u 0 (λ l m. omega arith);
    first_alone = λ v l h. elim (cases_lt v 1) [ inl z ↦ omega arith | inr p ↦ absurd (let a = g.preceded v p l in let b = ap length (none_listed (preds_of g v) h) in omega arith) ];
    last = λ u e v. not_so u v (λ l m. omega arith);
    last_alone = λ u l h. elim (cases_lt (u + 1) g.jobs) [
      | inl p ↦ let w = any_which (λ v. is_pred g u v) g.jobs (g.succeeded u p) in absurd (both_ways (is_pred g u w.0) (h w.0) w.2)
      | inr p ↦ omega arith
    ];
    no_more = λ v l. (g.untimed v l, g.unpreceded v l);
  }

pub rules_kept : RulesKept
rules_kept = rules_of
