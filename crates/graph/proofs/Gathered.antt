-- The union of the predecessors of the first jobs.
use Rattle.std.proofs.Common.{◌≡◌, ℕ, zero, suc, ◌≤◌, ◌||◌, List, length, take, add-one, refl, sym, ap, ap₂, ◌∙◌, arith}
use lib.Bits.{bit_or}
use Rattle.std.specs.List.{fold}
use Rattle.std.proofs.lemmas.List.{take_more}
use Rattle.std.proofs.lemmas.List.Sums.{fold-append}
use Rattle.base.specs.declared.job_set.JobSet.{JobSet}
use Rattle.base.specs.JobSets.{has}
use Rattle.base.proofs.Digits.{has-zero, has-or}
use Rattle.base.proofs.Members.{same_sets}
use Rattle.graph.specs.Rules.{none, precedes, has_succ}
use Rattle.graph.proofs.Below.{any_none, any_more}

-- the union of two sets
abbrev pub both : JobSet → JobSet → JobSet
both a b = record { bits = bit_or a.bits b.bits }

-- a set that has the members of two sets is their union
pub joined : (a b c : JobSet) → ((u : ℕ) → has c.bits u ≡ (has a.bits u || has b.bits u)) → c ≡ both a b
joined a b c h = same_sets c (both a b) (λ u. h u ∙ sym (has-or a.bits b.bits u))

pub gathered : (ps : List JobSet) (n : ℕ) (s : JobSet) → s.bits ≡ 0 → n ≤ length ps → (u : ℕ) → has (fold both s (take n ps)).bits u ≡ has_succ (precedes ps) n u
gathered ps zero s bare l u = ap (λ n. has n u) bare ∙ has-zero u ∙ sym (any_none (λ v. precedes ps u v))
gathered ps (suc n) s bare l u =
    rw (← add-one n, take_more ps n none (omega arith), fold-append)
    (has-or _ _ u ∙ ap₂ (λ x y. x || y) (gathered ps n s bare (omega arith) u) refl ∙ sym (any_more (λ v. precedes ps u v) n))
