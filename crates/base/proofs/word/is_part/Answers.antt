-- A word is a part of another where no digit of it is left without the other.
use Rattle.std.proofs.Common.{arith}
use Rattle.std.proofs.lemmas.Bool.{eqb-true, eq-eqb}
use Rattle.base.specs.JobSets.{Empty, Subset}
use Rattle.base.proofs.Digits.{has-zero}
use Rattle.base.proofs.Members.{bare_is_zero, part_size}
use Rattle.base.proofs.word.is_part.Goals as goal

pub returns : goal.returns
returns c =
    let a = c.args.a in
    let b = c.args.b in
    let left = c.and_not.result in
    let to : Empty left → Subset a b = λ none u m. grind (arith, none u, c.and_not.ensures u) in
    let from : Subset a b → Empty left = λ p u. grind (arith, p u, c.and_not.ensures u) in
    record {
      part = (λ t. to (rw (eqb-true left 0 t) has-zero), λ p. eq-eqb left 0 (bare_is_zero left (omega arith) (from p)));
      smaller = λ t. part_size 64 a b (λ u l. to (rw (eqb-true left 0 t) has-zero) u);
    }
