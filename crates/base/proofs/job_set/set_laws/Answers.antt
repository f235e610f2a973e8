-- The laws of sets of job numbers.
use Rattle.std.proofs.Common.{length, arith}
use Rattle.base.specs.JobSets.{members_below}
use Rattle.base.proofs.Digits.{has_below}
use Rattle.base.proofs.Members.{same_members, ascending, listed, place, size_within, part_size, union_size}
use Rattle.base.proofs.job_set.set_laws.Goals as goal

pub returns : goal.returns
returns c = record {
  same = same_members;
  ascending = ascending 64;
  listed = λ s k l. let w = listed 64 s k l in (w.0, omega (arith, w.1));
  complete = λ s v p m. let w = place 64 v s (has_below s v p m) m in (length (members_below s v), w.0, w.1);
  sizes = size_within 64;
  parts = λ a b h. part_size 64 a b (λ u l. h u);
  unions = λ a b d p h. union_size 64 a b d (λ u l. p u) (λ u l. h u);
}
