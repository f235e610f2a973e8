-- An iterator over the members of a set gives the list of the members.
use Rattle.std.proofs.Common.{ℕ, List, length, ap}
use Rattle.std.proofs.lemmas.Iterator.{YieldsList}
use Rattle.std.proofs.lemmas.Iterator.Consumers.{YieldsList-from_shown}
use Rattle.base.specs.JobSets.{GivesNext}

-- In a loop `for v in set.members()` two ways lead to what has come and what is to come.
-- An invariant can speak of what is to come, `l.v-iterator`, which is a list: a turn takes its first entry away.
-- Or it speaks of `l.yielded`: std's `YieldsList-turn` and `YieldsList-end` take `members_road it`, where `it` is the iterator
-- before the loop, `c.into_iter-v-iterator.result`.
pub members_road : (it : List ℕ) → YieldsList GivesNext (λ x. x) it it
members_road = YieldsList-from_shown GivesNext (λ x. x) (λ it. it) (λ s t h. ap length h.0) (λ s x t h. h)
