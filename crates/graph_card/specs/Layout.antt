-- Which bits a work card has, over the parts of a graph.
use Rattle.std.specs.Prelude.{◌≡◌, ℕ, zero, suc, ◌+◌, cond, List, [], ◌∷◌, ◌++◌}
use Rattle.base.specs.declared.job_set.JobSet.{JobSet}
use Rattle.base.specs.JobSets.{has}
use Rattle.bits.specs.Bytes.{bytes_of}
use Rattle.bits.specs.Fields.{field}
use Rattle.card.specs.Heading.{head}
use Rattle.graph.specs.Making.{AllBelow}
use Rattle.graph.specs.Rules.{time_at, preds_at}

-- A predecessor field: one bit for each of the jobs below v, job 0 first, which is 1 where the job is a member of s.
unfoldable pub marks : ℕ → ℕ → List ℕ
marks s zero = []
marks s (suc v) = marks s v ++ cond (has s v) 1 0 ∷ []

-- A predecessor field of job v that holds the number x has the bits of the set s, all of whose members are below v.
pub record MarkedBy (x v s : ℕ) : Type 0 where
  pub bits : field v x ≡ marks s v
  pub lower : AllBelow s v

-- The fields of job v: its longest time t, and its predecessors s.
abbrev pub row : ℕ → ℕ → ℕ → List ℕ
row t s v = field 11 t ++ marks s v

-- Those of each job below n.
unfoldable pub rows : List ℕ → List JobSet → ℕ → List ℕ
rows ts ps zero = []
rows ts ps (suc v) = rows ts ps v ++ row (time_at ts v) (preds_at ps v) v

-- The bit at which the fields of job v begin.
unfoldable pub start : ℕ → ℕ
start zero = 33
start (suc v) = start v + (11 + v)

-- All fields of a card, and the card as bytes, with zeros up to a whole byte.
unfoldable pub fields : ℕ → ℕ → ℕ → List ℕ → List JobSet → List ℕ
fields n m d ts ps = head n m d ++ rows ts ps n

abbrev pub card_of : ℕ → ℕ → ℕ → List ℕ → List JobSet → List ℕ
card_of n m d ts ps = bytes_of (fields n m d ts ps)
