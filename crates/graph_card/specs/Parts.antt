-- For the functions below `read` and `write`: what was read so far, and what was written so far.
use Rattle.std.specs.Prelude.{◌≡◌, ℕ, ◌+◌, ◌<◌, ◌≤◌, true, ◌⊎◌, List, ◌++◌, length, take, drop, Some, Ok, Err, Result}
use Rattle.base.specs.declared.fault.Fault.{Fault}
use Rattle.base.specs.declared.job_set.JobSet.{JobSet}
use Rattle.base.specs.JobSets.{size}
use Rattle.base.specs.Refusal.{said}
use Rattle.base.specs.Questions.{first_no, asked_below, Asks}
use Rattle.bits.specs.Fields.{cut, bits_of}
use Rattle.bits.specs.Reading.{Got}
use Rattle.graph.specs.declared.draft.Draft.{Draft}
use Rattle.graph.specs.declared.graph.Graph.{Graph}
use Rattle.card.specs.Heading.{Headed, Ranges}
use Rattle.graph.specs.Limits.{time_allowed}
use Rattle.graph.specs.Rules.{time_at, preds_at}
use Rattle.graph.specs.Making.{AllBelow, succs_asked}
use Rattle.graph_card.specs.declared.read.Job.{Job}
use Rattle.graph_card.specs.declared.read.Rows.{Rows}
use Rattle.graph_card.specs.Layout.{marks, start}
use Rattle.graph_card.specs.Asking.{job_asked, marked, filling, questions}
use Rattle.graph_card.specs.Cards.{fields_of}

-- The longest time of a job, read from bit p on as t, which is allowed.
pub record Lasting (us : List ℕ) (p t : ℕ) : Type 0 where
  pub got : Got us p 11 t
  pub lawful : time_allowed t ≡ true

-- A predecessor field of job v that begins at bit p, read as the set s.
pub record PrecededBy (us : List ℕ) (p v s : ℕ) : Type 0 where
  pub same_bits : cut us p v ≡ marks s v
  pub lower : AllBelow s v
  pub some : (v ≡ 0) ⊎ (1 ≤ size s)

-- The fields of job v.
pub record RowRead (us : List ℕ) (v t s : ℕ) : Type 0 where
  pub time : Lasting us (start v) t
  pub preds : PrecededBy us (start v + 11) v s

abbrev pub ReadsJob : List ℕ → ℕ → Result Job Fault → Type 0
ReadsJob us v r = Asks (job_asked us v) (λ j. RowRead us v j.time j.preds.bits) (Unit {0}) r

-- Those of each of n jobs.
abbrev pub RowsRead : List ℕ → ℕ → List ℕ → List JobSet → Type 0
RowsRead us n ts ps = (v : ℕ) → v < n → RowRead us v (time_at ts v) (preds_at ps v)

abbrev pub ReadsRows : List ℕ → ℕ → Result Rows Fault → Type 0
ReadsRows us n r = Asks (asked_below (job_asked us) n) (λ rows. RowsRead us n rows.times rows.preds) (Unit {0}) r

-- All fields were read, as a draft: questions 8 and 9 are left.
pub record Drafted (us : List ℕ) (d : Draft) : Type 0 where
  pub head : Headed us d.jobs d.crews d.layover
  pub ranges : Ranges d.jobs d.crews d.layover
  pub rows : RowsRead us d.jobs d.times d.preds
  pub left : first_no (questions us) ≡ first_no (succs_asked (marked us) d.jobs ++ filling us (start d.jobs))

-- Every question but the last was asked: the fields that were read are those of the graph, and question 9 is left.
pub record Unfilled (bytes : List ℕ) (g : Graph) : Type 0 where
  pub room : start g.jobs ≤ length (bits_of bytes)
  pub same_bits : take (start g.jobs) (bits_of bytes) ≡ fields_of g
  pub left : first_no (questions (bits_of bytes)) ≡ first_no (filling (bits_of bytes) (start g.jobs))

abbrev pub ReadsUnfilled : List ℕ → Result Graph Fault → Type 0
ReadsUnfilled bytes (Ok g) = Unfilled bytes g
ReadsUnfilled bytes (Err f) = first_no (questions (bits_of bytes)) ≡ Some (said f)

-- Bits xs were written from bit p on, where the bits were us before and are vs now; all others are as they were.
pub record Put (us : List ℕ) (p : ℕ) (xs vs : List ℕ) : Type 0 where
  pub room : p + length xs ≤ length us
  pub bits : vs ≡ take p us ++ (xs ++ drop (p + length xs) us)
