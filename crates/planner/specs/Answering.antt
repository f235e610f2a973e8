-- What `plan` answers to a card.
use Rattle.std.specs.Prelude.{◌≡◌, ℕ, Bool, true, false, List, Some, None, Ok, Err, Option, Result}
use Rattle.base.specs.declared.fault.Fault.{Fault}
use Rattle.base.specs.Refusal.{Said, said}
use Rattle.base.specs.Questions.{first_no, room, Asks, Written}
use Rattle.card.specs.declared.header.Header.{Header}
use Rattle.card.specs.Heading.{jobs_of, crews_of, heading}
use Rattle.text.specs.Lines.{refusal_line, first_line}
use Rattle.planner.specs.declared.answer.Answer.{Answer}

-- The answer in words: the refusal of the first question that fails, or the first line of the plan where none does.
abbrev pub worded : List ℕ → Option Said → List ℕ
worded us (Some no_to) = refusal_line no_to.number no_to.place
worded us None = first_line (jobs_of us) (crews_of us)

-- The text that answers a card with the bits us.
unfoldable pub answer_text : List ℕ → List ℕ
answer_text us = worded us (first_no (heading us))

-- No question was answered no.
abbrev pub none_failed : Option Said → Bool
none_failed (Some no_to) = false
none_failed None = true

-- Is a card with the bits us taken?
unfoldable pub is_taken : List ℕ → Bool
is_taken us = none_failed (first_no (heading us))

-- A card with the bits us was answered: its text was written, and the answer tells whether the card is taken.
pub record Answered (us old new : List ℕ) (answer : Answer) : Type 0 where
  pub told : answer.taken ≡ is_taken us
  pub text : Written (answer_text us) old new answer.written

-- What answering a card with the bits us answers itself, where the target held `old` and then holds `new`.
abbrev pub AnswersCard : List ℕ → List ℕ → List ℕ → Result Answer Fault → Type 0
AnswersCard us old new r = Asks (room (answer_text us) old) (Answered us old new) (new ≡ old) r

-- For the function that writes the answer: the text that answers what was read of a card.
abbrev pub wording : Result Header Fault → List ℕ
wording (Ok header) = first_line header.jobs header.crews
wording (Err fault) = refusal_line (said fault).number (said fault).place
