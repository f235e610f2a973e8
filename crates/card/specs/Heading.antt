-- The head of a card, and the questions that reading it asks.
use Rattle.std.specs.Prelude.{◌≡◌, ℕ, ◌+◌, ◌≤◌, List, [], ◌∷◌, ◌++◌, length, take, None, Result, nat_le}
use Rattle.base.specs.declared.fault.Fault.{Fault}
use Rattle.base.specs.declared.fault.Layer.TheVariants.{Bits, Card}
use Rattle.base.specs.Refusal.{says}
use Rattle.base.specs.Questions.{Question, ask, first_no, within, Asks}
use Rattle.bits.specs.Fields.{field, value_at}
use Rattle.bits.specs.Reading.{Got}
use Rattle.graph.specs.Limits.{most}
use Rattle.graph.specs.declared.limits.Limit.TheVariants.{Jobs, Crews, Layover}
use Rattle.card.specs.declared.header.Header.{Header}

-- What the fields of the head hold, each from its first bit, over its width.
abbrev pub jobs_of : List ℕ → ℕ
jobs_of us = value_at us 4 7

abbrev pub crews_of : List ℕ → ℕ
crews_of us = value_at us 11 5

abbrev pub layover_of : List ℕ → ℕ
layover_of us = value_at us 16 17

-- Question 1: is the field of w bits that begins at bit p there whole? The place is its first bit.
abbrev pub there : List ℕ → ℕ → ℕ → Question
there us p w = ask (nat_le (p + w) (length us)) (says 1 p Bits)

-- A field that holds a value from `least` to `most`: question 1, then question k, whose place is the value.
abbrev pub ranged : List ℕ → ℕ → ℕ → ℕ → ℕ → ℕ → List Question
ranged us p w least most k = there us p w ∷ ask (within least (value_at us p w) most) (says k (value_at us p w) Card) ∷ []

-- The questions of the head, in the sequence asked: the version is 1, and jobs, crews and layover are in range.
unfoldable pub heading : List ℕ → List Question
heading us =
    ranged us 0 4 1 1 2 ++ (ranged us 4 7 1 (most Jobs) 3 ++ (ranged us 11 5 1 (most Crews) 4 ++ ranged us 16 17 1 (most Layover) 5))

-- The bits of the head of a card: version 1, n jobs, m crews, a layover of d minutes.
unfoldable pub head : ℕ → ℕ → ℕ → List ℕ
head n m d = field 4 1 ++ (field 7 n ++ (field 5 m ++ field 17 d))

-- The head says n jobs, m crews and a layover of d minutes, and its bits are just those of the head that says so.
pub record Headed (us : List ℕ) (n m d : ℕ) : Type 0 where
  pub jobs : n ≡ jobs_of us
  pub crews : m ≡ crews_of us
  pub layover : d ≡ layover_of us
  pub bits : take 33 us ≡ head n m d

-- What reading the head of a card with the bits us answers.
abbrev pub ReadsHeader : List ℕ → Result Header Fault → Type 0
ReadsHeader us r = Asks (heading us) (λ h. Headed us h.jobs h.crews h.layover) (Unit {0}) r

-- n, m and d are in range.
pub record Ranges (n m d : ℕ) : Type 0 where
  pub some_jobs : 1 ≤ n
  pub few_jobs : n ≤ 64
  pub some_crews : 1 ≤ m
  pub few_crews : m ≤ 16
  pub some_layover : 1 ≤ d
  pub short_layover : d ≤ 92160

-- The law of the head: a card that begins with the head of n jobs, m crews and d minutes, all in range, is not refused for its head,
-- whatever follows, and its head says n, m and d.
abbrev pub HeadReadsBack : Type 0
HeadReadsBack = (n m d : ℕ) (rest : List ℕ) → Ranges n m d → (first_no (heading (head n m d ++ rest)) ≡ None) × Headed (head n m d ++ rest) n m d

-- What reading a field of w bits at bit p answers, as a number: question 1 alone is asked.
abbrev pub ReadsWhole : {T : Type 0} → (T → ℕ) → List ℕ → ℕ → ℕ → Result T Fault → Type 0
ReadsWhole number us p w r = Asks (there us p w ∷ []) (λ x. Got us p w (number x)) (Unit {0}) r

-- For the functions that read a field of the head. The field was read as x, which is in range.
pub record GotInRange (us : List ℕ) (p w least most x : ℕ) : Type 0 where
  pub got : Got us p w x
  pub low : least ≤ x
  pub high : x ≤ most

-- What reading a field of the head answers, where it is to hold 1 to `most`: question 1 is asked, then question k.
abbrev pub ReadsField : List ℕ → ℕ → ℕ → ℕ → ℕ → Result ℕ Fault → Type 0
ReadsField us p w most k r = Asks (ranged us p w 1 most k) (GotInRange us p w 1 most) (Unit {0}) r
