-- Cards worked out by hand, and what `plan` answers to each.
use Rattle.std.specs.Prelude.{◌≡◌, ℕ, List, [], ◌∷◌, codes}
use Rattle.bits.specs.Fields.{bits_of}
use Rattle.planner.specs.Answering.{answer_text}

-- The card of graph A: 6 jobs, 2 crews, a layover of 18 minutes.
abbrev pub card_a : List ℕ
card_a = 0x10 ∷ 0xC2 ∷ 0x00 ∷ 0x09 ∷ 0x00 ∷ 0x20 ∷ 0x0B ∷ 0x00 ∷ 0x90 ∷ 0x03 ∷ 0x80 ∷ 0x19 ∷ 0x80 ∷ 0x08 ∷ 0xC0 ∷ []

-- What `plan` answers to bytes.
abbrev pub answer : List ℕ → List ℕ
answer bytes = answer_text (bits_of bytes)

-- Each card and its answer.
pub record WorkedCards : Type 0 where
  pub graph_a : answer card_a ≡ codes "plan 6 jobs 2 crews\n"
  pub no_bytes : answer [] ≡ codes "refused 1 0\n"
  pub version_only : answer (0x10 ∷ []) ≡ codes "refused 1 4\n"
  pub no_version : answer (0x00 ∷ []) ≡ codes "refused 2 0\n"
