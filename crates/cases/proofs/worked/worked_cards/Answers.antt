-- By computation.
use Rattle.std.proofs.Common.{refl}
use Rattle.std.specs.Fmt.{digits}
use Rattle.base.specs.Questions.{first_no}
use Rattle.bits.specs.Fields.{field, bits_of, number, value_at}
use Rattle.card.specs.Heading.{heading}
use Rattle.text.specs.Lines.{refusal_line, first_line}
use Rattle.planner.specs.Answering.{answer_text}
use Rattle.cases.proofs.worked.worked_cards.Goals as goal

pub returns : goal.returns
unfolding field bits_of number value_at first_no heading digits refusal_line first_line answer_text
returns c = record { graph_a = refl; no_bytes = refl; version_only = refl; no_version = refl }
