-- By computation.
use Rattle.std.proofs.Common.{refl}
use Rattle.base.specs.JobSets.{has, members_below}
use Rattle.base.specs.Questions.{first_no, asked_below}
use Rattle.bits.specs.Bytes.{filled, packed, bytes_of}
use Rattle.bits.specs.Fields.{field, bits_of, number, value_at}
use Rattle.card.specs.Heading.{heading, head}
use Rattle.graph.specs.Rules.{any_below}
use Rattle.graph.specs.Making.{sizes_asked, making}
use Rattle.graph.specs.Making.{job_asked as job_made}
use Rattle.graph_card.specs.Asking.{job_asked, filling, asked_of}
use Rattle.graph_card.specs.Layout.{marks, rows, start, fields}
use Rattle.graph_cases.proofs.turnrounds.refused_cards.Goals as goal

pub returns : goal.returns
unfolding has members_below first_no asked_below filled packed bytes_of field bits_of number value_at any_below sizes_asked making job_made heading job_asked filling asked_of head marks rows start fields
returns c = record { no_bytes = refl; version_only = refl; no_version = refl; too_long = refl; filling_bit = refl; byte_too_many = refl }
