-- A head that was written in range is read back.
use Rattle.card.proofs.Heads.{head_reads_back}
use Rattle.card.proofs.read.header_laws.Goals as goal

pub returns : goal.returns
returns c = head_reads_back
