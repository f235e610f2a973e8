-- What answers the head that was read is what answers the card.
use Rattle.std.proofs.Common.{◌≡◌, ℕ, List, is_ok, Ok, Err, Result, sym, ap}
use Rattle.base.specs.declared.fault.Fault.{Fault}
use Rattle.card.specs.declared.header.Header.{Header}
use Rattle.card.specs.Heading.{ReadsHeader}
use Rattle.planner.specs.Answering.{worded, answer_text, none_failed, is_taken, wording}

pub words : (us : List ℕ) (r : Result Header Fault) → ReadsHeader us r → wording r ≡ answer_text us
unfolding answer_text
words us (Ok header) t = rw (t.does.jobs, t.does.crews) (sym (ap (worded us) t.all_hold))
words us (Err fault) f = sym (ap (worded us) f.fails)

pub tells : (us : List ℕ) (r : Result Header Fault) → ReadsHeader us r → is_ok r ≡ is_taken us
unfolding is_taken
tells us (Ok header) t = sym (ap none_failed t.all_hold)
tells us (Err fault) f = sym (ap none_failed f.fails)
