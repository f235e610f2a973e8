-- The front of both tables, and nothing behind it.
use Rattle.std.proofs.Common.{refl}
use Rattle.graph.specs.Rules.{none}
use Rattle.graph.proofs.Keeping.{length_front, read_front, preds_front, bare_none}
use Rattle.graph.proofs.graph.make.SizedDraft.cleared.Goals as goal

pub returns : goal.returns
returns c =
    let d = c.args.self.parts.now in
    let few = c.args.self.few in
    let jobs = c.from-jobs.ensures in
    let bare = c.empty-preds.ensures.value in
    let times = c.copy_from_slice.ensures in
    let preds = c.copy_from_slice-2.ensures in
    rw jobs record {
      all_times = length_front 0 0 refl d.times _ d.jobs (rw jobs at times.after) (rw jobs at times.len) few;
      all_preds = length_front none _ (bare_none _ bare) d.preds _ d.jobs (rw jobs at preds.after) (rw jobs at preds.len) few;
      jobs = refl;
      crews = refl;
      layover = refl;
      times = read_front 0 0 refl d.times _ d.jobs (rw jobs at times.after) (rw jobs at times.len) few;
      preds = preds_front _ bare d.preds _ d.jobs (rw jobs at preds.after) (rw jobs at preds.len) few;
    }
