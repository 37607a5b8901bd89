use Rattle.std.proofs.Common.{subst}
use Rattle.std.specs.List.{flat_map}
use Rattle.kept_book.specs.Kept.{frame_of}
use Rattle.kept_steps.specs.Timeline.{timeline_of}
use Rattle.kept_book.specs.declared.passing.Side.TheVariants.{After}
use Rattle.kept_steps.specs.internal.Listed.{Adds, ids_of_step}
use Rattle.kept_steps.proofs.ListedIds.{in-use-there}
use Rattle.kept_steps.proofs.session.Session.listed.Goals as goal

pub returns : goal.returns
returns c =
    let s = c.args.self.now in
    in-use-there (timeline_of s.book) (frame_of s.book) s.steps s.batch c.add_present.new.ids c.add_done.new.ids c.add_undone.new.ids c.add_open.new.ids c.in_ok-add_present.ensures.there c.in_ok-add_done.ensures
    (subst (λ es. Adds (flat_map (ids_of_step After) es) c.add_done.new.ids c.add_undone.new.ids) c.undone.ensures.result c.in_ok-add_undone.ensures) c.in_ok-add_open.ensures
