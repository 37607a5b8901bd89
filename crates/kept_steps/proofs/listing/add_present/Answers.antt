use Rattle.std.proofs.Common.{◌∙◌, ap}
use Rattle.std.specs.FinMap as fin
use Rattle.kept_book.specs.Kept.{frame_of}
use Rattle.kept_steps.proofs.ListedIds.{present-there}
use Rattle.kept_steps.proofs.listing.add_present.Goals as goal

pub returns-clause-there : goal.returns-clause-there
returns-clause-there c = present-there (frame_of c.args.book.now) c.items.result.now c.as_slice.result.now c.args.ids.now c.add_cells.new.ids c.add_named.new.ids (ap fin.from_entries c.items.ensures ∙ c.in_ok-cells.ensures) (c.as_slice.ensures.value ∙ c.in_ok-names.ensures) c.in_ok-add_cells.ensures c.in_ok-add_named.ensures
