use Rattle.std.proofs.Common.{◌∙◌, ap, ◌++◌}
use Rattle.range_table.proofs.Finding.{finds_both}
use Rattle.range_table.proofs.files.Files.meeting.Goals as goal

pub returns : goal.returns
returns c = finds_both c.args.self.now c.args.lines.now c.args.first c.args.second c.in_ok-found.found.items c.in_ok-more.more.items c.extend_from_slice.new.self.items c.in_ok-found.ensures c.in_ok-more.ensures
    (c.in_ok-extend_from_slice.ensures.items ∙ ap (λ ys. c.in_ok-found.found.items ++ ys) c.deref.ensures.value)
