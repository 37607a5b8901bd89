use Rattle.std.proofs.Common.{◌≡◌, true, sym, subst}
use Rattle.cell_addr.specs.Axis.{line_of}
use Rattle.place_lines.specs.Spots.{number_of, table_along}
use Rattle.shift_core.specs.Form.{IsWithin}
use Rattle.touch_index.specs.Kept.{goes_on}
use Rattle.touch_index.proofs.Touching.{meeting_blocks}
use Rattle.touch_index.proofs.index.TouchIndex.meeting_along.Goals as goal

pub returns : goal.returns
returns c =
    let b = c.args.block in
    let axis = c.args.axis in
    meeting_blocks c.args.self.now c.args.lines.now axis b c.find_over.new.found.items
    (λ p n kept sheet within. c.in_ok-find_over.ensures.still n (c.in_ok-find_on.ensures.found p n kept sheet (subst (λ s. IsWithin s (line_of axis p)) (sym c.span-span.ensures) within)))
    (λ n goes. c.in_ok-find_over.ensures.found n
    (subst (λ s. goes_on axis c.args.self.now b.sheet (number_of (table_along axis c.args.lines.now b.sheet) s.first) n ≡ true) (sym c.span-span.ensures) goes))
