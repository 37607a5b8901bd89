use Rattle.std.proofs.Common.{◌≡◌, ◌∙◌, true, ap, sym, subst}
use Rattle.cell_addr.specs.Axis.{limit_of, line_of}
use Rattle.place_lines.specs.Spots.{number_of, table_along}
use Rattle.shift_core.specs.Form.{IsWithin}
use Rattle.touch_index.specs.Kept.{goes_on}
use Rattle.touch_index.specs.internal.Bands.{started_span}
use Rattle.touch_index.proofs.Touching.{edited_blocks, edited_cells}
use Rattle.touch_index.proofs.index.TouchIndex.edited.Goals as goal

pub returns-clause-cells : goal.returns-clause-cells
returns-clause-cells c =
    edited_cells c.args.self.now c.args.lines.now c.args.sheet c.args.axis c.args.edit c.requires c.find_over-2.new.found.items
    (λ band is p n kept sheet within. c.in_ok-find_over-2.ensures.still n (c.in_ok-find_over.ensures.still n (c.in_ok-find_on.ensures.still n (c.in_ok-find_lost.ensures.found band is p n kept sheet within))))

pub returns-clause-blocks : goal.returns-clause-blocks
returns-clause-blocks c =
    let x = c.args.self.now in
    let table = table_along c.args.axis c.args.lines.now c.args.sheet in
    let started : c.started-started.result ≡ started_span (limit_of c.args.axis) c.args.edit = c.started-started.ensures ∙ ap (λ l. started_span l c.args.edit) c.limit-limit.ensures in
    edited_blocks x c.args.lines.now c.args.sheet c.args.axis c.args.edit c.requires c.find_over-2.new.found.items
    (λ p n kept sheet within. c.in_ok-find_over-2.ensures.still n (c.in_ok-find_over.ensures.still n (c.in_ok-find_on.ensures.found p n kept sheet (subst (λ s. IsWithin s (line_of c.args.axis p)) (sym started) within))))
    (λ n goes. c.in_ok-find_over-2.ensures.still n (c.in_ok-find_over.ensures.found n (subst (λ s. goes_on c.args.axis x c.args.sheet (number_of table s.first) n ≡ true) (sym started) goes)))
    (λ n goes. c.in_ok-find_over-2.ensures.found n (subst (λ g. goes_on c.args.axis x c.args.sheet (number_of table g) n ≡ true) (sym c.gap.ensures) goes))
