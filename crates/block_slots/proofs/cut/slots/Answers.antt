use Rattle.std.proofs.Common.{◌≡◌, ◌∙◌, ap, ap₂, subst, sym, ◌*◌, ◌≤◌, length}
use Rattle.std.proofs.lemmas.List.{take_all}
use Rattle.block_slots.specs.Slots.{has_cell, in_block, slots_with}
use Rattle.block_slots.specs.Segments.{in_lines}
use Rattle.block_slots.specs.internal.Cuts.{crossed}
use Rattle.block_slots.proofs.Crossing.{any_from_count, crossed_with, few_crossed, in_both}
use Rattle.block_slots.proofs.cut.slots.Goals as goal

pub returns-clause-exact : goal.returns-clause-exact
returns-clause-exact c =
    let rows = c.in_ok-row_segments.row_segments.items in
    let cols = c.in_ok-col_segments.col_segments.items in
    let items = c.deref-segment-items.result.now in
    let whole : c.rows.found.items ≡ crossed rows cols = c.rows.invariant ∙ ap (λ rs. crossed rs cols) (take_all c.rows.segment-index items c.rows-test.false ∙ c.deref-segment-items.ensures.value) in
    λ row col. ap (λ l. slots_with l row col) whole ∙ (crossed_with rows cols row col ∙ (ap₂ (λ m n. m * n) (c.in_ok-row_segments.ensures.exact row) (c.in_ok-col_segments.ensures.exact col) ∙ in_both (in_lines c.args.rows row) (in_lines c.args.cols col)))

pub returns-clause-any : goal.returns-clause-any
returns-clause-any c = λ row col. any_from_count (λ s. has_cell s row col) c.rows.found.items (in_block c.args.rows c.args.cols row col) (returns-clause-exact c row col)

pub returns-clause-few : goal.returns-clause-few
returns-clause-few c =
    let rows = c.in_ok-row_segments.row_segments.items in
    let cols = c.in_ok-col_segments.col_segments.items in
    let items = c.deref-segment-items.result.now in
    let whole : c.rows.found.items ≡ crossed rows cols = c.rows.invariant ∙ ap (λ rs. crossed rs cols) (take_all c.rows.segment-index items c.rows-test.false ∙ c.deref-segment-items.ensures.value) in
    λ j k few_rows few_cols. subst (λ l. length l ≤ 2 * j * (2 * k)) (sym whole) (few_crossed rows cols j k (c.in_ok-row_segments.ensures.few j few_rows) (c.in_ok-col_segments.ensures.few k few_cols))
