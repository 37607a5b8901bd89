use Rattle.std.proofs.Common.{◌≡◌, ◌∙◌, ◌+◌, ◌-◌, sym, ap, arith, length}
use Rattle.std.specs.FinMap as fin
use Rattle.std.specs.FinMap.{len-entries}
use Rattle.std.specs.List.{filter_map}
use Rattle.cell_addr.specs.Place.{covers}
use Rattle.grid_store.specs.Grid.{cells_of}
use Rattle.shift_core.specs.Carried.{destination}
use Rattle.kept_book.specs.Kept.{stored}
use Rattle.session_operations.specs.Seen.{state_of}
use Rattle.session_operations.specs.internal.Pasting.{count_apart, place_pasted}
use Rattle.session_operations.proofs.FilledCells.{len-contents}
use Rattle.session_operations.proofs.PastedCounts.{len-kept, listed-few, pasted-count}
use Rattle.session_operations.proofs.parts.Parts.filled_after.Goals as goal

pub overflow_sub-beside : goal.overflow_sub-beside
overflow_sub-beside c =
    let cells = cells_of c.args.self.now.session.book.grid in
    let area = destination c.args.area c.args.at in
    let listed : length c.items.result.now ≡ length (fin.entries (fin.retain_keys cells (covers area))) = ap length (c.items.ensures ∙ c.in_ok-replaced.ensures ∙ ap (λ b. fin.entries (fin.retain_keys cells (covers b))) c.destination.ensures) in
    let few = listed-few cells (covers area) in
    omega (arith, listed, few, c.filled.ensures)

pub overflow_add-result : goal.overflow_add-result
overflow_add-result c =
    let cells = cells_of c.args.self.now.session.book.grid in
    let all = len-contents (stored c.args.self.now.session.book).stands cells in
    omega (arith, all, c.filled.ensures, c.requires.few, c.len.ensures.small)

pub returns : goal.returns
returns c =
    let cells = cells_of c.args.self.now.session.book.grid in
    let stands = (stored c.args.self.now.session.book).stands in
    let area = destination c.args.area c.args.at in
    let book = (state_of c.args.self.now).book in
    let listed : length c.items.result.now ≡ length (fin.entries (fin.retain_keys cells (covers area))) = ap length (c.items.ensures ∙ c.in_ok-replaced.ensures ∙ ap (λ b. fin.entries (fin.retain_keys cells (covers b))) c.destination.ensures) in
    let there = len-entries (fin.retain_keys cells (covers area)) in
    let kept = len-kept stands cells (covers area) in
    let all = len-contents stands cells in
    let places : c.len.result ≡ count_apart (filter_map (place_pasted c.args.area c.args.at) c.args.cells.now) = c.len.ensures.len ∙ c.in_ok-places.ensures.1 in
    let count = pasted-count c.args.area c.args.cells.now c.args.at book c.requires.block in
    let same : c.filled.result - length c.items.result.now + c.len.result ≡ count_apart (filter_map (place_pasted c.args.area c.args.at) c.args.cells.now) + (fin.len book.cells - fin.len (fin.retain_keys book.cells (covers area))) =
    omega (arith, listed, there, kept, all, places, c.filled.ensures) in
    same ∙ sym count
