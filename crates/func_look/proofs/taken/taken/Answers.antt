use Rattle.std.proofs.Common.{◌∙◌, ap, sym, subst, ℕ, ◌+◌, ◌*◌, ◌<◌, Option, Some, None, cond, Bool, true, false, map, drop, get_or, arith}
use Rattle.std.specs.Option.{IfSome}
use Rattle.std.proofs.lemmas.List.{drop_all}
use Rattle.std.specs.declared.cmp.Ordering.{Ordering}
use Rattle.cell_value.specs.declared.scalar.Scalar.TheVariants.{Empty}
use Rattle.cell_value.specs.Filled.{spread}
use Rattle.func_look.specs.declared.taken.Mode.{Mode}
use Rattle.func_look.specs.Lookups.{values_from}
use Rattle.func_look.specs.Taken.{taken}
use Rattle.func_look.specs.internal.Search.{search, taken_at, takes}
use Rattle.func_look.proofs.Line.{line-spread, are_filled-line, line_cells, line_more, in_line}
use Rattle.func_look.proofs.Search.{placed, search-all, search-filled, search-other, search-end, search-next, search-nil}
use Rattle.func_look.proofs.taken.taken.Goals.{After-filled-cell-items}
use Rattle.func_look.proofs.taken.taken.Goals as goal

pub cells-init : goal.cells-init
cells-init c =
    let cells = c.filled-cell-items.result.now in
    let size = c.args.area.now.rows * c.args.area.now.cols in
    let line = c.args.line in
    let x = c.args.sought.now in
    let h = c.filled-cell-items.ensures.ordered in
    let start : 0 * line.step < 0 + line.step = omega (arith, c.requires.step) in
    let filled = are_filled-line line.step line.count cells 0 0 size h start (omega arith) in
    let values = ap (λ vs. values_from (λ i. get_or vs (i * line.step) Empty) 0 line.count) c.filled-cell-items.ensures.values ∙ line-spread line.step line.count size cells c.requires.step h in
    record {
      taken = sym (search-filled c.args.mode x 0 line.count (line_cells line.step line.count cells) c.requires.sought filled None)
          ∙ search-all c.args.mode x (spread 0 line.count (line_cells line.step line.count cells))
          ∙ ap (taken c.args.mode x) (sym values);
      within = tt;
    }

pub cells-preserved-in-None : goal.cells-preserved-in-None
cells-preserved-in-None c =
    let cells = c.filled-cell-items.result.now in
    let more = line_more c.args.line.step c.args.line.count cells c.cells.cell-index c.cell-item.result (omega arith) c.cell-item.is c.if-cell-line-ne0.false c.if-cell-line.false in
    let rest = map placed (line_cells c.args.line.step c.args.line.count (drop (c.cells.cell-index + 1) cells)) in
    record {
      taken = sym (ap (λ xs. search c.args.mode c.args.sought.now c.cells.last (map placed xs)) more
          ∙ search-other c.args.mode c.args.sought.now c.cells.last (in_line c.args.line.step c.args.line.count c.cell-item.result).index c.cell-item.result.value rest (sym c.order_in_kind.ensures ∙ c.in-None.is))
          ∙ c.cells.invariant.taken;
      within = c.cells.invariant.within;
    }

pub returns-then-is_end-clause-taken : goal.returns-then-is_end-clause-taken
returns-then-is_end-clause-taken c =
    let cells = c.filled-cell-items.result.now in
    let more = line_more c.args.line.step c.args.line.count cells c.cells.cell-index c.cell-item.result (omega arith) c.cell-item.is c.if-cell-line-ne0.false c.if-cell-line.false in
    let rest = map placed (line_cells c.args.line.step c.args.line.count (drop (c.cells.cell-index + 1) cells)) in
    let cell = in_line c.args.line.step c.args.line.count c.cell-item.result in
    let end = search-end c.args.mode c.args.sought.now c.cells.last cell.index cell.value rest c.in-Some.order (sym c.in-Some.ensures) (sym c.is_end.ensures ∙ c.if-is_end.true) in
    c.taken_at-last.ensures ∙ sym end ∙ sym (ap (λ xs. search c.args.mode c.args.sought.now c.cells.last (map placed xs)) more) ∙ c.cells.invariant.taken

-- what is taken stays in the line
stays : (mode : Mode) (last : Option ℕ) (at count : ℕ) (order : Ordering) → IfSome last (λ i. i < count) → at < count → IfSome (taken_at mode last at order) (λ i. i < count)
stays mode last at count order h l = go (takes mode order)
  where
    go : (b : Bool) → IfSome (cond b (Some at) last) (λ i. i < count)
    go true = l
    go false = h

pub cells-preserved : goal.cells-preserved
cells-preserved c =
    let cells = c.filled-cell-items.result.now in
    let more = line_more c.args.line.step c.args.line.count cells c.cells.cell-index c.cell-item.result (omega arith) c.cell-item.is c.if-cell-line-ne0.false c.if-cell-line.false in
    let rest = map placed (line_cells c.args.line.step c.args.line.count (drop (c.cells.cell-index + 1) cells)) in
    let cell = in_line c.args.line.step c.args.line.count c.cell-item.result in
    let next = search-next c.args.mode c.args.sought.now c.cells.last cell.index cell.value rest c.in-Some.order (sym c.in-Some.ensures) (sym c.is_end.ensures ∙ c.if-is_end.false) in
    let P : Option ℕ → Type 0 = λ o. IfSome o (λ i. i < c.args.line.count) in
    record {
      taken = ap (λ o. search c.args.mode c.args.sought.now o rest) c.taken_at-last.ensures ∙ sym next
          ∙ sym (ap (λ xs. search c.args.mode c.args.sought.now c.cells.last (map placed xs)) more) ∙ c.cells.invariant.taken;
      within = subst P (sym c.taken_at-last.ensures) (stays c.args.mode c.cells.last cell.index c.args.line.count c.in-Some.order c.cells.invariant.within c.if-cell-line.false);
    }

pub returns-clause-taken : goal.returns-clause-taken
returns-clause-taken c =
    let cells = c.filled-cell-items.result.now in
    let none = drop_all c.cells.cell-index cells (omega arith) in
    sym (ap (λ xs. search c.args.mode c.args.sought.now c.cells.last (map placed (line_cells c.args.line.step c.args.line.count xs))) none ∙ search-nil c.args.mode c.args.sought.now c.cells.last)
    ∙ c.cells.invariant.taken
