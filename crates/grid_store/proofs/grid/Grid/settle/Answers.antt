use Rattle.std.proofs.Common.{◌≡◌, ◌∙◌, sym, ap, subst, ◌++◌, ◌∷◌, [], IsSome}
use Rattle.std.specs.FinMap as map
use Rattle.cell_addr.specs.Place.{IsInside}
use Rattle.grid_store.specs.Grid.{cells_of, items_of, with_entries}
use Rattle.grid_store.specs.internal.Exchange.{AreFilled}
use Rattle.grid_store.specs.internal.Lists.{AreEachInside}
use Rattle.grid_store.proofs.Exchanges.{filled-insert}
use Rattle.grid_store.proofs.Fills.{each_front, with_last}
use Rattle.grid_store.proofs.grid.Grid.settle.Goals as goal

pub loop-at-preserved : goal.loop-at-preserved
loop-at-preserved _ c =
    let i = c.loop-at.invariant in
    let old = cells_of c.loop-at.self in
    let front = items_of c.pop.new.self in
    let parts : items_of c.loop-at.list ≡ front ++ (c.in-Some.at, c.in-Some.cell) ∷ [] = c.in-Some.ensures in
    record {
      cells = ap (with_entries front) c.overwrite.ensures.cells ∙ sym (with_last front (c.in-Some.at, c.in-Some.cell) old) ∙ ap (λ es. with_entries es old) (sym parts) ∙ i.cells;
      inside = (each_front (λ e. IsInside e.0) front (c.in-Some.at, c.in-Some.cell) (subst AreEachInside parts i.inside)).0;
      filled = filled-insert c.in-Some.cell front old (cells_of c.overwrite.new.self) c.in-Some.at c.overwrite.ensures.cells
          (each_front (λ e. IsSome (map.get old e.0)) front (c.in-Some.at, c.in-Some.cell) (subst (λ es. AreFilled es old) parts i.filled)).0;
      lines = (c.overwrite.ensures.lines.0 ∙ i.lines.0, c.overwrite.ensures.lines.1 ∙ i.lines.1);
    }
