use Rattle.std.proofs.Common.{◌∙◌, sym, ap, subst, map}
use Rattle.std.specs.List.{All}
use Rattle.cell_addr.specs.Place.{IsInside}
use Rattle.grid_store.specs.Grid.{cells_of, without_places}
use Rattle.lazy_store.specs.Store.{at_in}
use Rattle.name_table.specs.Listed.{listed}
use Rattle.kept_book.specs.Change.{places_of}
use Rattle.kept_book.specs.Frame.{numbered_at}
use Rattle.kept_book.specs.Kept.{workbook}
use Rattle.kept_book.specs.internal.Cells.{with_cells, with_given}
use Rattle.kept_book.specs.internal.Writing.{AreReplaced}
use Rattle.kept_book.proofs.SetTogether.{all-replaced, given-places, given-together, items-asked, stood-inside}
use Rattle.kept_book.proofs.book.Book.fill_all.Goals as goal

pub write-requires : goal.write-requires
write-requires c =
    let cells = cells_of c.args.self.now.grid in
    let items = c.in_ok-given.given.items in
    record {
      given = c.in_ok-given.ensures.copied;
      inside = subst (All (λ e. IsInside e.0)) (sym c.in_ok-replaced.ensures) (stood-inside cells c.args.cells.now c.requires.inside);
      replaced = subst (λ l. AreReplaced cells l (map (λ e. e.0) items)) (sym c.in_ok-replaced.ensures)
          (all-replaced cells c.args.cells.now items (items-asked (listed c.args.self.now.names) c.args.cells.now items c.in_ok-given.ensures.entries));
      stand = c.requires.stand;
    }

pub returns-clause-ok : goal.returns-clause-ok
returns-clause-ok c =
    let b = workbook c.args.self.now in
    let one = numbered_at (at_in c.args.self.now.lazy) c.args.self.now.lazy.line.cursor in
    c.in_ok-part.ensures.ok ∙ (λ i. with_cells (with_given (c.in_ok-given.ensures.entries i) (without_places (places_of (c.in_ok-replaced.ensures i)) b.cells)) b)
    ∙ ap (λ m. with_cells m b) (given-together one (cells_of c.args.self.now.grid) (listed c.args.self.now.names) c.args.cells.now c.requires.distinct)

pub returns-clause-replaced : goal.returns-clause-replaced
returns-clause-replaced c = c.in_ok-part.ensures.replaced ∙ c.in_ok-replaced.ensures

pub returns-clause-written : goal.returns-clause-written
returns-clause-written c = c.in_ok-part.ensures.written ∙ given-places (listed c.args.self.now.names) c.args.cells.now c.in_ok-given.given.items c.in_ok-given.ensures.entries
