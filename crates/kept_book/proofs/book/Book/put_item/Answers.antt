use Rattle.std.proofs.Common.{◌≡◌, ◌∙◌, sym, ap, subst, map, option_map}
use Rattle.std.specs.FinMap as fin
use Rattle.std.specs.List.{All}
use Rattle.cell_addr.specs.Place.{IsInside}
use Rattle.grid_store.specs.Grid.{cells_of, items_of, without_places}
use Rattle.lazy_store.specs.Store.{at_in}
use Rattle.kept_book.specs.Change.{places_of}
use Rattle.kept_book.specs.Copied.{content_copied}
use Rattle.kept_book.specs.Frame.{numbered_at}
use Rattle.kept_book.specs.Kept.{workbook}
use Rattle.kept_book.specs.internal.Cells.{with_cells, with_given}
use Rattle.kept_book.specs.internal.Writing.{AreReplaced}
use Rattle.kept_book.proofs.SetCells.{given-placed, listed-inside, one-replaced, places-all}
use Rattle.kept_book.proofs.book.Book.put_item.Goals as goal

pub write-requires : goal.write-requires
write-requires c =
    let cells = cells_of c.args.self.now.grid in
    record {
      given = c.in_ok-given.ensures.copied;
      inside = subst (All (λ e. IsInside e.0)) (sym c.in_ok-replaced.ensures) (listed-inside c.args.at (fin.get cells c.args.at) c.requires.inside);
      replaced = subst (λ l. AreReplaced cells l (map (λ e. e.0) c.in_ok-given.given.items)) (sym c.in_ok-replaced.ensures) (one-replaced cells c.args.at c.in_ok-given.given.items c.in_ok-given.ensures.there);
      stand = c.requires.stand;
    }

pub returns-clause-ok : goal.returns-clause-ok
returns-clause-ok c =
    let b = workbook c.args.self.now in
    let one = numbered_at (at_in c.args.self.now.lazy) c.args.self.now.lazy.line.cursor in
    c.in_ok-part.ensures.ok ∙ (λ i. with_cells (with_given (c.in_ok-given.ensures.entries i) (without_places (places_of (c.in_ok-replaced.ensures i)) b.cells)) b)
    ∙ ap (λ m. with_cells m b) (given-placed one (cells_of c.args.self.now.grid) c.args.at (option_map (content_copied c.args.at) c.args.item))

pub returns-clause-written : goal.returns-clause-written
returns-clause-written c = places-all (λ p. p ≡ c.args.at) (items_of c.in_ok-part.part.written) c.in_ok-given.given.items c.in_ok-part.ensures.written c.in_ok-given.ensures.there
