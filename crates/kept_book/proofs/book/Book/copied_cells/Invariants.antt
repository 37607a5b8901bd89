use Rattle.std.proofs.Common.{◌≡◌, map, take}
use Rattle.std.specs.List.{All, filter_map}
use Rattle.clip_board.specs.Clips.{items_of}
use Rattle.grid_store.specs.Grid.{cells_of}
use Rattle.kept_book.specs.Copied.{IsCopied, entry_copied}
use Rattle.kept_book.specs.Frame.{numbered_at}
use Rattle.kept_book.specs.Kept.{SameBook, at_of}
use Rattle.kept_book.proofs.CopiedCells.{held_at}
use Rattle.kept_book.proofs.book.Book.copied_cells.Given as goal

abbrev pub invariant-cells : goal.invariant-cells
invariant-cells l = record {
  held : map entry_copied (items_of l.list) ≡ filter_map (held_at (numbered_at (at_of l.fn.self) l.fn.self.lazy.line.cursor) (cells_of l.fn.self.grid)) (take l.at-index l.at-items);
  copied : All IsCopied (items_of l.list);
  same : SameBook l.fn.self l.self;
}
