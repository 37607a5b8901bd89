use Rattle.std.proofs.Common.{◌≡◌, true, map, take}
use Rattle.std.specs.List.{All, filter_map}
use Rattle.cell_addr.specs.Place.{covers}
use Rattle.name_table.specs.Listed.{listed}
use Rattle.shift_core.specs.Carried.{destination}
use Rattle.kept_book.specs.Copied.{IsCopied, entry_copied}
use Rattle.kept_book.proofs.PastedBooks.{item_pasted}
use Rattle.kept_book.proofs.pasting.items_pasted.Given as goal

abbrev pub invariant-loop-from : goal.invariant-loop-from
invariant-loop-from l = record {
  entries : map entry_copied l.list.items ≡ filter_map (item_pasted (listed l.sheets) l.area l.at) (take l.from-index l.cells);
  copied : All IsCopied l.list.items;
  there : All (λ e. covers (destination l.area l.at) e.0 ≡ true) l.list.items;
}
