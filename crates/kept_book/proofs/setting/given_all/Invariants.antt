use Rattle.std.proofs.Common.{◌≡◌, map, take}
use Rattle.std.specs.List.{All, filter_map}
use Rattle.name_table.specs.Listed.{listed}
use Rattle.kept_book.specs.Copied.{IsCopied, entry_copied}
use Rattle.kept_book.specs.internal.Cells.{entry_given}
use Rattle.kept_book.proofs.setting.given_all.Given as goal

abbrev pub invariant-loop-at : goal.invariant-loop-at
invariant-loop-at l = record {
  entries : map entry_copied l.list.items ≡ filter_map (entry_given (listed l.sheets)) (take l.at-index l.cells);
  copied : All IsCopied l.list.items;
}
