-- Cells that were copied, and cells that are given something to hold. Source: this project's own.
use Rattle.std.specs.Prelude.{◌≢◌, ℕ, List, None, map}
use Rattle.std.specs.FinMap as fin
use Rattle.cell_addr.specs.Place.{IsInside}
use Rattle.cell_addr.specs.declared.place.Place.{Place}
use Rattle.book_values.specs.Book.{Book as Contents, Content, formula}
use Rattle.clip_board.specs.declared.clip.CopyItem.{CopyItem}
use Rattle.clip_board.specs.declared.clip.CopyItem.TheVariants as item
use Rattle.grid_store.specs.declared.cell.Cell.{Cell}
use Rattle.grid_store.specs.declared.cell.Cell.TheVariants as cell
use Rattle.book_model.specs.Sound.{IsProperContent}
use Rattle.kept_book.specs.Formula.{IsFormula, tree_at}
use Rattle.kept_book.specs.Stored.{content_of}

-- a cell without a formula
abbrev pub IsPlain : Cell → Type 0
IsPlain c = (n : ℕ) → c ≢ cell.Formula n

-- what a cell held at its place when it was copied
abbrev pub content_copied : Place → CopyItem → Content
content_copied at (item.Formula tree) = formula (tree_at at tree)
content_copied at (item.Kept cell) = content_of (λ n. None) cell

abbrev pub entry_copied : Place × CopyItem → Place × Content
entry_copied e = (e.0, content_copied e.0 e.1)

-- what copied cells held
abbrev pub contents_copied : List (Place × CopyItem) → Contents
contents_copied items = fin.from_entries (map entry_copied items)

-- a copied cell is one within the limits of a sheet, and its formula one of the cell
abbrev pub IsCopied : Place × CopyItem → Type 0
IsCopied (at, item.Formula tree) = IsFormula at (tree_at at tree)
IsCopied (at, item.Kept cell) = IsInside at × IsPlain cell

-- a content of a cell within the limits of a sheet, its tree proper
abbrev pub IsHeld : Place → Content → Type 0
IsHeld p x = IsInside p × IsProperContent x
