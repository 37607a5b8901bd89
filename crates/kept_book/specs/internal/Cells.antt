-- Cells that are given something to hold, and contents that entries come over.
use Rattle.std.specs.Prelude.{ℕ, ◌+◌, List, [], ◌∷◌, Option, None, Some, option_map}
use Rattle.std.specs.FinMap as fin
use Rattle.std.specs.declared.alloc.Global.{Global}
use Rattle.std.specs.declared.rc.Rc.{Rc}
use Rattle.cell_addr.specs.declared.place.Place.{Place}
use Rattle.book_values.specs.Book.{Book as Contents, Content}
use Rattle.clip_board.specs.declared.clip.CopyItem.{CopyItem}
use Rattle.clip_board.specs.declared.clip.CopyItem.TheVariants as item
use Rattle.formula_tree.specs.declared.node.Node.{Node}
use Rattle.grid_store.specs.declared.cell.Cell.{Cell}
use Rattle.grid_store.specs.declared.cell.Cell.TheVariants as cell
use Rattle.shift_core.specs.Maps.{PlaceMap}
use Rattle.book_model.specs.Changes.{placed}
use Rattle.book_model.specs.Content.{content_given, content_of}
use Rattle.book_model.specs.Workbook.{Workbook}

-- the cells of what is given, formulas under ids from this one on
abbrev pub cells_given : ℕ → List (Place × CopyItem) → List (Place × Cell)
cells_given n [] = []
cells_given n ((at, item.Formula tree) ∷ es) = (at, cell.Formula n) ∷ cells_given (n + 1) es
cells_given n ((at, item.Kept c) ∷ es) = (at, c) ∷ cells_given n es

-- the formulas of what is given
abbrev pub trees_given : List (Place × CopyItem) → List (Place × Rc Node Global)
trees_given [] = []
trees_given ((at, item.Formula tree) ∷ es) = (at, tree) ∷ trees_given es
trees_given ((at, item.Kept c) ∷ es) = trees_given es

-- a workbook with other contents, and with another content of one cell
abbrev pub with_cells : Contents → Workbook → Workbook
with_cells cells b = record b { cells = cells }

abbrev pub with_content_at : Place → Option Content → Workbook → Workbook
with_content_at at c b = with_cells (placed at c b.cells) b

-- contents with these entries over them; of those at one place the first counts
abbrev pub with_given : List (Place × Content) → Contents → Contents
with_given [] m = m
with_given (e ∷ es) m = fin.insert (with_given es m) e.0 e.1

-- what a place holds, as a list
abbrev pub listed_at : Place → Option Cell → List (Place × Cell)
listed_at at None = []
listed_at at (Some c) = (at, c) ∷ []

-- what holds the place of an entry, if anything does
abbrev pub stood_at : {X : Type 0} → PlaceMap Cell → Place × X → Option (Place × Cell)
stood_at m e = option_map (λ c. (e.0, c)) (fin.get m e.0)

-- what a text gives to its place, if anything
abbrev pub entry_given : List (ℕ × List ℕ) → Place × List ℕ → Option (Place × Content)
entry_given sheets e = option_map (λ x. (e.0, x)) (content_given sheets e.0.sheet (content_of e.1))
