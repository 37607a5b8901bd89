-- What holds of every session that operations reach. Source: this project's own.
use Rattle.std.specs.Prelude.{◌≡◌, ◌<◌, ◌≤◌, ◌+◌, ℕ, true, List, length, Option, Some, None, All, IsTrue, ⊤}
use Rattle.std.specs.FinMap as map
use Rattle.cell_addr.specs.declared.place.Place.{Place}
use Rattle.cell_addr.specs.Place.{IsBlockInside, IsInside}
use Rattle.cell_addr.specs.Sheets.{AreSheets}
use Rattle.cell_addr.specs.Whole.{IsWholeInside}
use Rattle.book_values.specs.Book.{Content, formula}
use Rattle.formula_tree.specs.Proper.{IsProper}
use Rattle.formula_tree.specs.Term.{Term}
use Rattle.formula_tree.specs.declared.link.Link.{Link}
use Rattle.formula_tree.specs.declared.link.Link.TheVariants as links
use Rattle.formula_tree.specs.declared.reference.Corner.{Corner}
use Rattle.tree_rewrite.specs.Sheets.{HasSheet}
use Rattle.book_values.specs.Names.{Key}
use Rattle.book_model.specs.Clipboard.{Clipboard, copied}
use Rattle.book_model.specs.Workbook.{Workbook, Batch, State, has_scope, has_sheet}
use Rattle.book_model.specs.declared.limits.TheConstants.{MAX_CELLS, MAX_SHEETS, MAX_UNDO}

-- a content of the book: a formula's tree is proper, and its sheets are the book's
abbrev pub IsContentOf : Workbook → Content → Type 0
IsContentOf b (formula t) = IsProper t × ((sheet : ℕ) → HasSheet sheet t → IsTrue (has_sheet b sheet))
IsContentOf b c = ⊤

-- a filled cell of the book: it is inside one of its sheets
abbrev pub IsCellOf : Workbook → Place → Content → Type 0
IsCellOf b p c = IsInside p × IsTrue (has_sheet b p.sheet) × IsContentOf b c

-- a name of the book: its scope is one, and its tree is a content of the book
abbrev pub IsNameOf : Workbook → Key → Term Corner → Type 0
IsNameOf b key t = IsTrue (has_scope b key.scope) × IsContentOf b (formula t)

-- a workbook of a session that gives out sheet numbers from this one on
pub record IsSoundBook (next_sheet : ℕ) (b : Workbook) : Type 0 where
  -- no two sheets have one number or, folded, one name
  pub sheets : AreSheets b.sheets
  -- each number was given out
  pub numbers : All (λ s. s.0 < next_sheet) b.sheets
  pub cells : (p : Place) (c : Content) → map.get b.cells p ≡ Some c → IsCellOf b p c
  pub count : map.len b.cells ≤ MAX_CELLS
  pub names : (key : Key) (t : Term Corner) → map.get b.names key ≡ Some t → IsNameOf b key t

-- the workbook at the start of a batch is one too
abbrev pub IsSoundBatch : ℕ → Option Batch → Type 0
IsSoundBatch next_sheet None = ⊤
IsSoundBatch next_sheet (Some batch) = IsSoundBook next_sheet batch.start

-- what was copied comes from cells within the limits of a sheet, whose formulas are proper; their sheets may be gone
abbrev pub IsProperContent : Content → Type 0
IsProperContent (formula t) = IsProper t
IsProperContent c = ⊤

abbrev pub IsSoundClip : Clipboard → Type 0
IsSoundClip (copied area cells) = IsBlockInside area × ((p : Place) (c : Content) → map.get cells p ≡ Some c → IsProperContent c)
IsSoundClip clip = ⊤

abbrev pub ClearedBy : Option Batch → List Workbook → Type 0
ClearedBy None redo = ⊤
ClearedBy (Some batch) redo = batch.changed ≡ true → length redo ≡ 0

pub record IsSound (d : State) : Type 0 where
  pub book : IsSoundBook d.next_sheet d.book
  pub undo : All (IsSoundBook d.next_sheet) d.undo
  pub redo : All (IsSoundBook d.next_sheet) d.redo
  pub batch : IsSoundBatch d.next_sheet d.batch
  pub clip : IsSoundClip d.clip
  pub few : d.next_sheet ≤ MAX_SHEETS
  -- where a change came in the open batch, nothing can be redone
  pub cleared : ClearedBy d.batch d.redo
  -- no more steps are kept than can be undone
  pub steps : length d.undo + length d.redo ≤ d.limit
  pub limit : d.limit ≤ MAX_UNDO

-- a cell, a block or a whole range within the limits of a sheet, or a name
abbrev pub IsLinkInside : Link → Type 0
IsLinkInside (links.Cell p) = IsInside p
IsLinkInside (links.Area b) = IsBlockInside b
IsLinkInside (links.Whole w) = IsWholeInside w
IsLinkInside (links.Name scope word) = ⊤
