-- Why an operation is refused: the causes of each, in the order in which they are tested. The first that holds is the
-- answer. Source: this project's own.
use Rattle.std.specs.Prelude.{ℕ, ◌+◌, ◌++◌, ◌==◌, ◌&&◌, ◌||◌, nat_lt, nat_le, if◌then◌else◌, Bool, true, false, not, List, [], ◌∷◌, length, Option, Some, None, is_none, is_some}
use Rattle.std.specs.List.{list_any, list_all}
use Rattle.std.specs.FinMap as map
use Rattle.cell_addr.specs.declared.place.Place.{Place}
use Rattle.cell_addr.specs.declared.place.Block.{Block}
use Rattle.cell_addr.specs.declared.place.TheConstants.{ROWS, COLS}
use Rattle.cell_addr.specs.Axis.{limit_of}
use Rattle.cell_addr.specs.Place.{same_block}
use Rattle.cell_addr.specs.Sheets.{same_name}
use Rattle.formula_tree.specs.Term.{Term}
use Rattle.formula_tree.specs.declared.reference.Corner.{Corner}
use Rattle.shift_core.specs.Carried.{destination}
use Rattle.shift_core.specs.Form.{form_of}
use Rattle.shift_core.specs.Tables.{place_moved}
use Rattle.shift_core.specs.declared.edit.Edit.{Edit}
use Rattle.shift_core.specs.declared.edit.Edit.TheVariants as edit
use Rattle.shift_core.specs.declared.form.Form.{Form}
use Rattle.shift_core.specs.declared.form.Form.TheVariants as form
use Rattle.shift_core.specs.declared.shift.Shift.TheVariants.{MoveBlock}
use Rattle.book_values.specs.Names.{found, key_of}
use Rattle.book_model.specs.Clipboard.{Clipboard, nothing, copied, moving}
use Rattle.book_model.specs.Content.{tree_given}
use Rattle.book_model.specs.Names.{are_absolute, is_name}
use Rattle.book_model.specs.Workbook.{Workbook, State, has_name, has_scope, has_sheet}
use Rattle.book_model.specs.Operation.{Operation, set, clear, structural, add_sheet, rename_sheet, clear_sheet, add_name, change_name, remove_name, begin, commit, suspend, resume, undo, redo, copy, cut, paste, value, formula, content, precedents, dependents, name_value, try_formula, write_all}
use Rattle.book_model.specs.Changes.{name_tree, with_content, with_contents, with_copy}
use Rattle.book_model.specs.declared.limits.TheConstants.{MAX_CELLS, MAX_SHEETS, MAX_SHEET_NAME, MAX_TEXT}
use Rattle.book_model.specs.declared.refusal.Refusal.{Refusal}
use Rattle.book_model.specs.declared.refusal.Refusal.TheVariants.{NoSheet, SheetNameTaken, SheetNameInvalid, Outside, SizeLimit, CellLimit, NameTaken, NameInvalid, NoSuchName, RelativeAddress, NothingToUndo, NothingToRedo, NothingToPaste, Suspended, BatchOpen, NoBatch, BadSpan, TextLimit, SheetLimit, BadFormula}

-- a cause that holds or doesn't, and the refusal that it gives
abbrev pub Cause : Type 0
Cause = Bool × Refusal

-- the refusal of the first cause that holds
abbrev pub first_cause : List Cause → Option Refusal
first_cause [] = None
first_cause (c ∷ cs) = if c.0 then Some c.1 else first_cause cs

-- the place, or the block, isn't within the limits of a sheet
abbrev pub is_outside : Place → Bool
is_outside p = not (nat_lt p.row ROWS && nat_lt p.col COLS)

abbrev pub is_block_outside : Block → Bool
is_block_outside b = not ((nat_le b.top b.bottom && nat_lt b.bottom ROWS) && (nat_le b.left b.right && nat_lt b.right COLS))

-- the operation would push a filled cell off its sheet
abbrev pub pushes_off : Form → Workbook → Bool
pushes_off f b = list_any (λ e. is_none (place_moved f e.0)) (map.entries b.cells)

-- a sheet's name: 1 to 100 bytes, and no control character
abbrev pub is_control : ℕ → Bool
is_control c = nat_lt c 32 || c == 127

abbrev pub is_sheet_name : List ℕ → Bool
is_sheet_name name = (nat_lt 0 (length name) && nat_le (length name) MAX_SHEET_NAME) && list_all (λ c. not (is_control c)) name

-- another sheet than this one has the name, in some case of its ASCII letters
abbrev pub is_taken : Workbook → ℕ → List ℕ → Bool
is_taken b id name = list_any (λ s. not (s.0 == id) && same_name s.1 name) b.sheets

-- where a place is asked for, or places that are given texts one after the other, or a block
abbrev pub at_place : State → Place → List Cause
at_place d at = (not (has_sheet d.book at.sheet), NoSheet) ∷ (is_outside at, Outside) ∷ []

abbrev pub at_cells : Workbook → List (Place × List ℕ) → List Cause
at_cells b [] = []
at_cells b (e ∷ es) = (not (has_sheet b e.0.sheet), NoSheet) ∷ (is_outside e.0, Outside) ∷ at_cells b es

abbrev pub at_block : State → Block → List Cause
at_block d area = (not (has_sheet d.book area.sheet), NoSheet) ∷ (is_block_outside area, Outside) ∷ []

abbrev pub on_sheet : State → ℕ → List Cause
on_sheet d sheet = (not (has_sheet d.book sheet), NoSheet) ∷ []

-- an edit of the lines of a sheet, of which there are so many
abbrev pub of_edit : State → Form → Edit → ℕ → List Cause
of_edit d f (edit.Insert at count) limit =
    (count == 0, BadSpan)
    ∷ (nat_le limit at, Outside)
    ∷ (pushes_off f d.book, SizeLimit)
    ∷ []
of_edit d f (edit.Delete at count) limit =
    (count == 0, BadSpan)
    ∷ (nat_lt limit (at + count), Outside)
    ∷ []
of_edit d f (edit.Move from count before) limit =
    (count == 0, BadSpan)
    ∷ (nat_lt limit (from + count) || nat_lt limit before, Outside)
    ∷ (nat_le from before && nat_le before (from + count), BadSpan)
    ∷ []

-- a structural operation
abbrev pub of_form : State → Form → List Cause
of_form d (form.Lines sheet axis change) =
    (not (has_sheet d.book sheet), NoSheet)
    ∷ of_edit d (form.Lines sheet axis change) change (limit_of axis)
of_form d (form.Cells source to) =
    (not (has_sheet d.book source.sheet && has_sheet d.book to.sheet), NoSheet)
    ∷ (is_block_outside source || is_block_outside (destination source to), Outside)
    ∷ (same_block source (destination source to), BadSpan)
    ∷ []
of_form d (form.Sheet sheet) = on_sheet d sheet

-- what waits is pasted: a copy as far as there is room for it, and a cut block as it is moved
abbrev pub of_clip : State → Clipboard → Place → List Cause
of_clip d nothing at = (true, NothingToPaste) ∷ []
of_clip d (copied area cells) at =
    (not (has_sheet d.book at.sheet), NoSheet)
    ∷ (is_block_outside (destination area at), Outside)
    ∷ (nat_lt MAX_CELLS (map.len (with_copy area cells at d.book).cells), CellLimit)
    ∷ []
of_clip d (moving area) at = of_form d (form_of (MoveBlock area at))

-- values aren't computed now
abbrev pub is_suspended : State → Bool
is_suspended d = d.suspended || is_some d.batch

-- a formula is relative: one of its corners lacks a `$`, or its sheet
abbrev pub is_relative : Option (Term Corner) → Bool
is_relative (Some t) = not (are_absolute t)
is_relative None = false

-- a formula is tried, as a text that has this tree, or none
abbrev pub of_tried_text : List ℕ → Option (Term Corner) → List Cause
of_tried_text text tree = (nat_lt MAX_TEXT (length text), TextLimit) ∷ (is_none tree, BadFormula) ∷ []

-- such a text is given to a name
abbrev pub of_name_text : List ℕ → Option (Term Corner) → List Cause
of_name_text text tree =
    (nat_lt MAX_TEXT (length text), TextLimit)
    ∷ (is_none tree, BadFormula)
    ∷ (is_relative tree, RelativeAddress)
    ∷ []

-- cells are given texts, of which none is too long, and which don't fill too many
abbrev pub of_texts : State → List (Place × List ℕ) → List Cause
of_texts d cells =
    (list_any (λ e. nat_lt MAX_TEXT (length e.1)) cells, TextLimit)
    ∷ (nat_lt MAX_CELLS (map.len (with_contents cells d.book).cells), CellLimit)
    ∷ []

-- the table of refusals, a line for each operation
abbrev pub causes : Operation → State → List Cause
causes (set at text) d =
    (not (has_sheet d.book at.sheet), NoSheet)
    ∷ (is_outside at, Outside)
    ∷ (nat_lt MAX_TEXT (length text), TextLimit)
    ∷ (nat_lt MAX_CELLS (map.len (with_content at text d.book).cells), CellLimit)
    ∷ []
causes (clear area) d = at_block d area
causes (structural s) d = of_form d (form_of s)
causes (add_sheet name) d =
    (not (is_sheet_name name), SheetNameInvalid)
    ∷ (list_any (λ s. same_name s.1 name) d.book.sheets, SheetNameTaken)
    ∷ (nat_le MAX_SHEETS d.next_sheet, SheetLimit)
    ∷ []
causes (rename_sheet sheet name) d =
    (not (has_sheet d.book sheet), NoSheet)
    ∷ (not (is_sheet_name name), SheetNameInvalid)
    ∷ (is_taken d.book sheet name, SheetNameTaken)
    ∷ []
causes (clear_sheet sheet) d = on_sheet d sheet
causes (add_name name scope text) d =
    (not (has_scope d.book scope), NoSheet)
    ∷ (not (is_name name), NameInvalid)
    ∷ (has_name d.book (key_of scope name), NameTaken)
    ∷ of_name_text text (name_tree scope text d.book)
causes (change_name name scope text) d =
    (not (has_scope d.book scope), NoSheet)
    ∷ (not (has_name d.book (key_of scope name)), NoSuchName)
    ∷ of_name_text text (name_tree scope text d.book)
causes (remove_name name scope) d =
    (not (has_scope d.book scope), NoSheet)
    ∷ (not (has_name d.book (key_of scope name)), NoSuchName)
    ∷ []
causes (copy area) d = at_block d area
causes (cut area) d = at_block d area
causes (paste at) d = of_clip d d.clip at
causes begin d = (is_some d.batch, BatchOpen) ∷ []
causes commit d = (is_none d.batch, NoBatch) ∷ []
causes suspend d = []
causes resume d = []
causes undo d = (is_some d.batch, BatchOpen) ∷ (length d.undo == 0, NothingToUndo) ∷ []
causes redo d = (is_some d.batch, BatchOpen) ∷ (length d.redo == 0, NothingToRedo) ∷ []
causes (value at) d = (is_suspended d, Suspended) ∷ at_place d at
causes (formula at) d = at_place d at
causes (content at) d = at_place d at
causes (precedents at) d = at_place d at
causes (dependents at) d = at_place d at
causes (name_value name sheet) d =
    (is_suspended d, Suspended)
    ∷ (not (has_sheet d.book sheet), NoSheet)
    ∷ (is_none (found (map.entries d.book.names) name sheet), NoSuchName)
    ∷ []
causes (try_formula sheet text) d =
    (is_suspended d, Suspended)
    ∷ (not (has_sheet d.book sheet), NoSheet)
    ∷ of_tried_text text (tree_given d.book.sheets sheet text)
causes (write_all cells) d = at_cells d.book cells ++ of_texts d cells

-- why an operation is refused in a session, if it is
abbrev pub cause : Operation → State → Option Refusal
cause op d = first_cause (causes op d)
