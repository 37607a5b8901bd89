-- Changes that are asked about, as numbers with a name and a text. Source: this project's own.
use Rattle.std.specs.Prelude.{◌≡◌, ℕ, ◌==◌, if◌then◌else◌, List, Option, None, Some}
use Rattle.std.specs.Option.{option_map}
use Rattle.cell_addr.specs.declared.place.Block.{Block}
use Rattle.cell_addr.specs.declared.place.Place.{Place}
use Rattle.shift_core.specs.declared.shift.Shift.{Shift}
use Rattle.shift_core.specs.declared.shift.Shift.TheVariants as shifts
use Rattle.book_model.specs.Operation.{Operation, set, clear, structural, add_sheet, rename_sheet, clear_sheet, add_name, change_name, remove_name, copy, cut, paste, begin, commit, undo, redo}
use Rattle.book_model.specs.RefusalNames.{refusal_number}
use Rattle.book_model.specs.Refusals.{cause}
use Rattle.book_model.specs.Workbook.{State}
use Rattle.book_model.specs.declared.refusal.Refusal.{Refusal}
use Rattle.engine_face.specs.Session.{Stands, scope_of}
use Rattle.engine_face.specs.declared.cause.ChangeRow.{ChangeRow}
use Rattle.engine_face.specs.declared.session.Session.{Session}
use Rattle.engine_face.specs.declared.status.Status.{Status}
use Rattle.engine_face.specs.declared.status.Status.TheVariants.{Done, NoMemory, BadChange}

-- the place and the block that a change tells, and the place to which it moves something
abbrev pub place_told : ChangeRow → Place
place_told c = record { sheet = c.sheet; row = c.row; col = c.col }

abbrev pub block_told : ChangeRow → Block
block_told c = record { sheet = c.sheet; top = c.row; left = c.col; bottom = c.last_row; right = c.last_col }

abbrev pub target_told : ChangeRow → Place
target_told c = record { sheet = c.to_sheet; row = c.to_row; col = c.to_col }

-- the structural operation that a change's number stands for
abbrev pub shift_told : ChangeRow → Option Shift
shift_told c = if c.kind == 3 then Some (shifts.InsertRows c.sheet c.row c.count)
    else if c.kind == 4 then Some (shifts.DeleteRows c.sheet c.row c.count)
    else if c.kind == 5 then Some (shifts.MoveRows c.sheet c.row c.count c.to_row)
    else if c.kind == 6 then Some (shifts.InsertCols c.sheet c.col c.count)
    else if c.kind == 7 then Some (shifts.DeleteCols c.sheet c.col c.count)
    else if c.kind == 8 then Some (shifts.MoveCols c.sheet c.col c.count c.to_col)
    else if c.kind == 9 then Some (shifts.MoveBlock (block_told c) (target_told c))
    else if c.kind == 10 then Some (shifts.DropSheet c.sheet)
    else None

-- the operation that it stands for
abbrev pub operation_told : ChangeRow → List ℕ → List ℕ → Option Operation
operation_told c name text = if c.kind == 1 then Some (set (place_told c) text)
    else if c.kind == 2 then Some (clear (block_told c))
    else if c.kind == 11 then Some (add_sheet name)
    else if c.kind == 12 then Some (rename_sheet c.sheet name)
    else if c.kind == 13 then Some (clear_sheet c.sheet)
    else if c.kind == 14 then Some (add_name name (scope_of c.sheet) text)
    else if c.kind == 15 then Some (change_name name (scope_of c.sheet) text)
    else if c.kind == 16 then Some (remove_name name (scope_of c.sheet))
    else if c.kind == 17 then Some (copy (block_told c))
    else if c.kind == 18 then Some (cut (block_told c))
    else if c.kind == 19 then Some (paste (place_told c))
    else if c.kind == 20 then Some begin
    else if c.kind == 21 then Some commit
    else if c.kind == 22 then Some undo
    else if c.kind == 23 then Some redo
    else option_map structural (shift_told c)

-- the number of a cause; 0 where there is none
abbrev pub cause_number : Option Refusal → ℕ
cause_number None = 0
cause_number (Some refusal) = refusal_number refusal

-- a question why a change would be refused: it is told, or there was no memory; of no change nothing is told
abbrev pub TellsCause : Option Operation → ℕ → ℕ → Session → Status → Type 0
TellsCause (Some op) had told session Done = (d : State) → Stands session d → told ≡ cause_number (cause op d)
TellsCause (Some op) had told session NoMemory = told ≡ had
TellsCause None had told session BadChange = told ≡ had
TellsCause op had told session status = ⊥
