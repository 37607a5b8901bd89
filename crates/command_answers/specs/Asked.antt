-- Which operation of a workbook a command asks for. Source: this project's own.
use Rattle.std.specs.Prelude.{ℕ, ◌==◌, if◌then◌else◌, List, length, Option, Some, None}
use Rattle.std.specs.Option.{unwrap_or}
use Rattle.cell_addr.specs.declared.place.Place.{Place}
use Rattle.cell_addr.specs.declared.place.Block.{Block}
use Rattle.cell_addr.specs.declared.place.TheConstants.{NO_SHEET}
use Rattle.cell_addr.specs.declared.spot.Spot.{Spot}
use Rattle.cell_addr.specs.Sheets.{id_in}
use Rattle.shift_core.specs.declared.shift.Shift.TheVariants as shift
use Rattle.book_model.specs.Workbook.{Workbook, first_sheet}
use Rattle.book_model.specs.Operation.{Operation}
use Rattle.book_model.specs.Operation as op
use Rattle.script_lang.specs.declared.commands.Command.{Command}
use Rattle.script_lang.specs.declared.commands.Command.TheVariants as command

-- the number of the sheet of this name; a name that no sheet has gives the number that no sheet has
abbrev pub sheet_named : Workbook → List ℕ → ℕ
sheet_named b name = unwrap_or (id_in b.sheets name) NO_SHEET

-- the sheet of an address: the one that it names, or the first of the list
abbrev pub sheet_of : Workbook → Option (List ℕ) → ℕ
sheet_of b None = unwrap_or (first_sheet b) NO_SHEET
sheet_of b (Some name) = sheet_named b name

-- the scope of a field: the sheet of this name, or the whole workbook where nothing is in it
abbrev pub scope_named : Workbook → List ℕ → Option ℕ
scope_named b name = if length name == 0 then None else Some (sheet_named b name)

-- the place and the block that an address names
abbrev pub place_of : Workbook → Spot → Place
place_of b spot = record { sheet = sheet_of b spot.sheet; row = spot.top; col = spot.left }

abbrev pub block_of : Workbook → Spot → Block
block_of b spot = record { sheet = sheet_of b spot.sheet; top = spot.top; left = spot.left; bottom = spot.bottom; right = spot.right }

-- what a command asks a workbook for; a script's version asks for nothing
abbrev pub operation_of : Workbook → Command → Option Operation
operation_of b (command.Set at text) = Some (op.set (place_of b at) text)
operation_of b (command.Clear area) = Some (op.clear (block_of b area))
operation_of b (command.InsertRows sheet at count) = Some (op.structural (shift.InsertRows (sheet_named b sheet) at count))
operation_of b (command.DeleteRows sheet at count) = Some (op.structural (shift.DeleteRows (sheet_named b sheet) at count))
operation_of b (command.InsertCols sheet at count) = Some (op.structural (shift.InsertCols (sheet_named b sheet) at count))
operation_of b (command.DeleteCols sheet at count) = Some (op.structural (shift.DeleteCols (sheet_named b sheet) at count))
operation_of b (command.MoveRows sheet from count before) = Some (op.structural (shift.MoveRows (sheet_named b sheet) from count before))
operation_of b (command.MoveCols sheet from count before) = Some (op.structural (shift.MoveCols (sheet_named b sheet) from count before))
operation_of b (command.AddSheet name) = Some (op.add_sheet name)
operation_of b (command.DropSheet sheet) = Some (op.structural (shift.DropSheet (sheet_named b sheet)))
operation_of b (command.RenameSheet sheet name) = Some (op.rename_sheet (sheet_named b sheet) name)
operation_of b (command.ClearSheet sheet) = Some (op.clear_sheet (sheet_named b sheet))
operation_of b (command.AddName name scope text) = Some (op.add_name name (scope_named b scope) text)
operation_of b (command.ChangeName name scope text) = Some (op.change_name name (scope_named b scope) text)
operation_of b (command.RemoveName name scope) = Some (op.remove_name name (scope_named b scope))
operation_of b (command.Copy area) = Some (op.copy (block_of b area))
operation_of b (command.Cut area) = Some (op.cut (block_of b area))
operation_of b (command.Paste at) = Some (op.paste (place_of b at))
operation_of b (command.MoveBlock area at) = Some (op.structural (shift.MoveBlock (block_of b area) (place_of b at)))
operation_of b command.Begin = Some op.begin
operation_of b command.Commit = Some op.commit
operation_of b command.Suspend = Some op.suspend
operation_of b command.Resume = Some op.resume
operation_of b command.Undo = Some op.undo
operation_of b command.Redo = Some op.redo
operation_of b (command.Value at) = Some (op.value (place_of b at))
operation_of b (command.Formula at) = Some (op.formula (place_of b at))
operation_of b (command.Content at) = Some (op.content (place_of b at))
operation_of b (command.Precedents at) = Some (op.precedents (place_of b at))
operation_of b (command.Dependents at) = Some (op.dependents (place_of b at))
operation_of b (command.NameValue name sheet) = Some (op.name_value name (sheet_named b sheet))
operation_of b (command.Try sheet text) = Some (op.try_formula (sheet_named b sheet) text)
operation_of b (command.Version version) = None
