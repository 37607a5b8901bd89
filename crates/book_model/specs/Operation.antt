-- What can be asked of a workbook engine, with sheets by their numbers. Source: HyperFormula's guide for what can be
-- asked, and this project's own for the exact calls.
use Rattle.std.specs.Prelude.{ℕ, List, Option}
use Rattle.cell_addr.specs.declared.place.Place.{Place}
use Rattle.cell_addr.specs.declared.place.Block.{Block}
use Rattle.shift_core.specs.declared.shift.Shift.{Shift}

pub data Operation : Type 0 where
  -- gives a cell the content that a text says
  set : Place → List ℕ → Operation
  -- empties the cells of a block
  clear : Block → Operation
  -- a structural operation, which formulas follow
  structural : Shift → Operation
  -- a new sheet of this name, at the end of the list
  add_sheet : List ℕ → Operation
  rename_sheet : ℕ → List ℕ → Operation
  -- empties the cells of a sheet
  clear_sheet : ℕ → Operation
  -- a new name in the scope of a sheet or of the whole workbook, with the formula that a text says
  add_name : List ℕ → Option ℕ → List ℕ → Operation
  -- gives a name another formula
  change_name : List ℕ → Option ℕ → List ℕ → Operation
  remove_name : List ℕ → Option ℕ → Operation
  -- a block waits to be pasted: a copy of it, or itself, to be moved
  copy : Block → Operation
  cut : Block → Operation
  -- what waits is pasted, its first cell at a place
  paste : Place → Operation
  -- opens a batch of changes that are one step, and closes it
  begin : Operation
  commit : Operation
  -- stops the computation of values, and lets it go on
  suspend : Operation
  resume : Operation
  -- back to the workbook from before the last step, and forward again
  undo : Operation
  redo : Operation
  -- what a cell shows
  value : Place → Operation
  -- the text of a cell's formula
  formula : Place → Operation
  -- the text that gives a cell its content
  content : Place → Operation
  -- the cells, blocks and names that a cell's formula needs, and the cells and names whose formulas need a cell
  precedents : Place → Operation
  dependents : Place → Operation
  -- what a name shows that a word finds on a sheet
  name_value : List ℕ → ℕ → Operation
  -- what a formula would show in the first cell of a sheet
  try_formula : ℕ → List ℕ → Operation
  -- gives cells the contents that texts say, all of them together
  write_all : List (Place × List ℕ) → Operation
