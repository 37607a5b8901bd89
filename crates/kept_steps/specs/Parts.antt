-- Which workbooks the changes of a step lead over, one after the other. Source: this project's own.
use Rattle.std.specs.Prelude.{◌≡◌, List, [], ◌∷◌, Some}
use Rattle.formula_tree.specs.Term.{Term}
use Rattle.formula_tree.specs.declared.reference.Corner.{Corner}
use Rattle.shift_core.specs.Maps.{AreInside}
use Rattle.tree_rewrite.specs.References.{FitsSheets}
use Rattle.book_values.specs.Workbook.{Node, tree_at}
use Rattle.book_model.specs.Answers.{valued}
use Rattle.book_model.specs.Workbook.{Workbook}
use Rattle.kept_book.specs.Change.{Change}
use Rattle.kept_book.specs.Frame.{Line, Words}
use Rattle.recalc_core.specs.Nodes.{AreNumbered}
use Rattle.kept_steps.specs.Turned.{DifferAmong, IsOfCells, ListsLost, Operates, RenamesBack, RenamesForth, is_listed}

-- values can be kept of the workbook: the words of its names have numbers, and its cells are on the sheets, as is all that its formulas
-- refer to
pub record CanBeFollowed (words : Words) (b : Workbook) : Type 0 where
  pub numbered : AreNumbered words (valued b).names
  pub cells : AreInside b.cells
  pub trees : (x : Node) (t : Term Corner) → tree_at (valued b) x ≡ Some t → FitsSheets t

-- a change leads from one workbook to another: if it is one of cells alone, they differ in cells that it lists; if it has an operation,
-- that makes the second of the first, and the change lists each cell that is lost; if it is one of a name alone, they differ in the name
pub record PartTurns (line : Line) (words : Words) (c : Change) (b d : Workbook) : Type 0 where
  pub before : CanBeFollowed words b
  pub after : CanBeFollowed words d
  pub cells : IsOfCells c → DifferAmong (is_listed (c ∷ [])) b d
  pub operation : Operates line (c ∷ []) b d
  pub lost : ListsLost line (c ∷ []) b
  pub back : RenamesBack words (c ∷ []) d b
  pub forth : RenamesForth words (c ∷ []) b d

-- several changes lead from one workbook to another, over one after each of them
abbrev pub Turns : Line → Words → List Change → Workbook → Workbook → Type 0
Turns line words [] b d = b ≡ d
Turns line words (c ∷ cs) b d = (e : Workbook) × PartTurns line words c b e × Turns line words cs e d
