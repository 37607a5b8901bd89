-- What a step back or forth changes of a session's workbook. Source: this project's own.
use Rattle.std.specs.Prelude.{◌≡◌, ◌≢◌, ◌||◌, ◌&&◌, not, ◌++◌, ⊤, ℕ, nat_lt, if◌then◌else◌, Bool, true, false, List, [], ◌∷◌, Option, None, Some, IsSome, is_some, slice_get}
use Rattle.std.specs.FinMap as fin
use Rattle.std.specs.List.{list_any}
use Rattle.cell_addr.specs.Place.{same_place}
use Rattle.cell_addr.specs.declared.place.Place.{Place}
use Rattle.cell_addr.specs.declared.place.TheConstants.{NO_SHEET}
use Rattle.formula_tree.specs.Term.{Term}
use Rattle.formula_tree.specs.declared.reference.Corner.{Corner}
use Rattle.name_table.specs.declared.key.NameKey.{NameKey}
use Rattle.grid_store.specs.declared.cell.Cell.{Cell}
use Rattle.shift_core.specs.Sound.{IsSound}
use Rattle.shift_core.specs.Tables.{place_after}
use Rattle.shift_core.specs.declared.shift.Shift.{Shift}
use Rattle.book_model.specs.Changes.{shifted, with_name}
use Rattle.book_model.specs.Workbook.{Workbook, has_name}
use Rattle.book_values.specs.Names.{Key}
use Rattle.kept_book.specs.Change.{Change, places_of, shift_of}
use Rattle.kept_book.specs.Frame.{Line, Words}
use Rattle.kept_steps.specs.Fits.{steps_of}
use Rattle.kept_steps.specs.declared.session.Session.{Session}

-- the first of some steps; nothing, where there is none
abbrev pub first_step : List (List Change) → List Change
first_step [] = []
first_step (e ∷ es) = e

-- what undo takes back, and what redo does again
abbrev pub to_undo : Session → List Change
to_undo s = first_step (steps_of s.steps.done)

abbrev pub to_redo : Session → List Change
to_redo s = first_step (steps_of s.steps.undone)

-- a change of cells, or of which sheets there are: it has no operation, and lists no name
pub record IsOfCells (c : Change) : Type 0 where
  pub position : c.to ≡ c.from
  pub names : c.names ≡ []

abbrev pub AreOfCells : List Change → Type 0
AreOfCells [] = ⊤
AreOfCells (c ∷ cs) = IsOfCells c × AreOfCells cs

-- one of the changes lists the place, as replaced or as written
abbrev pub is_listed : List Change → Place → Bool
is_listed cs p = list_any (λ c. list_any (same_place p) (places_of c.replaced ++ places_of c.written)) cs

-- two workbooks are the same but for cells of these places, and for their sheets
pub record DifferAmong (places : Place → Bool) (b c : Workbook) : Type 0 where
  pub names : c.names ≡ b.names
  pub cells : (p : Place) → places p ≡ false → fin.get c.cells p ≡ fin.get b.cells p

-- the operation of a step that is one structural operation; none where the step is anything else
abbrev pub operation_of : Line → List Change → Option Shift
operation_of line [] = None
operation_of line (c ∷ []) = shift_of line c
operation_of line (c ∷ d ∷ cs) = None

-- the operation of the step, where it is one, can be done, and makes the second workbook of the first
abbrev pub Operates : Line → List Change → Workbook → Workbook → Type 0
Operates line cs b c = (s : Shift) → operation_of line cs ≡ Some s → IsSound s × (c ≡ shifted s b)

-- one of the changes lists the place as replaced
abbrev pub is_replaced : List Change → Place → Bool
is_replaced cs p = list_any (λ c. list_any (same_place p) (places_of c.replaced)) cs

-- each cell of the workbook that the operation of the step loses is listed as replaced
abbrev pub ListsLost : Line → List Change → Workbook → Type 0
ListsLost line cs b = (s : Shift) (p : Place) → operation_of line cs ≡ Some s → place_after s p ≡ None → IsSome (fin.get b.cells p) → is_replaced cs p ≡ true

-- what a step of one change lists as replaced; none where the step is anything else
abbrev pub replaced_of : List Change → Option (List (Place × Cell))
replaced_of [] = None
replaced_of (c ∷ []) = Some c.replaced
replaced_of (c ∷ d ∷ cs) = None

-- the one item of a list that has one alone
abbrev pub only : {X : Type 0} → List X → Option X
only [] = None
only (x ∷ []) = Some x
only (x ∷ y ∷ xs) = None

abbrev pub is_empty : {X : Type 0} → List X → Bool
is_empty [] = true
is_empty (x ∷ xs) = false

-- a change lists no cell and no sheet
abbrev pub lists_names_alone : Change → Bool
lists_names_alone c = is_empty c.replaced && (is_empty c.written && is_empty c.sheets)

-- the name of a change of one name that has no operation and lists nothing else, with the ids of its formula before and after
abbrev pub name_alone : Change → Option (NameKey × (Option ℕ × Option ℕ))
name_alone c = if nat_lt c.from c.to || not (lists_names_alone c) then None else only c.names

-- the name of a step that is one such change; none where the step is anything else
abbrev pub name_of : List Change → Option (NameKey × (Option ℕ × Option ℕ))
name_of [] = None
name_of (c ∷ []) = name_alone c
name_of (c ∷ d ∷ cs) = None

-- a name, its word in place of the word's number
abbrev pub key_spelt : NameKey → List ℕ → Key
key_spelt key word = record { scope = key.scope; word = word }

-- the second workbook is the first where the name has another formula, or one, or none: whether it had one, and has one
pub record IsRenamed (words : Words) (key : NameKey) (had has : Bool) (b c : Workbook) : Type 0 where
  pub word : List ℕ
  pub spelt : slice_get words key.word ≡ Some word
  pub scoped : (had || has) ≡ true → key.scope ≢ Some NO_SHEET
  pub tree : Option (Term Corner)
  pub some : is_some tree ≡ has
  pub was : has_name b (key_spelt key word) ≡ had
  pub turned : c ≡ with_name (key_spelt key word) tree b

-- the name of the step, where it is one, gets the formula from before the step, or that from after it
abbrev pub RenamesBack : Words → List Change → Workbook → Workbook → Type 0
RenamesBack words cs b c = (key : NameKey) (before after : Option ℕ) → name_of cs ≡ Some (key, (before, after)) → IsRenamed words key (is_some after) (is_some before) b c

abbrev pub RenamesForth : Words → List Change → Workbook → Workbook → Type 0
RenamesForth words cs b c = (key : NameKey) (before after : Option ℕ) → name_of cs ≡ Some (key, (before, after)) → IsRenamed words key (is_some before) (is_some after) b c
