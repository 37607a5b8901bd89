-- The formulas that the workbooks of a session have. Source: this project's own.
use Rattle.std.specs.Prelude.{◌≡◌, ◌⊎◌, ℕ, List, [], ◌∷◌, Option, Some}
use Rattle.std.specs.FinMap as fin
use Rattle.cell_addr.specs.declared.place.Place.{Place}
use Rattle.grid_store.specs.declared.cell.Cell.TheVariants as cell
use Rattle.name_table.specs.declared.key.NameKey.{NameKey}
use Rattle.undo_book.specs.History.{History}
use Rattle.kept_book.specs.Change.{Change, forth}
use Rattle.kept_book.specs.Frame.{Frame}
use Rattle.kept_book.specs.Kept.{frame_of}
use Rattle.kept_book.specs.Walk.{back_all, forth_all}
use Rattle.kept_steps.specs.Fits.{open_changes, start_of, steps_of}
use Rattle.kept_steps.specs.Timeline.{Timeline, timeline_of}
use Rattle.kept_steps.specs.declared.entry.Entry.{Entry}
use Rattle.kept_steps.specs.declared.session.Session.{Session}

-- a cell or a name of the frame has the formula under the id
abbrev pub HasFormula : Frame → ℕ → Type 0
HasFormula f id = ((p : Place) × (fin.get f.cells p ≡ Some (cell.Formula id))) ⊎ ((key : NameKey) × (fin.get f.names key ≡ Some id))

-- a frame before, between or after changes that led to this one has it, or one along changes that lead on from it
abbrev pub HereHas : Timeline → List Change → Frame → ℕ → Type 0
HereHas t [] f id = HasFormula f id
HereHas t (c ∷ cs) f id = HereHas t cs f id ⊎ HasFormula (back_all t.line (c ∷ cs) f) id

abbrev pub OnHas : Timeline → List Change → Frame → ℕ → Type 0
OnHas t [] f id = HasFormula f id
OnHas t (c ∷ cs) f id = HasFormula f id ⊎ OnHas t cs (forth t.line c f) id

-- a frame along the steps that led to this one has it, or one along those that lead on
abbrev pub PastHas : Timeline → Frame → List (List Change) → ℕ → Type 0
PastHas t f [] id = ⊥
PastHas t f (e ∷ es) id = HereHas t e f id ⊎ PastHas t (back_all t.line e f) es id

abbrev pub AheadHas : Timeline → Frame → List (List Change) → ℕ → Type 0
AheadHas t f [] id = ⊥
AheadHas t f (e ∷ es) id = OnHas t e f id ⊎ AheadHas t (forth_all t.line e f) es id

-- the frame has it, or one since the start of the open batch, or one along the steps that undo or redo leads over
abbrev pub HasAny : Timeline → Frame → History Entry → Option Entry → ℕ → Type 0
HasAny t f steps batch id = HereHas t (open_changes batch) f id ⊎ (PastHas t (start_of t batch f) (steps_of steps.done) id ⊎ AheadHas t f (steps_of steps.undone) id)

-- a workbook of the session has the formula: the present one, one since the start of the open batch, one that undo or redo
-- leads to, or one between the changes of a step
abbrev pub IsInUse : Session → ℕ → Type 0
IsInUse s id = HasAny (timeline_of s.book) (frame_of s.book) s.steps s.batch id
