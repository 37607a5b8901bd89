-- Steps that led to a frame, and steps that lead on from it. Source: this project's own.
use Rattle.std.specs.Prelude.{◌≡◌, ◌≤◌, ⊤, List, [], ◌∷◌, Some}
use Rattle.std.specs.FinMap as fin
use Rattle.cell_addr.specs.declared.place.Place.{Place}
use Rattle.name_table.specs.declared.key.NameKey.{NameKey}
use Rattle.shift_core.specs.Maps.{AreInside}
use Rattle.shift_core.specs.declared.shift.Shift.{Shift}
use Rattle.book_model.specs.Workbook.{Workbook}
use Rattle.kept_book.specs.Change.{AreKnown, Change, HaveSlots, LeadsBy, back, forth, shift_of}
use Rattle.kept_book.specs.Frame.{Frame}
use Rattle.kept_book.specs.Walk.{back_all, forth_all}
use Rattle.kept_steps.specs.Timeline.{StandIn, Timeline, book_in}

-- two frames are the same: position, cells, sheets and names
pub record SameFrame (f g : Frame) : Type 0 where
  pub position : f.position ≡ g.position
  pub cells : (p : Place) → fin.get f.cells p ≡ fin.get g.cells p
  pub sheets : f.sheets ≡ g.sheets
  pub names : (key : NameKey) → fin.get f.names key ≡ fin.get g.names key

-- a change led to the frame: taken back and done again it leads there
pub record LedHere (t : Timeline) (c : Change) (f : Frame) : Type 0 where
  pub order : c.from ≤ c.to
  pub same : SameFrame (forth t.line c (back t.line c f)) f
  pub operation : (s : Shift) → shift_of t.line c ≡ Some s → LeadsBy s (back t.line c f) f
  pub returns : HaveSlots (λ x. x.0) c.sheets f.sheets
  pub repeats : HaveSlots (λ x. x.1) c.sheets (back t.line c f).sheets
  pub known : AreKnown t.words c.names

-- a change leads on from the frame: done and taken back it leads there
pub record LeadsOn (t : Timeline) (c : Change) (f : Frame) : Type 0 where
  pub order : c.from ≤ c.to
  pub same : SameFrame (back t.line c (forth t.line c f)) f
  pub operation : (s : Shift) → shift_of t.line c ≡ Some s → LeadsBy s f (forth t.line c f)
  pub returns : HaveSlots (λ x. x.0) c.sheets (forth t.line c f).sheets
  pub repeats : HaveSlots (λ x. x.1) c.sheets f.sheets
  pub known : AreKnown t.words c.names

-- so do several, one after the other
abbrev pub AllLedHere : Timeline → List Change → Frame → Type 0
AllLedHere t [] f = ⊤
AllLedHere t (c ∷ cs) f = AllLedHere t cs f × LedHere t c (back_all t.line cs f)

abbrev pub AllLeadOn : Timeline → List Change → Frame → Type 0
AllLeadOn t [] f = ⊤
AllLeadOn t (c ∷ cs) f = LeadsOn t c f × AllLeadOn t cs (forth t.line c f)

-- a frame is whole: its formulas stand at their cells and names, and its cells are on the sheets
pub record IsWhole (t : Timeline) (f : Frame) : Type 0 where
  pub stand : StandIn t f
  pub inside : AreInside f.cells

-- so is each frame before, between and after changes that led to this one
abbrev pub AreWholeHere : Timeline → List Change → Frame → Type 0
AreWholeHere t [] f = IsWhole t f
AreWholeHere t (c ∷ cs) f = AreWholeHere t cs f × IsWhole t (back_all t.line (c ∷ cs) f)

-- and each before, between and after changes that lead on from it
abbrev pub AreWholeOn : Timeline → List Change → Frame → Type 0
AreWholeOn t [] f = IsWhole t f
AreWholeOn t (c ∷ cs) f = IsWhole t f × AreWholeOn t cs (forth t.line c f)

-- steps that were done led to the frame, the newest first, over frames that are whole
abbrev pub ArePast : Timeline → Frame → List (List Change) → Type 0
ArePast t f [] = ⊤
ArePast t f (e ∷ es) = AllLedHere t e f × AreWholeHere t e f × ArePast t (back_all t.line e f) es

-- steps that can be done lead on from it, the next one first, over frames that are whole
abbrev pub AreAhead : Timeline → Frame → List (List Change) → Type 0
AreAhead t f [] = ⊤
AreAhead t f (e ∷ es) = AllLeadOn t e f × AreWholeOn t e f × AreAhead t (forth_all t.line e f) es

-- the workbooks from before the steps, and from after them
abbrev pub books_past : Timeline → Frame → List (List Change) → List Workbook
books_past t f [] = []
books_past t f (e ∷ es) = book_in t (back_all t.line e f) ∷ books_past t (back_all t.line e f) es

abbrev pub books_ahead : Timeline → Frame → List (List Change) → List Workbook
books_ahead t f [] = []
books_ahead t f (e ∷ es) = book_in t (forth_all t.line e f) ∷ books_ahead t (forth_all t.line e f) es

-- the frame before the oldest step, and the one after the last that can be done
abbrev pub oldest : Timeline → Frame → List (List Change) → Frame
oldest t f [] = f
oldest t f (e ∷ es) = oldest t (back_all t.line e f) es

abbrev pub furthest : Timeline → Frame → List (List Change) → Frame
furthest t f [] = f
furthest t f (e ∷ es) = furthest t (forth_all t.line e f) es
