-- That steps fit has one proof at most.
use denote.Struct.Props as logic
use Rattle.std.specs.Prelude.{ℕ, Option, Some, None, List, [], ◌∷◌}
use Rattle.undo_book.specs.History.{History}
use Rattle.kept_book.specs.Change.{AreKnown, Change, HasSlot, HaveSlots, SheetSlot, forth, sheets_with}
use Rattle.kept_book.specs.Frame.{Frame, Words}
use Rattle.kept_book.specs.Walk.{back_all, forth_all}
use Rattle.kept_book.specs.declared.book.Book.{Book}
use Rattle.kept_steps.specs.Fits.{AreSteps, Fits}
use Rattle.kept_steps.specs.Steps.{AllLeadOn, AllLedHere, AreAhead, ArePast, AreWholeHere, AreWholeOn, IsWhole, LeadsOn, LedHere}
use Rattle.kept_steps.specs.Timeline.{StandIn, Timeline}
use Rattle.kept_steps.specs.declared.entry.Entry.{Entry}
use Rattle.name_table.specs.declared.key.NameKey.{NameKey}

has_slot-prop : (id : ℕ) (s : SheetSlot) (sheets : List (ℕ × List ℕ)) → IsProp (HasSlot id s sheets)
has_slot-prop id None sheets = Prim.hlevel logic.props
has_slot-prop id (Some (index, name)) sheets = Prim.hlevel logic.props

have_slots-prop : (side : SheetSlot × SheetSlot → SheetSlot) (cs : List (ℕ × (SheetSlot × SheetSlot))) (sheets : List (ℕ × List ℕ)) → IsProp (HaveSlots side cs sheets)
have_slots-prop side [] sheets = Prim.hlevel logic.props
have_slots-prop side (c ∷ cs) sheets = let h = has_slot-prop c.0 (side c.1) (sheets_with side cs sheets) in let r = have_slots-prop side cs sheets in Prim.hlevel (h, r, logic.props)

known-prop : (words : Words) (cs : List (NameKey × (Option ℕ × Option ℕ))) → IsProp (AreKnown words cs)
known-prop words [] = Prim.hlevel logic.props
known-prop words (c ∷ cs) = let r = known-prop words cs in Prim.hlevel (r, logic.props)

stand-prop : (t : Timeline) (f : Frame) → IsProp (StandIn t f)
stand-prop t f = Prim.hlevel logic.props

led-prop : (t : Timeline) (c : Change) (f : Frame) → IsProp (LedHere t c f)
led-prop t c f = Prim.hlevel (have_slots-prop, known-prop, logic.props)

leads-prop : (t : Timeline) (c : Change) (f : Frame) → IsProp (LeadsOn t c f)
leads-prop t c f = Prim.hlevel (have_slots-prop, known-prop, logic.props)

all_led-prop : (t : Timeline) (cs : List Change) (f : Frame) → IsProp (AllLedHere t cs f)
all_led-prop t [] f = Prim.hlevel logic.props
all_led-prop t (c ∷ cs) f = let r = all_led-prop t cs f in let h = led-prop t c (back_all t.line cs f) in Prim.hlevel (r, h, logic.props)

all_lead-prop : (t : Timeline) (cs : List Change) (f : Frame) → IsProp (AllLeadOn t cs f)
all_lead-prop t [] f = Prim.hlevel logic.props
all_lead-prop t (c ∷ cs) f = let h = leads-prop t c f in let r = all_lead-prop t cs (forth t.line c f) in Prim.hlevel (h, r, logic.props)

whole-prop : (t : Timeline) (f : Frame) → IsProp (IsWhole t f)
whole-prop t f = Prim.hlevel (stand-prop, logic.props)

whole_here-prop : (t : Timeline) (cs : List Change) (f : Frame) → IsProp (AreWholeHere t cs f)
whole_here-prop t [] f = whole-prop t f
whole_here-prop t (c ∷ cs) f = let r = whole_here-prop t cs f in let h = whole-prop t (back_all t.line (c ∷ cs) f) in Prim.hlevel (r, h, logic.props)

whole_on-prop : (t : Timeline) (cs : List Change) (f : Frame) → IsProp (AreWholeOn t cs f)
whole_on-prop t [] f = whole-prop t f
whole_on-prop t (c ∷ cs) f = let h = whole-prop t f in let r = whole_on-prop t cs (forth t.line c f) in Prim.hlevel (h, r, logic.props)

past-prop : (t : Timeline) (f : Frame) (es : List (List Change)) → IsProp (ArePast t f es)
past-prop t f [] = Prim.hlevel logic.props
past-prop t f (e ∷ es) =
    let h = all_led-prop t e f in
    let s = whole_here-prop t e f in
    let r = past-prop t (back_all t.line e f) es in
    Prim.hlevel (h, s, r, logic.props)

ahead-prop : (t : Timeline) (f : Frame) (es : List (List Change)) → IsProp (AreAhead t f es)
ahead-prop t f [] = Prim.hlevel logic.props
ahead-prop t f (e ∷ es) =
    let h = all_lead-prop t e f in
    let s = whole_on-prop t e f in
    let r = ahead-prop t (forth_all t.line e f) es in
    Prim.hlevel (h, s, r, logic.props)

steps-prop : (t : Timeline) (first end : ℕ) (f : Frame) (steps : History Entry) (batch : Option Entry) → IsProp (AreSteps t first end f steps batch)
steps-prop t first end f steps batch = Prim.hlevel (stand-prop, all_led-prop, whole_here-prop, past-prop, ahead-prop, logic.props)

pub fits-prop : (b : Book) (steps : History Entry) (batch : Option Entry) → IsProp (Fits b steps batch)
fits-prop b steps batch = Prim.hlevel (steps-prop, logic.props)
