-- Changes one after the other, as loops go over them. Serves the steps back and forth.
use Rattle.std.proofs.Common.{◌≡◌, ◌∙◌, sym, ap, subst, refl, arith, ℕ, zero, suc, ◌+◌, ◌-◌, ◌<◌, ◌≤◌, List, [], ◌∷◌, ◌++◌, length, get_or, map, drop, take, Some, None}
use Rattle.std.proofs.lemmas.Option.{none-some, same_Some}
use Rattle.std.specs.Prelude.{slice_get}
use Rattle.std.proofs.lemmas.List.{drop_more, map-append, take_more}
use Rattle.std.specs.FinMap as fin
use Rattle.grid_store.specs.Grid.{with_entries, without_places}
use Rattle.grid_store.specs.declared.cell.Cell.{Cell}
use Rattle.name_table.specs.Scopes.{NameMap, key_of}
use Rattle.shift_core.specs.Maps.{PlaceMap}
use Rattle.kept_book.specs.Change.{AreKnown, Change, HasSlot, HaveSlots, SheetSlot, back, cells_after, cells_before, forth, names_with, places_of, shift_of, sheets_with, with_id}
use Rattle.kept_book.specs.Frame.{Frame, Line, Words}
use Rattle.kept_book.specs.Kept.{change_of, changes_of, name_change, sheet_change}
use Rattle.kept_book.specs.Walk.{Leads, back_all, forth_all}
use Rattle.kept_book.specs.declared.part.NameChange.{NameChange}
use Rattle.kept_book.specs.declared.part.Part.{Part}
use Rattle.kept_book.specs.declared.part.SheetChange.{SheetChange}
use Rattle.kept_book.specs.declared.passing.Side.TheVariants.{Before, After}
use Rattle.kept_book.specs.internal.Dropped.{AreGone}
use Rattle.kept_book.specs.internal.Stepping.{CanRepeat, CanReturn, cells_back, cells_forth, frame_on, names_back, names_forth, sheets_back, sheets_forth}

-- one part, one change of a sheet, and one of a name, in front of those behind it
pub parts-at : (ps : List Part) (i : ℕ) (p : Part) → i < length ps → p ≡ get_or ps i p → changes_of (drop i ps) ≡ change_of p ∷ changes_of (drop (i + 1) ps)
parts-at ps i p l is = ap changes_of (drop_more ps i p l ∙ ap (λ x. x ∷ drop (i + 1) ps) (sym is))

-- one part behind those in front of it
pub parts-before : (ps : List Part) (i : ℕ) (p : Part) → i < length ps → p ≡ get_or ps i p → changes_of (take (i + 1) ps) ≡ changes_of (take i ps) ++ change_of p ∷ []
parts-before ps i p l is = ap changes_of (take_more ps i p l ∙ ap (λ x. take i ps ++ x ∷ []) (sym is)) ∙ map-append change_of (take i ps) (p ∷ [])

-- what a last change without an operation makes of the cells
pub forth-last : (line : Line) (cs : List Change) (c : Change) (m : PlaceMap Cell) → shift_of line c ≡ None
    → cells_forth line (cs ++ c ∷ []) m ≡ with_entries c.written (without_places (places_of c.replaced) (cells_forth line cs m))
forth-last line [] c m none = ap (λ s. cells_after s c m) none
forth-last line (d ∷ cs) c m none = forth-last line cs c (cells_after (shift_of line d) d m) none

pub sheets-at : (cs : List SheetChange) (i : ℕ) (c : SheetChange) → i < length cs → c ≡ get_or cs i c → map sheet_change (drop i cs) ≡ sheet_change c ∷ map sheet_change (drop (i + 1) cs)
sheets-at cs i c l is = ap (map sheet_change) (drop_more cs i c l ∙ ap (λ x. x ∷ drop (i + 1) cs) (sym is))

pub names-at : (cs : List NameChange) (i : ℕ) (d : NameChange) → i < length cs → map name_change (drop i cs) ≡ name_change (get_or cs i d) ∷ map name_change (drop (i + 1) cs)
names-at cs i d l = ap (map name_change) (drop_more cs i d l)

-- what holds of all holds of those from one on
pub known-from : (words : Words) (cs : List NameChange) (i : ℕ) → AreKnown words (map name_change cs) → AreKnown words (map name_change (drop i cs))
known-from words cs zero h = h
known-from words [] (suc i) h = tt
known-from words (c ∷ cs) (suc i) h = known-from words cs i h.1

pub slots-from : (side : SheetSlot × SheetSlot → SheetSlot) (cs : List SheetChange) (i : ℕ) (sheets : List (ℕ × List ℕ)) → HaveSlots side (map sheet_change cs) sheets → HaveSlots side (map sheet_change (drop i cs)) sheets
slots-from side cs zero sheets h = h
slots-from side [] (suc i) sheets h = tt
slots-from side (c ∷ cs) (suc i) sheets h = slots-from side cs i sheets h.1

pub return-from : (words : Words) (ps : List Part) (i : ℕ) (sheets : List (ℕ × List ℕ)) → CanReturn words (changes_of ps) sheets → CanReturn words (changes_of (drop i ps)) sheets
return-from words ps zero sheets h = h
return-from words [] (suc i) sheets h = tt
return-from words (p ∷ ps) (suc i) sheets h = return-from words ps i sheets h.2

-- the frame before changes, part by part
pub back-cells : (line : Line) (cs : List Change) (f : Frame) → (back_all line cs f).cells ≡ cells_back line cs f.cells
back-cells line [] f = refl
back-cells line (c ∷ cs) f = ap (cells_before (shift_of line c) c) (back-cells line cs f)

pub back-sheets : (line : Line) (cs : List Change) (f : Frame) → (back_all line cs f).sheets ≡ sheets_back cs f.sheets
back-sheets line [] f = refl
back-sheets line (c ∷ cs) f = ap (sheets_with (λ x. x.0) c.sheets) (back-sheets line cs f)

pub back-names : (line : Line) (cs : List Change) (f : Frame) → (back_all line cs f).names ≡ names_back cs f.names
back-names line [] f = refl
back-names line (c ∷ cs) f = ap (names_with (λ x. x.0) c.names) (back-names line cs f)

-- and the frame after them
pub forth-cells : (line : Line) (cs : List Change) (f : Frame) → (forth_all line cs f).cells ≡ cells_forth line cs f.cells
forth-cells line [] f = refl
forth-cells line (c ∷ cs) f = forth-cells line cs (forth line c f)

pub forth-sheets : (line : Line) (cs : List Change) (f : Frame) → (forth_all line cs f).sheets ≡ sheets_forth cs f.sheets
forth-sheets line [] f = refl
forth-sheets line (c ∷ cs) f = forth-sheets line cs (forth line c f)

pub forth-names : (line : Line) (cs : List Change) (f : Frame) → (forth_all line cs f).names ≡ names_forth cs f.names
forth-names line [] f = refl
forth-names line (c ∷ cs) f = forth-names line cs (forth line c f)

-- the frame at the position of one side of changes
pub frame-back : (position : ℕ) (line : Line) (cs : List Change) (f : Frame) → position ≡ (back_all line cs f).position → frame_on Before position line cs f ≡ back_all line cs f
frame-back position line cs f there i = record { position = there i; cells = sym (back-cells line cs f) i; sheets = sym (back-sheets line cs f) i; names = sym (back-names line cs f) i }

pub frame-forth : (position : ℕ) (line : Line) (cs : List Change) (f : Frame) → position ≡ (forth_all line cs f).position → frame_on After position line cs f ≡ forth_all line cs f
frame-forth position line cs f there i = record { position = there i; cells = sym (forth-cells line cs f) i; sheets = sym (forth-sheets line cs f) i; names = sym (forth-names line cs f) i }

-- changes that lead here lead back
pub leads-back : (line : Line) (words : Words) (cs : List Change) (f g : Frame) → Leads line words cs f g → back_all line cs g ≡ f
leads-back line words [] f g h = sym h
leads-back line words (c ∷ cs) f g h = ap (back line c) (leads-back line words cs h.0 g h.2) ∙ h.1.before

pub leads-forth : (line : Line) (words : Words) (cs : List Change) (f g : Frame) → Leads line words cs f g → forth_all line cs f ≡ g
leads-forth line words [] f g h = h
leads-forth line words (c ∷ cs) f g h = ap (forth_all line cs) h.1.after ∙ leads-forth line words cs h.0 g h.2

-- what they list can be put back
pub leads-return : (line : Line) (words : Words) (cs : List Change) (f g : Frame) → Leads line words cs f g → CanReturn words cs g.sheets
leads-return line words [] f g h = tt
leads-return line words (c ∷ cs) f g h =
    let there : h.0.sheets ≡ sheets_back cs g.sheets = sym (ap (λ x. x.sheets) (leads-back line words cs h.0 g h.2)) ∙ back-sheets line cs g in
    (subst (HaveSlots (λ x. x.0) c.sheets) there h.1.returns, h.1.known, leads-return line words cs h.0 g h.2)

-- and done again
pub leads-repeat : (line : Line) (words : Words) (cs : List Change) (f g : Frame) → Leads line words cs f g → CanRepeat words cs f.sheets
leads-repeat line words [] f g h = tt
leads-repeat line words (c ∷ cs) f g h =
    let next : h.0.sheets ≡ sheets_with (λ x. x.1) c.sheets f.sheets = sym (ap (λ x. x.sheets) h.1.after) in
    (h.1.repeats, h.1.known, subst (CanRepeat words cs) next (leads-repeat line words cs h.0 g h.2))

-- the positions of changes rise
pub leads-order : (line : Line) (words : Words) (cs : List Change) (f g : Frame) → Leads line words cs f g → f.position ≤ g.position
leads-order line words [] f g h = let same = ap (λ x. x.position) h in omega (arith, same)
leads-order line words (c ∷ cs) f g h =
    let from : c.from ≡ f.position = ap (λ x. x.position) h.1.before in
    let to : c.to ≡ h.0.position = ap (λ x. x.position) h.1.after in
    let order = h.1.order in
    let more = leads-order line words cs h.0 g h.2 in
    omega (arith, from, to, order, more)

-- the last one leads to the position behind it
pub last-to : (line : Line) (ps : List Part) (p : Part) (f : Frame) → (forth_all line (changes_of (ps ++ p ∷ [])) f).position ≡ p.to
last-to line [] p f = refl
last-to line (q ∷ ps) p f = last-to line ps p (forth line (change_of q) f)

-- what a listed change asks
pub known-at : (words : Words) (cs : List NameChange) (i : ℕ) (d : NameChange) → AreKnown words (map name_change cs) → i < length cs → (get_or cs i d).word < length words
known-at words [] i d h l = absurd (omega arith)
known-at words (c ∷ cs) zero d h l = h.0
known-at words (c ∷ cs) (suc i) d h l = known-at words cs i d h.1 (omega arith)

pub gone-at : (cs : List NameChange) (i : ℕ) (d : NameChange) → AreGone (map name_change cs) → i < length cs → (get_or cs i d).after ≡ None
gone-at [] i d h l = absurd (omega arith)
gone-at (c ∷ cs) zero d h l = h.0
gone-at (c ∷ cs) (suc i) d h l = gone-at cs i d h.1 (omega arith)

pub slot-at : (side : SheetSlot × SheetSlot → SheetSlot) (cs : List SheetChange) (i : ℕ) (c : SheetChange) (sheets : List (ℕ × List ℕ)) → HaveSlots side (map sheet_change cs) sheets → i < length cs → c ≡ get_or cs i c
    → HasSlot c.id (side (c.before, c.after)) (sheets_with side (map sheet_change (drop (i + 1) cs)) sheets)
slot-at side cs i c sheets h l is = (subst (λ es. HaveSlots side es sheets) (sheets-at cs i c l is) (slots-from side cs i sheets h)).0

-- the names without one more of those that go
pub left-step : (cs : List NameChange) (i : ℕ) (d : NameChange) (names now next : NameMap) → AreGone (map name_change cs) → i < length cs → now ≡ names_with (λ x. x.1) (map name_change (drop (i + 1) cs)) names
    → next ≡ fin.remove now (key_of (get_or cs i d).scope (get_or cs i d).word) → next ≡ names_with (λ x. x.1) (map name_change (drop i cs)) names
left-step cs i d names now next h l is new =
    let e = get_or cs i d in
    new ∙ ap (λ m. fin.remove m (key_of e.scope e.word)) is
    ∙ sym (ap (λ o. with_id (key_of e.scope e.word) o (names_with (λ x. x.1) (map name_change (drop (i + 1) cs)) names)) (gone-at cs i d h l))
    ∙ sym (ap (λ es. names_with (λ x. x.1) (map name_change es) names) (drop_more cs i d l))

-- the position before changes is that of the first
pub first-position : (line : Line) (ps : List Part) (p : Part) (f : Frame) → slice_get ps 0 ≡ Some p → p.from ≡ (back_all line (changes_of ps) f).position
first-position line [] p f e = absurd (none-some p e)
first-position line (q ∷ ps) p f e = sym (ap (λ x. x.from) (same_Some q p e))

last-at : (line : Line) (ps : List Part) (p : Part) (f : Frame) (n : ℕ) → suc n ≡ length ps → slice_get ps n ≡ Some p → p.to ≡ (forth_all line (changes_of ps) f).position
last-at line [] p f n l e = absurd (none-some p e)
last-at line (q ∷ []) p f zero l e = sym (ap (λ x. x.to) (same_Some q p e))
last-at line (q ∷ []) p f (suc n) l e = absurd (none-some p e)
last-at line (q ∷ r ∷ ps) p f zero l e = absurd (omega (arith, l))
last-at line (q ∷ r ∷ ps) p f (suc n) l e = last-at line (r ∷ ps) p (forth line (change_of q) f) n (omega (arith, l)) e

-- and that behind them the one of the last
pub last-position : (line : Line) (ps : List Part) (p : Part) (f : Frame) → slice_get ps (length ps - 1) ≡ Some p → p.to ≡ (forth_all line (changes_of ps) f).position
last-position line [] p f e = absurd (none-some p e)
last-position line (q ∷ ps) p f e = last-at line (q ∷ ps) p f (length (q ∷ ps) - 1) (omega arith) e
