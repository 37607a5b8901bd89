-- What a question for a list of rows with texts is by what was made of the engine's answer and what was written. Serves the cells of areas and
-- the names.
use Rattle.std.proofs.Common.{◌≡◌, ◌∙◌, sym, ap, subst, ℕ, Bool, true, false, ◌&&◌, List, Option, Some, Result, Ok, Err, Vec, Global}
use Rattle.cell_addr.specs.declared.place.Place.{Place}
use Rattle.cell_value.specs.declared.scalar.Scalar.{Scalar}
use Rattle.book_model.specs.Workbook.{State}
use Rattle.book_model.specs.declared.refusal.Refusal.{Refusal}
use Rattle.book_engine.specs.Turns.{Answered}
use Rattle.book_engine.specs.NameEntry.{NameEntry}
use Rattle.book_engine.specs.Stop.{Stop}
use Rattle.book_engine.specs.Stop.TheVariants as stop
use Rattle.engine_face.specs.Areas.{place_rows}
use Rattle.engine_face.specs.Lists.{AreCells, AreNames, EndList, Made, as_names, as_texts, cell_rows, cell_texts, list_sizes, name_rows, name_words, words_or_none}
use Rattle.engine_face.specs.Session.{Finds, Stands, Stays, Told, Wrote}
use Rattle.engine_face.specs.Shown.{EndTold, filled, fits}
use Rattle.engine_face.specs.declared.areas.PlaceRow.{PlaceRow}
use Rattle.engine_face.specs.declared.cells.CellList.{CellList}
use Rattle.engine_face.specs.declared.cells.CellRow.{CellRow}
use Rattle.engine_face.specs.declared.naming.NameList.{NameList}
use Rattle.engine_face.specs.declared.naming.NameRow.{NameRow}
use Rattle.engine_face.specs.declared.room.ListSizes.{ListSizes}
use Rattle.engine_face.specs.declared.session.Session.{Session}
use Rattle.engine_face.specs.declared.status.Status.{Status}
use Rattle.engine_face.proofs.Ends.{list_ends}
use Rattle.engine_face.proofs.Finding.{made}

-- the list that was made is that of the session of the plain machine, and the session stays
module _ {X Y : Type 0} (why : State → Option Refusal) (Says : State → X → Type 0) (rows : X → List Y) (bytes : X → List ℕ) (rows_of : State → List Y) (bytes_of : State → List ℕ) (same_rows : (d : State) (x : X) → Says d x → rows x ≡ rows_of d) (same_bytes : (d : State) (x : X) → Says d x → bytes x ≡ bytes_of d) (old new : Session) (stays : Stays old new) (room room_new : List Y) (texts texts_new : List ℕ) where
  abbrev pub Answers : Result X Stop → Type 0
  Answers end = (d : State) → Stands old d → Answered (why d) (Says d) end

  abbrev pub Written : Result X Stop → Status → Type 0
  Written end status = EndList rows bytes end room room_new texts texts_new status

  abbrev pub have_place : List Y → List ℕ → Bool
  have_place l w = fits l room && fits w texts

  places_same : (d : State) (x : X) (b : Bool) → Says d x → have_place (rows x) (bytes x) ≡ b → have_place (rows_of d) (bytes_of d) ≡ b
  places_same d x b says f = ap (λ (l : List Y). have_place l (bytes_of d)) (sym (same_rows d x says)) ∙ ap (λ (w : List ℕ). have_place (rows x) w) (sym (same_bytes d x says)) ∙ f

  sizes_same : (d : State) (x : X) → Says d x → list_sizes (rows x) (bytes x) ≡ list_sizes (rows_of d) (bytes_of d)
  sizes_same d x says = ap (λ (l : List Y). list_sizes l (bytes x)) (same_rows d x says) ∙ ap (λ (w : List ℕ). list_sizes (rows_of d) w) (same_bytes d x says)

  pub found_list : (end : Result X Stop) (status : Status) → Answers end → Written end status → Finds why (λ d. have_place (rows_of d) (bytes_of d)) old new status
  found_list (Ok x) status h f = list_ends (Finds why (λ d. have_place (rows_of d) (bytes_of d)) old new) (rows x) room room_new (bytes x) texts texts_new (λ g d stands. let a = h d stands in (a.0, places_same d x true a.1 g.0, stays d stands)) (λ g d stands. let a = h d stands in (a.0, places_same d x false a.1 g.0, stays d stands)) status f
  found_list (Err (stop.Refused r)) status h f = let P : Status → Type 0 = Finds why (λ d. have_place (rows_of d) (bytes_of d)) old new in subst P (sym f.0) (λ d stands. (h d stands, stays d stands))
  found_list (Err stop.NoMemory) status h f = let P : Status → Type 0 = Finds why (λ d. have_place (rows_of d) (bytes_of d)) old new in subst P (sym f.0) stays

  pub wrote_rows : (end : Result X Stop) (status : Status) → Answers end → Written end status → Wrote rows_of room room_new old status
  wrote_rows (Ok x) status h f = list_ends (Wrote rows_of room room_new old) (rows x) room room_new (bytes x) texts texts_new (λ g d stands. g.1 ∙ ap (λ (l : List Y). filled l room) (same_rows d x (h d stands).1)) (λ g. g.1) status f
  wrote_rows (Err (stop.Refused r)) status h f = let P : Status → Type 0 = Wrote rows_of room room_new old in subst P (sym f.0) f.1
  wrote_rows (Err stop.NoMemory) status h f = let P : Status → Type 0 = Wrote rows_of room room_new old in subst P (sym f.0) f.1

  pub wrote_bytes : (end : Result X Stop) (status : Status) → Answers end → Written end status → Wrote bytes_of texts texts_new old status
  wrote_bytes (Ok x) status h f = list_ends (Wrote bytes_of texts texts_new old) (rows x) room room_new (bytes x) texts texts_new (λ g d stands. g.2 ∙ ap (λ (w : List ℕ). filled w texts) (same_bytes d x (h d stands).1)) (λ g. g.2) status f
  wrote_bytes (Err (stop.Refused r)) status h f = let P : Status → Type 0 = Wrote bytes_of texts texts_new old in subst P (sym f.0) f.2
  wrote_bytes (Err stop.NoMemory) status h f = let P : Status → Type 0 = Wrote bytes_of texts texts_new old in subst P (sym f.0) f.2

  pub told_sizes : (had now : ListSizes) (end : Result X Stop) (status : Status) → Answers end → Written end status → EndTold (λ x. list_sizes (rows x) (bytes x)) end had now → Told (λ d. list_sizes (rows_of d) (bytes_of d)) had now old status
  told_sizes had now (Ok x) status h f t = list_ends (Told (λ d. list_sizes (rows_of d) (bytes_of d)) had now old) (rows x) room room_new (bytes x) texts texts_new (λ g d stands. t ∙ sizes_same d x (h d stands).1) (λ g d stands. t ∙ sizes_same d x (h d stands).1) status f
  told_sizes had now (Err (stop.Refused r)) status h f t = let P : Status → Type 0 = Told (λ d. list_sizes (rows_of d) (bytes_of d)) had now old in subst P (sym f.0) t
  told_sizes had now (Err stop.NoMemory) status h f t = let P : Status → Type 0 = Told (λ d. list_sizes (rows_of d) (bytes_of d)) had now old in subst P (sym f.0) t

-- so it is with cells
module _ (why : State → Option Refusal) (cells : State → List (Place × Scalar)) (old new : Session) (stays : Stays old new) (room room_new : List CellRow) (texts texts_new : List ℕ) (end : Result CellList Stop) (status : Status) (h : (d : State) → Stands old d → Answered (why d) (AreCells (cells d)) end) (f : EndList (λ (list : CellList). list.rows.items) (λ (list : CellList). list.texts.items) end room room_new texts texts_new status) where
  pub cells_found : Finds why (λ d. fits (cell_rows 0 (cells d)) room && fits (cell_texts (cells d)) texts) old new status
  cells_found = found_list why (λ d. AreCells (cells d)) (λ (list : CellList). list.rows.items) (λ (list : CellList). list.texts.items) (λ d. cell_rows 0 (cells d)) (λ d. cell_texts (cells d)) (λ d list are. are.0) (λ d list are. are.1) old new stays room room_new texts texts_new end status h f

  pub cells_rows : Wrote (λ d. cell_rows 0 (cells d)) room room_new old status
  cells_rows = wrote_rows why (λ d. AreCells (cells d)) (λ (list : CellList). list.rows.items) (λ (list : CellList). list.texts.items) (λ d. cell_rows 0 (cells d)) (λ d. cell_texts (cells d)) (λ d list are. are.0) (λ d list are. are.1) old new stays room room_new texts texts_new end status h f

  pub cells_bytes : Wrote (λ d. cell_texts (cells d)) texts texts_new old status
  cells_bytes = wrote_bytes why (λ d. AreCells (cells d)) (λ (list : CellList). list.rows.items) (λ (list : CellList). list.texts.items) (λ d. cell_rows 0 (cells d)) (λ d. cell_texts (cells d)) (λ d list are. are.0) (λ d list are. are.1) old new stays room room_new texts texts_new end status h f

  pub cells_sizes : (had now : ListSizes) → EndTold (λ (list : CellList). list_sizes list.rows.items list.texts.items) end had now → Told (λ d. list_sizes (cell_rows 0 (cells d)) (cell_texts (cells d))) had now old status
  cells_sizes had now t = told_sizes why (λ d. AreCells (cells d)) (λ (list : CellList). list.rows.items) (λ (list : CellList). list.texts.items) (λ d. cell_rows 0 (cells d)) (λ d. cell_texts (cells d)) (λ d list are. are.0) (λ d list are. are.1) old new stays room room_new texts texts_new had now end status h f t

-- so it is with names
module _ (why : State → Option Refusal) (names : State → List NameEntry) (old new : Session) (stays : Stays old new) (room room_new : List NameRow) (texts texts_new : List ℕ) (end : Result NameList Stop) (status : Status) (h : (d : State) → Stands old d → Answered (why d) (AreNames (names d)) end) (f : EndList (λ (list : NameList). list.rows.items) (λ (list : NameList). list.words.items) end room room_new texts texts_new status) where
  pub names_found : Finds why (λ d. fits (name_rows 0 (names d)) room && fits (name_words (names d)) texts) old new status
  names_found = found_list why (λ d. AreNames (names d)) (λ (list : NameList). list.rows.items) (λ (list : NameList). list.words.items) (λ d. name_rows 0 (names d)) (λ d. name_words (names d)) (λ d list are. are.0) (λ d list are. are.1) old new stays room room_new texts texts_new end status h f

  pub names_rows : Wrote (λ d. name_rows 0 (names d)) room room_new old status
  names_rows = wrote_rows why (λ d. AreNames (names d)) (λ (list : NameList). list.rows.items) (λ (list : NameList). list.words.items) (λ d. name_rows 0 (names d)) (λ d. name_words (names d)) (λ d list are. are.0) (λ d list are. are.1) old new stays room room_new texts texts_new end status h f

  pub names_bytes : Wrote (λ d. name_words (names d)) texts texts_new old status
  names_bytes = wrote_bytes why (λ d. AreNames (names d)) (λ (list : NameList). list.rows.items) (λ (list : NameList). list.words.items) (λ d. name_rows 0 (names d)) (λ d. name_words (names d)) (λ d list are. are.0) (λ d list are. are.1) old new stays room room_new texts texts_new end status h f

  pub names_sizes : (had now : ListSizes) → EndTold (λ (list : NameList). list_sizes list.rows.items list.words.items) end had now → Told (λ d. list_sizes (name_rows 0 (names d)) (name_words (names d))) had now old status
  names_sizes had now t = told_sizes why (λ d. AreNames (names d)) (λ (list : NameList). list.rows.items) (λ (list : NameList). list.words.items) (λ d. name_rows 0 (names d)) (λ d. name_words (names d)) (λ d list are. are.0) (λ d list are. are.1) old new stays room room_new texts texts_new had now end status h f t

-- what is made of the places, of the cells and of the names that the engine answered
pub of_places : (why : Option Refusal) (places : List Place) (end : Result (Vec Place Global) Stop) (list : Result (Vec PlaceRow Global) Stop)
    → Answered why (λ v. v.items ≡ places) end → Made (λ v w. w.items ≡ place_rows v.items) end list → Answered why (λ w. w.items ≡ place_rows places) list
of_places why places end list = made why (λ (v : Vec Place Global). v.items ≡ places) (λ (w : Vec PlaceRow Global). w.items ≡ place_rows places) (λ v w. w.items ≡ place_rows v.items) (λ v w p is. is ∙ ap place_rows p) end list

pub of_values : (why : Option Refusal) (cells : List (Place × Scalar)) (end : Result (Vec (Place × Scalar) Global) Stop) (list : Result CellList Stop)
    → Answered why (λ v. v.items ≡ cells) end → Made (λ v l. AreCells v.items l) end list → Answered why (AreCells cells) list
of_values why cells end list = made why (λ (v : Vec (Place × Scalar) Global). v.items ≡ cells) (AreCells cells) (λ v l. AreCells v.items l) (λ v l p are. (are.0 ∙ ap (cell_rows 0) p, are.1 ∙ ap cell_texts p)) end list

pub of_contents : (why : Option Refusal) (cells : List (Place × List ℕ)) (end : Result (Vec (Place × List ℕ) Global) Stop) (list : Result CellList Stop)
    → Answered why (λ v. v.items ≡ cells) end → Made (λ v l. AreCells (as_texts v.items) l) end list → Answered why (AreCells (as_texts cells)) list
of_contents why cells end list = made why (λ (v : Vec (Place × List ℕ) Global). v.items ≡ cells) (AreCells (as_texts cells)) (λ v l. AreCells (as_texts v.items) l) (λ v l p are. (are.0 ∙ ap (λ (cs : List (Place × List ℕ)). cell_rows 0 (as_texts cs)) p, are.1 ∙ ap (λ (cs : List (Place × List ℕ)). cell_texts (as_texts cs)) p)) end list

pub of_entries : (why : Option Refusal) (entries : List NameEntry) (end : Result (Vec NameEntry Global) Stop) (list : Result NameList Stop)
    → Answered why (λ v. v.items ≡ entries) end → Made (λ v l. AreNames v.items l) end list → Answered why (AreNames entries) list
of_entries why entries end list = made why (λ (v : Vec NameEntry Global). v.items ≡ entries) (AreNames entries) (λ v l. AreNames v.items l) (λ v l p are. (are.0 ∙ ap (name_rows 0) p, are.1 ∙ ap name_words p)) end list

pub of_words : (why : Option Refusal) (words : Option (List (List ℕ))) (end : Result (Vec (List ℕ) Global) Stop) (list : Result NameList Stop)
    → Answered why (λ v. words ≡ Some v.items) end → Made (λ v l. AreNames (as_names v.items) l) end list → Answered why (AreNames (as_names (words_or_none words))) list
of_words why words end list = made why (λ (v : Vec (List ℕ) Global). words ≡ Some v.items) (AreNames (as_names (words_or_none words))) (λ v l. AreNames (as_names v.items) l)
    (λ v l p are. let same = sym (ap words_or_none p) in (are.0 ∙ ap (λ (ws : List (List ℕ)). name_rows 0 (as_names ws)) same, are.1 ∙ ap (λ (ws : List (List ℕ)). name_words (as_names ws)) same)) end list
