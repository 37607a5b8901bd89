-- Between two operations of other kinds rows go by the edits of rows and columns by those of columns, and whole ranges by
-- those of their axis. Serves the walk over a sheet's lists.
use Rattle.std.proofs.Common.{◌≡◌, ◌∙◌, sym, ap, refl, subst, arith, ℕ, ◌+◌, ◌-◌, ◌<◌, ◌≤◌, ◌==◌, ◌&&◌, Bool, true, false, if◌then◌else◌, List, [], ◌∷◌, drop, drop-drop, MatchOption, Option, Some, None, option_map}
use Rattle.std.proofs.lemmas.Bool.Decides.{nat_tests}
use Rattle.std.proofs.lemmas.Option.{none-some, same_Some}
use Rattle.std.specs.Prelude.{◌||◌}
use Rattle.cell_addr.specs.Axis.{limit_of, same_axis, span_of}
use Rattle.cell_addr.specs.Whole.{whole_block, whole_of}
use Rattle.cell_addr.specs.declared.axis.Axis.{Axis}
use Rattle.cell_addr.specs.declared.axis.Axis.TheVariants.{Rows, Cols}
use Rattle.cell_addr.specs.declared.axis.Span.{Span}
use Rattle.cell_addr.specs.declared.place.Block.{Block}
use Rattle.cell_addr.specs.declared.place.Place.{Place}
use Rattle.cell_addr.specs.declared.place.TheConstants.{ROWS, COLS}
use Rattle.run_walk.specs.Run.{AreSound}
use Rattle.shift_core.specs.Form.{form_of}
use Rattle.shift_core.specs.Lines.{IsSoundEdit, line_after}
use Rattle.shift_core.specs.Sound.{IsSound, IsSoundForm}
use Rattle.shift_core.specs.Spans.{span_after, span_before}
use Rattle.shift_core.specs.Tables.{block_moved, block_returned, place_moved}
use Rattle.shift_core.specs.Wholes.{whole_moved, whole_returned}
use Rattle.shift_core.specs.declared.edit.Edit.{Edit}
use Rattle.shift_core.specs.declared.form.Form.{Form}
use Rattle.shift_core.specs.declared.form.Form.TheVariants.{Lines, Cells, Sheet}
use Rattle.shift_core.specs.declared.shift.Shift.{Shift}
use Rattle.tree_rewrite.specs.internal.Passage.{IsFull}
use Rattle.sheet_shifts.specs.Listed.{listed}
use Rattle.sheet_shifts.specs.Met.{col_edit, edit_in, meets, other, row_edit}
use Rattle.sheet_shifts.specs.declared.entry.Entry.{Entry}
use Rattle.sheet_shifts.specs.declared.left.Left.{Left}
use Rattle.sheet_shifts.specs.internal.Going.{AreSoundEdits, ByPicked, CarriesArea, CarriesEnds, CarriesSpan, GoesBy, IsPast, Never, TakesLine, TakesPlace, is_left, part}
use Rattle.sheet_shifts.specs.internal.Left.{AreSoundLeft, IsLeft, WalksArea, WalksPlace}
use Rattle.sheet_shifts.proofs.Listing.{in_front}
use Rattle.sheet_shifts.proofs.Going.{goes-first, goes-joined, head, past-first, sound-from, walk-goes, walks-end}

-- ---- operations that meet no sheet

off-first : (h a b : ℕ) → (a == h || b == h) ≡ false → (a == h) ≡ false
off-first h a b off = grind (arith, nat_tests)

off-second : (h a b : ℕ) → (a == h || b == h) ≡ false → (b == h) ≡ false
off-second h a b off = grind (arith, nat_tests)

-- ---- an edit of lines takes a place along its axis

abbrev place : ℕ → ℕ → ℕ → Place
place h row col = record { sheet = h; row = row; col = col }

abbrev RowGoes : ℕ → Form → ℕ → ℕ → Type 0
RowGoes h f r q = MatchOption (edit_in h Rows f) (r ≡ q) (λ edit. TakesLine ROWS edit r q)

abbrev ColGoes : ℕ → Form → ℕ → ℕ → Type 0
ColGoes h f c d = MatchOption (edit_in h Cols f) (c ≡ d) (λ edit. TakesLine COLS edit c d)

same-place : (h r c q d : ℕ) → r ≡ q → c ≡ d → place h r c ≡ place h q d
same-place h r c q d down across = ap (λ k. place h k c) down ∙ ap (λ k. place h q k) across

rows-edited : (h : ℕ) (edit : Edit) (r c q d : ℕ) (b : Bool) → MatchOption (if b && true then Some edit else None) (r ≡ q) (λ e. TakesLine ROWS e r q) → MatchOption (if b && false then Some edit else None) (c ≡ d) (λ e. TakesLine COLS e c d)
    → (if b then option_map (λ line. place h line c) (line_after ROWS edit r) else Some (place h r c)) ≡ Some (place h q d)
rows-edited h edit r c q d true down across = ap (option_map (λ line. place h line c)) down ∙ ap (λ k. Some (place h q k)) across
rows-edited h edit r c q d false down across = ap (λ x. Some x) (same-place h r c q d down across)

cols-edited : (h : ℕ) (edit : Edit) (r c q d : ℕ) (b : Bool) → MatchOption (if b && false then Some edit else None) (r ≡ q) (λ e. TakesLine ROWS e r q) → MatchOption (if b && true then Some edit else None) (c ≡ d) (λ e. TakesLine COLS e c d)
    → (if b then option_map (λ line. place h r line) (line_after COLS edit c) else Some (place h r c)) ≡ Some (place h q d)
cols-edited h edit r c q d true down across = ap (option_map (λ line. place h r line)) across ∙ ap (λ k. Some (place h k d)) down
cols-edited h edit r c q d false down across = ap (λ x. Some x) (same-place h r c q d down across)

place-goes-form : (h : ℕ) (f : Form) (r c q d : ℕ) → meets h f ≡ false → RowGoes h f r q → ColGoes h f c d → place_moved f (place h r c) ≡ Some (place h q d)
place-goes-form h (Lines sheet Rows edit) r c q d off down across = rows-edited h edit r c q d (h == sheet) down across
place-goes-form h (Lines sheet Cols edit) r c q d off down across = cols-edited h edit r c q d (h == sheet) down across
place-goes-form h (Cells source to) r c q d off down across =
    let one : (source.sheet == h) ≡ false = off-first h source.sheet to.sheet off in
    let two : (to.sheet == h) ≡ false = off-second h source.sheet to.sheet off in
    rw (one, two) (ap (λ x. Some x) (same-place h r c q d down across))
place-goes-form h (Sheet sheet) r c q d off down across = rw off (ap (λ x. Some x) (same-place h r c q d down across))

-- ---- and a block, which comes back

abbrev block : ℕ → Span → Span → Block
block h down across = record { sheet = h; top = down.first; left = across.first; bottom = down.last; right = across.last }

abbrev DownGoes : ℕ → Form → Span → Span → Type 0
DownGoes h f r q = MatchOption (edit_in h Rows f) (r ≡ q) (λ edit. CarriesSpan ROWS edit r q)

abbrev AcrossGoes : ℕ → Form → Span → Span → Type 0
AcrossGoes h f c d = MatchOption (edit_in h Cols f) (c ≡ d) (λ edit. CarriesSpan COLS edit c d)

same-block : (h : ℕ) (r c q d : Span) → r ≡ q → c ≡ d → block h r c ≡ block h q d
same-block h r c q d down across = ap (λ k. block h k c) down ∙ ap (λ k. block h q k) across

same-blocks : (h : ℕ) (r c q d : Span) → r ≡ q → c ≡ d → (Some (block h r c) ≡ Some (block h q d)) × (Some (block h q d) ≡ Some (block h r c))
same-blocks h r c q d down across = let same = same-block h r c q d down across in (ap (λ x. Some x) same, ap (λ x. Some x) (sym same))

down-edited : (h : ℕ) (edit : Edit) (r c q d : Span) (b : Bool) → MatchOption (if b && true then Some edit else None) (r ≡ q) (λ e. CarriesSpan ROWS e r q) → MatchOption (if b && false then Some edit else None) (c ≡ d) (λ e. CarriesSpan COLS e c d)
    → ((if b then option_map (λ span. block h span c) (span_after ROWS edit r) else Some (block h r c)) ≡ Some (block h q d))
    × ((if b then option_map (λ span. block h span d) (span_before ROWS edit q) else Some (block h q d)) ≡ Some (block h r c))
down-edited h edit r c q d true down across = (
  ap (option_map (λ span. block h span c)) down.0 ∙ ap (λ k. Some (block h q k)) across,
  ap (option_map (λ span. block h span d)) down.1 ∙ ap (λ k. Some (block h r k)) (sym across),
)
down-edited h edit r c q d false down across = same-blocks h r c q d down across

across-edited : (h : ℕ) (edit : Edit) (r c q d : Span) (b : Bool) → MatchOption (if b && false then Some edit else None) (r ≡ q) (λ e. CarriesSpan ROWS e r q) → MatchOption (if b && true then Some edit else None) (c ≡ d) (λ e. CarriesSpan COLS e c d)
    → ((if b then option_map (λ span. block h r span) (span_after COLS edit c) else Some (block h r c)) ≡ Some (block h q d))
    × ((if b then option_map (λ span. block h q span) (span_before COLS edit d) else Some (block h q d)) ≡ Some (block h r c))
across-edited h edit r c q d true down across = (
  ap (option_map (λ span. block h r span)) across.0 ∙ ap (λ k. Some (block h k d)) down,
  ap (option_map (λ span. block h q span)) across.1 ∙ ap (λ k. Some (block h k c)) (sym down),
)
across-edited h edit r c q d false down across = same-blocks h r c q d down across

block-goes-form : (h : ℕ) (f : Form) (r c q d : Span) → meets h f ≡ false → DownGoes h f r q → AcrossGoes h f c d → (block_moved f (block h r c) ≡ Some (block h q d)) × (block_returned f (block h q d) ≡ Some (block h r c))
block-goes-form h (Lines sheet Rows edit) r c q d off down across = down-edited h edit r c q d (h == sheet) down across
block-goes-form h (Lines sheet Cols edit) r c q d off down across = across-edited h edit r c q d (h == sheet) down across
block-goes-form h (Cells source to) r c q d off down across =
    let one : (source.sheet == h) ≡ false = off-first h source.sheet to.sheet off in
    let two : (to.sheet == h) ≡ false = off-second h source.sheet to.sheet off in
    let same = same-blocks h r c q d down across in
    (rw (one, two) same.0, rw two same.1)
block-goes-form h (Sheet sheet) r c q d off down across = let same = same-blocks h r c q d down across in (rw off same.0, rw off same.1)

-- ---- and a whole range, which the edits across leave

abbrev all_of : ℕ → Span
all_of limit = record { first = 0; last = limit - 1 }

abbrev WholeGoes : Axis → Form → Block → Block → Type 0
WholeGoes axis f b c = (option_map whole_block (whole_moved f (whole_of axis b)) ≡ Some c) × (option_map whole_block (whole_returned f (whole_of axis c)) ≡ Some b)

abbrev as_whole : Axis → Option Block → Option Block
as_whole axis o = option_map whole_block (option_map (whole_of axis) o)

beside : (b : Bool) (edit : Edit) (s : Span) (P : Edit → Type 0) → MatchOption (if b && false then Some edit else None) (s ≡ s) P
beside true edit s P = refl
beside false edit s P = refl

beside-same : (b : Bool) (edit : Edit) (s t : Span) (P : Edit → Type 0) → MatchOption (if b && false then Some edit else None) (s ≡ t) P → s ≡ t
beside-same true edit s t P h = h
beside-same false edit s t P h = h

rows-goes-form : (h : ℕ) (f : Form) (r q : Span) → meets h f ≡ false → DownGoes h f r q → WholeGoes Rows f (block h r (all_of COLS)) (block h q (all_of COLS))
rows-goes-form h (Lines sheet Rows edit) r q off down =
    let goes = block-goes-form h (Lines sheet Rows edit) r (all_of COLS) q (all_of COLS) off down (beside (h == sheet) edit (all_of COLS) (λ e. CarriesSpan COLS e (all_of COLS) (all_of COLS))) in
    (ap (as_whole Rows) goes.0, ap (as_whole Rows) goes.1)
rows-goes-form h (Lines sheet Cols edit) r q off down =
    let same = beside-same (h == sheet) edit r q (λ e. CarriesSpan ROWS e r q) down in
    (ap (λ k. Some (block h k (all_of COLS))) same, ap (λ k. Some (block h k (all_of COLS))) (sym same))
rows-goes-form h (Cells source to) r q off down =
    let goes = block-goes-form h (Cells source to) r (all_of COLS) q (all_of COLS) off down refl in
    (ap (as_whole Rows) goes.0, ap (as_whole Rows) goes.1)
rows-goes-form h (Sheet sheet) r q off down =
    let goes = block-goes-form h (Sheet sheet) r (all_of COLS) q (all_of COLS) off down refl in
    (ap (as_whole Rows) goes.0, ap (as_whole Rows) goes.1)

cols-goes-form : (h : ℕ) (f : Form) (c d : Span) → meets h f ≡ false → AcrossGoes h f c d → WholeGoes Cols f (block h (all_of ROWS) c) (block h (all_of ROWS) d)
cols-goes-form h (Lines sheet Rows edit) c d off across =
    let same = beside-same (h == sheet) edit c d (λ e. CarriesSpan COLS e c d) across in
    (ap (λ k. Some (block h (all_of ROWS) k)) same, ap (λ k. Some (block h (all_of ROWS) k)) (sym same))
cols-goes-form h (Lines sheet Cols edit) c d off across =
    let goes = block-goes-form h (Lines sheet Cols edit) (all_of ROWS) c (all_of ROWS) d off (beside (h == sheet) edit (all_of ROWS) (λ e. CarriesSpan ROWS e (all_of ROWS) (all_of ROWS))) across in
    (ap (as_whole Cols) goes.0, ap (as_whole Cols) goes.1)
cols-goes-form h (Cells source to) c d off across =
    let goes = block-goes-form h (Cells source to) (all_of ROWS) c (all_of ROWS) d off refl across in
    (ap (as_whole Cols) goes.0, ap (as_whole Cols) goes.1)
cols-goes-form h (Sheet sheet) c d off across =
    let goes = block-goes-form h (Sheet sheet) (all_of ROWS) c (all_of ROWS) d off refl across in
    (ap (as_whole Cols) goes.0, ap (as_whole Cols) goes.1)

-- ---- over a run of which no operation of another kind meets the sheet

unpicked : (m : Bool) (s : Shift) (u v : Unit {0}) → MatchOption (if m then Some s else None) (u ≡ v) (λ what. Never what u v) → m ≡ false
unpicked true s u v none = absurd none
unpicked false s u v none = refl

places-go : (h : ℕ) (xs : List Shift) (r c q d : ℕ) (u v : Unit {0}) → GoesBy (ByPicked (other h) Never) xs u v → GoesBy (ByPicked (row_edit h) (TakesLine ROWS)) xs r q → GoesBy (ByPicked (col_edit h) (TakesLine COLS)) xs c d → GoesBy TakesPlace xs (place h r c) (place h q d)
places-go h [] r c q d u v none down across = same-place h r c q d down across
places-go h (s ∷ xs) r c q d u v none down across = (
  place h down.0 across.0,
  (
    place-goes-form h (form_of s) r c down.0 across.0 (unpicked (meets h (form_of s)) s u none.0 none.1.0) down.1.0 across.1.0,
    places-go h xs down.0 across.0 q d none.0 v none.1.1 down.1.1 across.1.1,
  ),
)

blocks-go : (h : ℕ) (xs : List Shift) (r c q d : Span) (u v : Unit {0}) → GoesBy (ByPicked (other h) Never) xs u v → GoesBy (ByPicked (row_edit h) (CarriesSpan ROWS)) xs r q → GoesBy (ByPicked (col_edit h) (CarriesSpan COLS)) xs c d → GoesBy (CarriesArea None) xs (block h r c) (block h q d)
blocks-go h [] r c q d u v none down across = same-block h r c q d down across
blocks-go h (s ∷ xs) r c q d u v none down across = (
  block h down.0 across.0,
  (
    block-goes-form h (form_of s) r c down.0 across.0 (unpicked (meets h (form_of s)) s u none.0 none.1.0) down.1.0 across.1.0,
    blocks-go h xs down.0 across.0 q d none.0 v none.1.1 down.1.1 across.1.1,
  ),
)

rows-go : (h : ℕ) (xs : List Shift) (r q : Span) (u v : Unit {0}) → GoesBy (ByPicked (other h) Never) xs u v → GoesBy (ByPicked (row_edit h) (CarriesSpan ROWS)) xs r q → GoesBy (CarriesArea (Some Rows)) xs (block h r (all_of COLS)) (block h q (all_of COLS))
rows-go h [] r q u v none down = ap (λ k. block h k (all_of COLS)) down
rows-go h (s ∷ xs) r q u v none down = (
  block h down.0 (all_of COLS),
  (rows-goes-form h (form_of s) r down.0 (unpicked (meets h (form_of s)) s u none.0 none.1.0) down.1.0, rows-go h xs down.0 q none.0 v none.1.1 down.1.1),
)

cols-go : (h : ℕ) (xs : List Shift) (c d : Span) (u v : Unit {0}) → GoesBy (ByPicked (other h) Never) xs u v → GoesBy (ByPicked (col_edit h) (CarriesSpan COLS)) xs c d → GoesBy (CarriesArea (Some Cols)) xs (block h (all_of ROWS) c) (block h (all_of ROWS) d)
cols-go h [] c d u v none across = ap (λ k. block h (all_of ROWS) k) across
cols-go h (s ∷ xs) c d u v none across = (
  block h (all_of ROWS) across.0,
  (cols-goes-form h (form_of s) c across.0 (unpicked (meets h (form_of s)) s u none.0 none.1.0) across.1.0, cols-go h xs across.0 d none.0 v none.1.1 across.1.1),
)

-- ends that no edit moves
stays-by : (o : Option Edit) (s t : Span) → MatchOption o (s ≡ t) (λ edit. s ≡ t) → s ≡ t
stays-by None s t same = same
stays-by (Some edit) s t same = same

stays : (pick : Shift → Option Edit) (xs : List Shift) (s t : Span) → GoesBy (ByPicked pick (λ edit x y. x ≡ y)) xs s t → s ≡ t
stays pick [] s t goes = goes
stays pick (z ∷ xs) s t goes = stays-by (pick z) s goes.0 goes.1.0 ∙ stays pick xs goes.0 t goes.1.1

areas-go : (lines : Option Axis) (h : ℕ) (xs : List Shift) (r c q d : Span) (u v : Unit {0}) → IsFull lines (block h r c) → GoesBy (ByPicked (other h) Never) xs u v → GoesBy (ByPicked (row_edit h) (CarriesEnds (is_left lines Rows) ROWS)) xs r q
    → GoesBy (ByPicked (col_edit h) (CarriesEnds (is_left lines Cols) COLS)) xs c d → GoesBy (CarriesArea lines) xs (block h r c) (block h q d)
areas-go None h xs r c q d u v full none down across = blocks-go h xs r c q d u v none down across
areas-go (Some Rows) h xs r c q d u v full none down across =
    let here : all_of COLS ≡ c = ap (span_of Cols) full in
    subst (λ k. GoesBy (CarriesArea (Some Rows)) xs (block h r c) (block h q k)) (stays (col_edit h) xs c d across)
    (subst (λ k. GoesBy (CarriesArea (Some Rows)) xs (block h r k) (block h q k)) here (rows-go h xs r q u v none down))
areas-go (Some Cols) h xs r c q d u v full none down across =
    let here : all_of ROWS ≡ r = ap (span_of Rows) full in
    subst (λ k. GoesBy (CarriesArea (Some Cols)) xs (block h r c) (block h k d)) (stays (row_edit h) xs r q down)
    (subst (λ k. GoesBy (CarriesArea (Some Cols)) xs (block h k c) (block h k d)) here (cols-go h xs c d u v none across))

-- ---- over the lists of a sheet

abbrev nothing : Unit {0}
nothing = tt

module _ (run : List Shift) (index to : ℕ) (left rest : Left) (order : index ≤ to) (past : IsPast to left.others.now) where
  others-left : (h : ℕ) → IsLeft run h index left → GoesBy (ByPicked (other h) Never) (part index to run) nothing nothing × (left.others.now ≡ listed (other h) to (drop to run))
  others-left h is = walk-goes (other h) Never run index to nothing nothing left.others.now left.others.now order is.others (walks-end Never to left.others.now nothing past)

  pub place-along : (p q : Place) → IsLeft run p.sheet index left → WalksPlace to left p q rest → GoesBy TakesPlace (part index to run) p q × IsLeft run q.sheet to rest
  place-along p q is walks =
      let h = p.sheet in
      let down = walk-goes (row_edit h) (TakesLine ROWS) run index to p.row q.row left.rows.now rest.rows.now order is.rows walks.rows in
      let across = walk-goes (col_edit h) (TakesLine COLS) run index to p.col q.col left.cols.now rest.cols.now order is.cols walks.cols in
      let none = others-left h is in
      let there : record { sheet = h; row = q.row; col = q.col } ≡ q = ap (λ k. place k q.row q.col) (sym walks.sheet) in
      let goes : GoesBy TakesPlace (part index to run) p q = subst (GoesBy TakesPlace (part index to run) p) there (places-go h (part index to run) p.row p.col q.row q.col nothing nothing none.0 down.0 across.0) in
      let still = walks.sheet in (
        goes,
        record {
          rows = down.1 ∙ ap (λ k. listed (row_edit k) to (drop to run)) (sym still);
          cols = across.1 ∙ ap (λ k. listed (col_edit k) to (drop to run)) (sym still);
          others = walks.others ∙ none.1 ∙ ap (λ k. listed (other k) to (drop to run)) (sym still);
        },
      )

  pub area-along : (lines : Option Axis) (b c : Block) → IsFull lines b → IsLeft run b.sheet index left → WalksArea lines to left b c rest → GoesBy (CarriesArea lines) (part index to run) b c × IsLeft run c.sheet to rest
  area-along lines b c full is walks =
      let h = b.sheet in
      let from_down : Span = record { first = b.top; last = b.bottom } in
      let from_across : Span = record { first = b.left; last = b.right } in
      let to_down : Span = record { first = c.top; last = c.bottom } in
      let to_across : Span = record { first = c.left; last = c.right } in
      let down = walk-goes (row_edit h) (CarriesEnds (is_left lines Rows) ROWS) run index to from_down to_down left.rows.now rest.rows.now order is.rows walks.rows in
      let across = walk-goes (col_edit h) (CarriesEnds (is_left lines Cols) COLS) run index to from_across to_across left.cols.now rest.cols.now order is.cols walks.cols in
      let none = others-left h is in
      let there : block h to_down to_across ≡ c = ap (λ k. block k to_down to_across) (sym walks.sheet) in
      let goes : GoesBy (CarriesArea lines) (part index to run) b c = subst (GoesBy (CarriesArea lines) (part index to run) b) there (areas-go lines h (part index to run) from_down from_across to_down to_across nothing nothing full none.0 down.0 across.0) in
      let still = walks.sheet in (
        goes,
        record {
          rows = down.1 ∙ ap (λ k. listed (row_edit k) to (drop to run)) (sym still);
          cols = across.1 ∙ ap (λ k. listed (col_edit k) to (drop to run)) (sym still);
          others = walks.others ∙ none.1 ∙ ap (λ k. listed (other k) to (drop to run)) (sym still);
        },
      )

-- ---- the operation of another kind that comes next

-- it stands at its index, and behind it the rest of the lists
pub record IsNext (run : List Shift) (h : ℕ) (left : Left) (e : Entry Shift) (behind : List (Entry Shift)) : Type 0 where
  pub later : List Shift
  pub is : drop e.index run ≡ e.what ∷ later
  pub rows : left.rows.now ≡ listed (row_edit h) (e.index + 1) (drop (e.index + 1) run)
  pub cols : left.cols.now ≡ listed (col_edit h) (e.index + 1) (drop (e.index + 1) run)
  pub others : behind ≡ listed (other h) (e.index + 1) (drop (e.index + 1) run)

none-edited : (h : ℕ) (axis : Axis) (f : Form) → meets h f ≡ true → edit_in h axis f ≡ None
none-edited h axis (Lines sheet along edit) on = absurd (let no : false ≡ true = on in cc)
none-edited h axis (Cells source to) on = refl
none-edited h axis (Sheet sheet) on = refl

picked-met : (m : Bool) (s w : Shift) → (if m then Some s else None) ≡ Some w → (m ≡ true) × (s ≡ w)
picked-met true s w is = (refl, same_Some s w is)
picked-met false s w is = absurd (none-some w is)

skips : {Y : Type 0} (pick : Shift → Option Y) (index : ℕ) (run : List Shift) (s : Shift) (later : List Shift) → drop index run ≡ s ∷ later → pick s ≡ None → listed pick index (drop index run) ≡ listed pick (index + 1) later
skips pick index run s later is none = ap (listed pick index) is ∙ ap (λ o. in_front index o (listed pick (index + 1) later)) none

pub next-other : (run : List Shift) (h : ℕ) (left : Left) (e : Entry Shift) (others : List (Entry Shift)) → IsLeft run h e.index left → left.others.now ≡ e ∷ others → IsNext run h left e others
next-other run h left e others is first =
    let at = head (other h) (drop e.index run) e others (sym is.others ∙ first) in
    let met = picked-met (meets h (form_of at.shift)) at.shift e.what at.picked in
    let behind : at.later ≡ drop (e.index + 1) run = sym (sym (drop-drop 1 e.index run) ∙ ap (drop 1) at.is) in
    record {
      later = at.later;
      is = at.is ∙ ap (λ s. s ∷ at.later) met.1;
      rows = is.rows ∙ skips (row_edit h) e.index run at.shift at.later at.is (none-edited h Rows (form_of at.shift) met.0) ∙ ap (listed (row_edit h) (e.index + 1)) behind;
      cols = is.cols ∙ skips (col_edit h) e.index run at.shift at.later at.is (none-edited h Cols (form_of at.shift) met.0) ∙ ap (listed (col_edit h) (e.index + 1)) behind;
      others = at.behind ∙ ap (listed (other h) (e.index + 1)) behind;
    }

-- it has the index of the lists, or a later one
pub not-passed : (run : List Shift) (h index : ℕ) (left : Left) (e : Entry Shift) (others : List (Entry Shift)) → IsLeft run h index left → left.others.now ≡ e ∷ others → index ≤ e.index
not-passed run h index left e others is first = subst (IsPast index) (sym is.others ∙ first) (past-first (other h) index (drop index run))

-- ---- sound lists

sound-in : (index : ℕ) (limit : ℕ) (o : Option Edit) (rest : List (Entry Edit)) → MatchOption o (Unit {0}) (λ edit. IsSoundEdit limit edit) → AreSoundEdits limit rest → AreSoundEdits limit (in_front index o rest)
sound-in index limit (Some edit) rest sound each = (sound, each)
sound-in index limit None rest sound each = each

sound-if : (axis along : Axis) (edit : Edit) (b : Bool) → IsSoundEdit (limit_of along) edit → MatchOption (if b && same_axis along axis then Some edit else None) (Unit {0}) (λ e. IsSoundEdit (limit_of axis) e)
sound-if axis along edit false sound = tt
sound-if Rows Rows edit true sound = sound
sound-if Rows Cols edit true sound = tt
sound-if Cols Rows edit true sound = tt
sound-if Cols Cols edit true sound = sound

sound-edit : (h : ℕ) (axis : Axis) (f : Form) → IsSoundForm f → MatchOption (edit_in h axis f) (Unit {0}) (λ edit. IsSoundEdit (limit_of axis) edit)
sound-edit h axis (Lines sheet along edit) sound = sound-if axis along edit (h == sheet) sound
sound-edit h axis (Cells source to) sound = tt
sound-edit h axis (Sheet sheet) sound = tt

sound-edits : (h : ℕ) (axis : Axis) (index : ℕ) (xs : List Shift) → AreSound xs → AreSoundEdits (limit_of axis) (listed (λ s. edit_in h axis (form_of s)) index xs)
sound-edits h axis index [] sound = tt
sound-edits h axis index (s ∷ xs) sound = sound-in index (limit_of axis) (edit_in h axis (form_of s)) (listed (λ t. edit_in h axis (form_of t)) (index + 1) xs) (sound-edit h axis (form_of s) sound.0) (sound-edits h axis (index + 1) xs sound.1)

pub sound-left : (run : List Shift) (h from index : ℕ) (left : Left) → from ≤ index → AreSound (drop from run) → IsLeft run h index left → AreSoundLeft left
sound-left run h from index left order sound is =
    let here = sound-from from index run order sound in (
      subst (AreSoundEdits ROWS) (sym is.rows) (sound-edits h Rows index (drop index run) here),
      subst (AreSoundEdits COLS) (sym is.cols) (sound-edits h Cols index (drop index run) here),
    )

-- and so is the operation of another kind that comes next
pub sound-next : (run : List Shift) (h from : ℕ) (left : Left) (e : Entry Shift) (others : List (Entry Shift)) → from ≤ e.index → AreSound (drop from run) → IsNext run h left e others → IsSound e.what
sound-next run h from left e others order sound next =
    let here : AreSound (e.what ∷ next.later) = subst AreSound next.is (sound-from from e.index run order sound) in
    here.0

-- ---- a step of the walk: along the axes to the operation of another kind that comes next, and by that

-- what stands at the end of a stretch along the axes
pub record ComesTo {X : Type 0} (Step : Shift → X → X → Type 0) (run : List Shift) (index h : ℕ) (rest : Left) (e : Entry Shift) (behind : List (Entry Shift)) (x here : X) : Type 0 where
  pub order : index ≤ e.index
  pub along : GoesBy Step (part index e.index run) x here
  pub next : IsNext run h rest e behind

module _ (run : List Shift) (index : ℕ) (left rest : Left) (e : Entry Shift) (behind : List (Entry Shift)) (first : left.others.now ≡ e ∷ behind) where
  past-first-other : IsPast e.index left.others.now
  past-first-other = let same : e.index ≤ e.index = omega arith in subst (IsPast e.index) (sym first) same

  pub place-comes : (p here : Place) → IsLeft run p.sheet index left → WalksPlace e.index left p here rest → ComesTo TakesPlace run index here.sheet rest e behind p here
  place-comes p here is walks =
      let order = not-passed run p.sheet index left e behind is first in
      let on = place-along run index e.index left rest order past-first-other p here is walks in
      record { order = order; along = on.0; next = next-other run here.sheet rest e behind on.1 (walks.others ∙ first) }

  pub area-comes : (lines : Option Axis) (b here : Block) → IsFull lines b → IsLeft run b.sheet index left → WalksArea lines e.index left b here rest → ComesTo (CarriesArea lines) run index here.sheet rest e behind b here
  area-comes lines b here full is walks =
      let order = not-passed run b.sheet index left e behind is first in
      let on = area-along run index e.index left rest order past-first-other lines b here full is walks in
      record { order = order; along = on.0; next = next-other run here.sheet rest e behind on.1 (walks.others ∙ first) }

-- by that operation, and on from there
pub goes-past : {X : Type 0} (Step : Shift → X → X → Type 0) (run : List Shift) (index to h : ℕ) (rest : Left) (e : Entry Shift) (behind : List (Entry Shift)) (x here z y : X) → e.index < to → ComesTo Step run index h rest e behind x here → Step e.what here z
    → GoesBy Step (part (e.index + 1) to run) z y → GoesBy Step (part index to run) x y
goes-past Step run index to h rest e behind x here z y before comes step goes =
    let high : e.index ≤ to = omega (arith, before) in
    goes-joined Step run index e.index to x here y comes.order high comes.along (goes-first Step run e.index to e.what comes.next.later here z y comes.next.is before step goes)
