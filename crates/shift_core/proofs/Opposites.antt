-- The operation that takes another one back: it is sound, places go by it as they go back, and so do blocks that were
-- neither bent nor cut. Serves these laws.
use Rattle.std.proofs.Common.{◌≡◌, ◌≢◌, ◌∙◌, ap, refl, sym, subst, ◌⊎◌, inl, inr, ℕ, ◌+◌, ◌-◌, ◌<◌, ◌≤◌, Bool, true, false, cond, eqb, ltb, Option, Some, None, option_map, MatchOption, min, arith}
use Rattle.std.specs.Bool.{⊤}
use Rattle.std.proofs.lemmas.Bool.{cases_lt, cond-true, cond-false, lt-ltb, le-ltb}
use Rattle.std.proofs.lemmas.Bool.Decides.{nat_tests}
use Rattle.std.proofs.lemmas.Option.{same_Some}
use Rattle.cell_addr.specs.declared.axis.Axis.{Axis}
use Rattle.cell_addr.specs.declared.axis.Axis.TheVariants.{Rows, Cols}
use Rattle.cell_addr.specs.declared.axis.Span.{Span}
use Rattle.cell_addr.specs.declared.place.Place.{Place}
use Rattle.cell_addr.specs.declared.place.Block.{Block}
use Rattle.cell_addr.specs.Axis.{limit_of, line_of, span_of, with_line}
use Rattle.cell_addr.specs.Place.{IsBlockInside, IsInside, covers}
use Rattle.shift_core.specs.declared.edit.Edit.{Edit}
use Rattle.shift_core.specs.declared.edit.Edit.TheVariants.{Insert, Delete, Move}
use Rattle.shift_core.specs.declared.form.Form.{Form}
use Rattle.shift_core.specs.declared.form.Form.TheVariants.{Lines, Cells, Sheet}
use Rattle.shift_core.specs.declared.shift.Shift.{Shift}
use Rattle.shift_core.specs.Bent.{BendsBlock, CutsBlock, HaveOtherSizes, MeetsDisplaced}
use Rattle.shift_core.specs.Carried.{carried_block, carried_place, contains, destination, first_place}
use Rattle.shift_core.specs.Form.{IsWithin, form_of, opposite}
use Rattle.shift_core.specs.Lines.{IsSoundDelete, IsSoundEdit, IsSoundInsert, line_after, line_after_delete, line_after_move, line_before}
use Rattle.shift_core.specs.Opposite.{edit_back, form_back, opposite_of, shift_of}
use Rattle.shift_core.specs.Sound.{IsSoundForm}
use Rattle.shift_core.specs.Spans.{Displaces, PushesOff, pushed_line, span_after, span_after_delete, span_after_insert}
use Rattle.shift_core.specs.Tables.{block_moved, place_moved, place_returned}
use Rattle.shift_core.proofs.Axes.{by_span_returns, cases_by_span, line_inside, span_of-with_span}
use Rattle.shift_core.proofs.CellMoves.{cases_chosen, chosen_first, chosen_second}
use Rattle.shift_core.proofs.LinesReturn.{line_before_move}
use Rattle.shift_core.proofs.SpanLaws.{IsCarried, edit_comes_back, edit_span_inside, move_keeps, opposite_down, opposite_up, still_back, undisplaced_line}
use Rattle.shift_core.proofs.UnbentBlocks.{carried_along, carried_back, carried_contained, straight}

-- an operation is the one of its form
form_of-shift_of : (f : Form) → form_of (shift_of f) ≡ f
form_of-shift_of (Lines sheet Rows (Insert start count)) = refl
form_of-shift_of (Lines sheet Rows (Delete start count)) = refl
form_of-shift_of (Lines sheet Rows (Move start count before)) = refl
form_of-shift_of (Lines sheet Cols (Insert start count)) = refl
form_of-shift_of (Lines sheet Cols (Delete start count)) = refl
form_of-shift_of (Lines sheet Cols (Move start count before)) = refl
form_of-shift_of (Cells source to) = refl
form_of-shift_of (Sheet sheet) = refl

form_given : (f : Option Form) (back : Shift) → option_map shift_of f ≡ Some back → f ≡ Some (form_of back)
form_given None back e = cc
form_given (Some f) back e = ap (λ x. Some x) (sym (form_of-shift_of f) ∙ ap form_of (same_Some _ _ e))

pub form_of_opposite : (s back : Shift) → opposite_of s ≡ Some back → form_back (form_of s) ≡ Some (form_of back)
form_of_opposite s back e = form_given (form_back (form_of s)) back e

-- the opposite is sound
inserted_go : (limit start count : ℕ) → IsSoundInsert limit start count → IsSoundDelete limit start (min count (limit - start))
inserted_go limit start count sound = grind (arith, nat_tests)

deleted_come : (limit start count : ℕ) → IsSoundDelete limit start count → IsSoundInsert limit start count
deleted_come limit start count sound = (sound.0, omega arith)

pub edit_back_sound : (limit : ℕ) (e : Edit) → IsSoundEdit limit e → IsSoundEdit limit (edit_back limit e)
edit_back_sound limit (Insert start count) sound = inserted_go limit start count sound
edit_back_sound limit (Delete start count) sound = deleted_come limit start count sound
edit_back_sound limit (Move start count before) sound =
    elim (cases_lt (start + count) before) [
      | inl d ↦ rw (cond-true (ltb (start + count) before) (Move (before - count) count start) (Move before count (start + count)) (lt-ltb (start + count) before d)) (opposite_down limit start count before sound d)
      | inr u ↦ rw (cond-false (ltb (start + count) before) (Move (before - count) count start) (Move before count (start + count)) (le-ltb (start + count) before u)) (opposite_up limit start count before sound u)
    ]

same_ends : (b c : Block) → b.sheet ≡ c.sheet → b.top ≡ c.top → b.left ≡ c.left → b.bottom ≡ c.bottom → b.right ≡ c.right → b ≡ c
same_ends b c sheets tops lefts bottoms rights = λ i. record { sheet = sheets i; top = tops i; left = lefts i; bottom = bottoms i; right = rights i }

-- a block that is moved back is where it was
pub comes_home : (source : Block) (to : Place) → IsBlockInside source → destination (destination source to) (first_place source) ≡ source
comes_home source to i = same_ends _ source refl (omega arith) (omega arith) (omega arith) (omega arith)

cells_back_sound : (source : Block) (to : Place) → IsSoundForm (Cells source to) → IsSoundForm (Cells (destination source to) (first_place source))
cells_back_sound source to sound =
    let home = comes_home source to sound.0 in
    (sound.1, subst IsBlockInside (sym home) sound.0, λ e. sound.2 (sym (e ∙ home)))

pub back_sound : (f g : Form) → IsSoundForm f → form_back f ≡ Some g → IsSoundForm g
back_sound (Lines sheet axis edit) g sound e = subst IsSoundForm (same_Some _ _ e) (edit_back_sound (limit_of axis) edit sound)
back_sound (Cells source to) g sound e = subst IsSoundForm (same_Some _ _ e) (cells_back_sound source to sound)
back_sound (Sheet sheet) g sound e = cc

-- by it places go as they go back
deleted_alike : (limit start count line : ℕ) → line < limit → line_after_delete start (min count (limit - start)) line ≡ line_after_delete start count line
deleted_alike limit start count line i = grind (arith, nat_tests)

line_back : (limit : ℕ) (e : Edit) (line : ℕ) → line < limit → line_after limit (edit_back limit e) line ≡ line_before limit e line
line_back limit (Insert start count) line i = deleted_alike limit start count line i
line_back limit (Delete start count) line i = refl
line_back limit (Move start count before) line i = refl

abbrev pub moved_back : (f : Form) (p : Place) → Option Form → Type 0
moved_back f p None = ⊤
moved_back f p (Some g) = place_moved g p ≡ place_returned f p

goes_back : (f : Form) (p : Place) → IsSoundForm f → IsInside p → moved_back f p (form_back f)
goes_back (Lines sheet axis edit) p sound i =
    ap (λ r. cond (eqb p.sheet sheet) (option_map (λ line. with_line axis line p) r) (Some p)) (line_back (limit_of axis) edit (line_of axis p) (line_inside axis p i))
goes_back (Cells source to) p sound i =
    ap (λ b. cond (covers (destination source to) p) (Some (carried_place (destination source to) (first_place source) p)) (cond (covers b p) None (Some p))) (comes_home source to sound.0)
goes_back (Sheet sheet) p sound i = tt

pub place_goes_back : (f g : Form) (p : Place) → IsSoundForm f → form_back f ≡ Some g → IsInside p → place_moved g p ≡ place_returned f p
place_goes_back f g p sound e i = subst (moved_back f p) e (goes_back f p sound i)

-- a span that an edit carries, the opposite carries back
insert_carried : (limit start count : ℕ) (s t : Span) → IsSoundInsert limit start count → s.first ≤ s.last → ¬ (limit ≤ pushed_line start count s.last) → span_after_insert limit start count s ≡ Some t
    → t.last - t.first ≡ s.last - s.first → span_after_delete start (min count (limit - start)) t ≡ Some s
insert_carried limit start count s t sound o whole h same = grind (arith, nat_tests)

delete_carried : (limit start count : ℕ) (s t : Span) → 0 < count → s.first ≤ s.last → s.last < limit → span_after_delete start count s ≡ Some t
    → t.last - t.first ≡ s.last - s.first → span_after_insert limit start count t ≡ Some s
delete_carried limit start count s t some o l h same = grind (arith, nat_tests)

delete_whole : (limit start count : ℕ) (s t : Span) → 0 < count → s.first ≤ s.last → s.last < limit → span_after_delete start count s ≡ Some t
    → t.last - t.first ≡ s.last - s.first → limit ≤ pushed_line start count t.last → ⊥
delete_whole limit start count s t some o l h same cut = grind (arith, nat_tests)

displaced-by : (down : Bool) (start count before : ℕ) (s : Span) → Displaces (cond down (Move (before - count) count start) (Move before count (start + count))) s
    → (line : ℕ) × IsWithin s line × (cond down (line_after_move (before - count) count start line) (line_after_move before count (start + count) line) ≢ line)
displaced-by true start count before s h = h
displaced-by false start count before s h = h

pushed-by : (down : Bool) (limit start count before : ℕ) (s : Span) → PushesOff limit (cond down (Move (before - count) count start) (Move before count (start + count))) s → ⊥
pushed-by true limit start count before s h = h
pushed-by false limit start count before s h = h

still_there : (limit start count before : ℕ) (s t : Span) → IsSoundEdit limit (Move start count before) → IsCarried limit (Move start count before) s t → (line : ℕ) → IsWithin s line → line_before_move start count before line ≡ line
still_there limit start count before s t sound c line w = still_back limit start count before line sound (undisplaced_line start count before s c.still line w)

move_undisplaced : (limit start count before : ℕ) (s t : Span) → IsSoundEdit limit (Move start count before) → IsCarried limit (Move start count before) s t → s ≡ t → Displaces (opposite (Move start count before)) t → ⊥
move_undisplaced limit start count before s t sound c same h =
    let w = displaced-by (ltb (start + count) before) start count before t h in
    w.2 (still_there limit start count before s t sound c w.0 (rw same w.1))

stays : (limit start count before : ℕ) (s t : Span) → IsSoundEdit limit (Move start count before) → IsCarried limit (Move start count before) s t → s ≡ t
stays limit start count before s t sound c =
    let still = undisplaced_line start count before s c.still in
    same_Some _ _ (sym (move_keeps limit start count before s sound c.ordered (still s.first (omega arith, c.ordered)) (still s.last (c.ordered, omega arith))) ∙ c.moves)

pub edit_carries_back : (limit : ℕ) (e : Edit) (s t : Span) → IsSoundEdit limit e → IsCarried limit e s t → IsCarried limit (edit_back limit e) t s
edit_carries_back limit (Insert start count) s t sound c =
    let on = edit_span_inside limit (Insert start count) s t sound c.ordered c.inside c.moves in
    record {
      moves = insert_carried limit start count s t sound c.ordered c.whole c.moves c.size;
      ordered = on.0;
      inside = on.1;
      size = sym c.size;
      still = λ h. h;
      whole = λ h. h;
    }
edit_carries_back limit (Delete start count) s t sound c =
    let on = edit_span_inside limit (Delete start count) s t sound c.ordered c.inside c.moves in
    record {
      moves = delete_carried limit start count s t sound.0 c.ordered c.inside c.moves c.size;
      ordered = on.0;
      inside = on.1;
      size = sym c.size;
      still = λ h. h;
      whole = delete_whole limit start count s t sound.0 c.ordered c.inside c.moves c.size;
    }
edit_carries_back limit (Move start count before) s t sound c =
    let on = edit_span_inside limit (Move start count before) s t sound c.ordered c.inside c.moves in
    record {
      moves = edit_comes_back limit (Move start count before) s t sound c;
      ordered = on.0;
      inside = on.1;
      size = sym c.size;
      still = move_undisplaced limit start count before s t sound c (stays limit start count before s t sound c);
      whole = pushed-by (ltb (start + count) before) limit start count before t;
    }

-- so are blocks that are neither bent nor cut
not_bent : (f : Form) (b after : Block) → block_moved f b ≡ Some after → ¬ (HaveOtherSizes b after ⊎ MeetsDisplaced f b) → ¬ BendsBlock f b
not_bent f b after h straight bent =
    let P : Option Block → Type 0 = λ o. MatchOption o ⊤ (λ x. HaveOtherSizes b x ⊎ MeetsDisplaced f b) in straight (subst P h bent)

same_sizes : (b after : Block) → ¬ HaveOtherSizes b after → ¬ HaveOtherSizes after b
same_sizes b after same other = elim other [ inl n ↦ same (inl (λ e. n (sym e))) | inr n ↦ same (inr (λ e. n (sym e))) ]

-- what goes by the opposite: the block from before, neither bent nor cut
abbrev pub GoesBack : Form → Block → Block → Type 0
GoesBack g b after = (block_moved g after ≡ Some b) × (¬ BendsBlock g after) × (¬ CutsBlock g after)

lines_go_back : (sheet : ℕ) (axis : Axis) (edit : Edit) (b after : Block) → IsSoundEdit (limit_of axis) edit → IsBlockInside b → ¬ BendsBlock (Lines sheet axis edit) b → ¬ CutsBlock (Lines sheet axis edit) b
    → block_moved (Lines sheet axis edit) b ≡ Some after → GoesBack (Lines sheet axis (edit_back (limit_of axis) edit)) b after
lines_go_back sheet axis edit b after sound i still whole h =
    let back = edit_back (limit_of axis) edit in
    let carried : b.sheet ≡ sheet → span_after (limit_of axis) edit (span_of axis b) ≡ Some (span_of axis after) → IsCarried (limit_of axis) back (span_of axis after) (span_of axis b) =
    λ on e. edit_carries_back (limit_of axis) edit (span_of axis b) (span_of axis after) sound (carried_along sheet axis edit b after i still whole h on e) in
    let moved : block_moved (Lines sheet axis back) after ≡ Some b = by_span_returns sheet axis (span_after (limit_of axis) edit) (span_after (limit_of axis) back) b after (λ on e. (carried on e).moves) h in
    let sizes = same_sizes b after (λ other. straight (Lines sheet axis edit) b after still h (inl other)) in
    elim (cases_by_span sheet axis (span_after (limit_of axis) edit) b after h) [
      | inl (t, w) ↦
          let c = carried w.0 (w.1 ∙ ap (λ s. Some s) (sym (ap (span_of axis) w.2 ∙ span_of-with_span axis t b))) in (
            moved,
            not_bent (Lines sheet axis back) after b moved (λ other. elim other [ inl n ↦ sizes n | inr meets ↦ c.still meets.1 ]),
            λ cut. c.whole cut.1,
          )
      | inr w ↦
          let off : ¬ (after.sheet ≡ sheet) = λ on. w.0 (ap (λ x. x.sheet) (sym w.1) ∙ on) in (
            moved,
            not_bent (Lines sheet axis back) after b moved (λ other. elim other [ inl n ↦ sizes n | inr meets ↦ off meets.0 ]),
            λ cut. off cut.0,
          )
    ]

cells_go_back : (source : Block) (to : Place) (b after : Block) → IsBlockInside source → ¬ BendsBlock (Cells source to) b → block_moved (Cells source to) b ≡ Some after
    → GoesBack (Cells (destination source to) (first_place source)) b after
cells_go_back source to b after i still h =
    let there = destination source to in
    let home = comes_home source to i in
    let moved : block_moved (Cells there (first_place source)) after ≡ Some b =
    elim (cases_chosen (contains source b) (contains there b) (carried_block source to b) b after h) [
      | inl w ↦
          ap (block_moved (Cells there (first_place source))) w.1
          ∙ chosen_first (contains there (carried_block source to b)) (contains (destination there (first_place source)) (carried_block source to b)) _ _ (carried_contained source to b w.0)
          ∙ ap (λ x. Some x) (carried_back source to b w.0)
      | inr w ↦ ap (block_moved (Cells there (first_place source))) w.2 ∙ chosen_second (contains there b) (contains (destination there (first_place source)) b) _ b w.1 (subst (λ x. contains x b ≡ false) (sym home) w.0)
    ] in
    let sizes = same_sizes b after (λ other. straight (Cells source to) b after still h (inl other)) in
    (moved, not_bent (Cells there (first_place source)) after b moved (λ other. elim other [ inl n ↦ sizes n | inr meets ↦ absurd meets ]), λ cut. absurd cut)

abbrev pub block_back : Block → Block → Option Form → Type 0
block_back b after None = ⊤
block_back b after (Some g) = GoesBack g b after

comes_back : (f : Form) (b after : Block) → IsSoundForm f → IsBlockInside b → ¬ BendsBlock f b → ¬ CutsBlock f b → block_moved f b ≡ Some after → block_back b after (form_back f)
comes_back (Lines sheet axis edit) b after sound i still whole h = lines_go_back sheet axis edit b after sound i still whole h
comes_back (Cells source to) b after sound i still whole h = cells_go_back source to b after sound.0 still h
comes_back (Sheet sheet) b after sound i still whole h = tt

pub block_goes_back : (f g : Form) (b after : Block) → IsSoundForm f → form_back f ≡ Some g → IsBlockInside b → ¬ BendsBlock f b → ¬ CutsBlock f b → block_moved f b ≡ Some after → GoesBack g b after
block_goes_back f g b after sound e i still whole h = subst (block_back b after) e (comes_back f b after sound i still whole h)
