-- Blocks that filings hold: a new filing holds its block, others stay, and structural operations carry along what they don't
-- bend. Serves the needs of the graph by its filings.
use Rattle.std.proofs.Common.{◌≡◌, ◌∙◌, sym, ap, refl, subst, arith, ℕ, ◌<◌, ◌↔◌, ⊎_elim, inl, inr, ◌⊎◌, true, List, length, nat_lt, Option, Some, None, IsTrue}
use Rattle.std.proofs.lemmas.Bool.{and_from, and_parts, false≢true, le-leb, leb-true, lt-ltb, ltb-true, or_cases, or_left, or_right}
use Rattle.std.proofs.lemmas.Option.{same_Some}
use Rattle.cell_addr.specs.Place.{IsBlockInside, covers}
use Rattle.cell_addr.specs.declared.axis.Axis.{Axis}
use Rattle.cell_addr.specs.declared.axis.Axis.TheVariants.{Cols, Rows}
use Rattle.cell_addr.specs.declared.place.Block.{Block}
use Rattle.cell_addr.specs.declared.place.Place.{Place}
use Rattle.cell_addr.specs.declared.whole.Whole as whole
use Rattle.shift_core.specs.Bent.{BendsBlock, CutsBlock, IsBent, IsCut}
use Rattle.shift_core.specs.Carried.{first_place, last_place}
use Rattle.shift_core.specs.Form.{form_of}
use Rattle.shift_core.specs.Sound.{IsSound, IsSoundForm}
use Rattle.shift_core.specs.Tables.{block_after, block_moved}
use Rattle.shift_core.specs.declared.form.Form.{Form}
use Rattle.shift_core.specs.declared.form.Form.TheVariants.{Cells, Lines, Sheet}
use Rattle.shift_core.specs.declared.shift.Shift.{Shift}
use Rattle.shift_core.proofs.CellMoves.{Covers-from_covers, covers-from_Covers}
use Rattle.place_lines.specs.Moved.{AllStay, AreMoved, IsKnown, IsKnownLine, is_known, is_known_line}
use Rattle.place_lines.specs.Spots.{area_of, spot_of, table_along}
use Rattle.place_lines.specs.declared.lines.PlaceLines.{PlaceLines}
use Rattle.place_lines.specs.declared.spot.LineSpot.{LineSpot}
use Rattle.place_lines.proofs.Carried.{IsCarriedBlock, carried_spots}
use Rattle.place_lines.proofs.Known.{same_number, spot_known, spot_was_there, stays_known}
use Rattle.place_lines.proofs.Places.{one_block, one_place, one_spot, same_area}
use Rattle.touch_index.specs.Handed.{IsHandedOn, fresh_part}
use Rattle.touch_index.proofs.Handing.{handed_on}
use Rattle.dep_graph.specs.Nodes.{covers_node}
use Rattle.dep_graph.specs.declared.files.Files.{Files}
use Rattle.dep_graph.specs.declared.key.Key.{Key}
use Rattle.dep_graph.specs.declared.node.Node.{Node}
use Rattle.dep_graph.specs.declared.node.Node.TheVariants as node
use Rattle.dep_graph.specs.declared.serving.Serving.{Serving}
use Rattle.dep_graph.specs.internal.Files.{AreServing, FilesOn, FindsBy, FindsNode, HasSpot, HoldsBlock, HoldsNode, IsServing, IsSpotOf, finds_filing}
use Rattle.dep_graph.specs.internal.Filings.{filing_of, owner_at, serves_at, since}
use Rattle.dep_graph.specs.internal.Numbers.{IsHeld, found_under, is_range}
use Rattle.dep_graph.specs.internal.Wholes.{HoldsWhole}
use Rattle.dep_graph.proofs.FiledCells.{finds_same, owner_inside, served_inside}
use Rattle.dep_graph.proofs.Wholes.{lines_hold, whole_covers}

-- ---- known lines, as tests

line_passes : (axis : Axis) (lines : PlaceLines) (sheet n : ℕ) → IsKnownLine (table_along axis lines sheet) n → is_known_line (table_along axis lines sheet) n ≡ true
line_passes axis lines sheet n known =
    let next = (table_along axis lines sheet).next in ⊎_elim
    (λ low. or_left (nat_lt n next) _ (lt-ltb n next low))
    (λ high. or_right (nat_lt n next) _ (le-leb _ n high))
    known

line_known : (axis : Axis) (lines : PlaceLines) (sheet n : ℕ) → is_known_line (table_along axis lines sheet) n ≡ true → IsKnownLine (table_along axis lines sheet) n
line_known axis lines sheet n passes =
    let next = (table_along axis lines sheet).next in ⊎_elim
    (λ low. inl (ltb-true n next low))
    (λ high. inr (leb-true _ n high))
    (or_cases (nat_lt n next) _ passes)

pub known_passes : (lines : PlaceLines) (spot : LineSpot) → IsKnown lines spot → is_known lines spot ≡ true
known_passes lines spot known =
    and_from (is_known_line (table_along Rows lines spot.sheet) spot.row) (is_known_line (table_along Cols lines spot.sheet) spot.col)
    (line_passes Rows lines spot.sheet spot.row known.0) (line_passes Cols lines spot.sheet spot.col known.1)

pub passes_known : (lines : PlaceLines) (spot : LineSpot) → is_known lines spot ≡ true → IsKnown lines spot
passes_known lines spot passes =
    let (row, col) = and_parts (is_known_line (table_along Rows lines spot.sheet) spot.row) (is_known_line (table_along Cols lines spot.sheet) spot.col) passes in
    (line_known Rows lines spot.sheet spot.row row, line_known Cols lines spot.sheet spot.col col)

-- what was known before an operation is known after it
known_after : (form : Form) (old new : PlaceLines) (spot : LineSpot) → AreMoved form old new → is_known old spot ≡ true → is_known new spot ≡ true
known_after form old new spot moved passes = known_passes new spot (stays_known form old new spot moved (passes_known old spot passes))

-- ---- filings that hold blocks

-- what holds a range by a test does so by another that passes the same
pub holds_as : (lines : PlaceLines) (old new : LineSpot → Type 0) (a : Node) → ((spot : LineSpot) → old spot ↔ new spot) → HoldsNode lines old a → HoldsNode lines new a
holds_as lines old new (node.Cell p) same holds = absurd holds
holds_as lines old new (node.Name scope word) same holds = absurd holds
holds_as lines old new (node.Range b) same holds = record {
  exact = λ p. (λ found. (holds.exact p).0 ((same (spot_of lines p)).1 found), λ covered. (same (spot_of lines p)).0 ((holds.exact p).1 covered));
  known = λ spot found. holds.known spot ((same spot).1 found);
}
holds_as lines old new (node.Whole w) same holds = record {
  sheet = λ spot found. holds.sheet spot ((same spot).1 found);
  exact = λ spot position sheet is. (
    λ found. (holds.exact spot position sheet is).0 ((same spot).1 found),
    λ within. (same spot).0 ((holds.exact spot position sheet is).1 within),
  );
  known = λ spot found. holds.known spot ((same spot).1 found);
}

one_range : (b c : Block) → node.Range b ≡ node.Range c → b ≡ c
one_range b c e = cc

range_whole : (b : Block) (w : whole.Whole) → node.Range b ≡ node.Whole w → ⊥
range_whole b w e = cc

same_whole : (v w : whole.Whole) → node.Whole v ≡ node.Whole w → v ≡ w
same_whole v w e = cc

-- of all places just those of its cells pass the test
pub node_covers : (lines : PlaceLines) (test : LineSpot → Type 0) (a : Node) (p : Place) → HoldsNode lines test a → test (spot_of lines p) ↔ IsTrue (covers_node a (node.Cell p))
node_covers lines test (node.Cell q) p holds = absurd holds
node_covers lines test (node.Name scope word) p holds = absurd holds
node_covers lines test (node.Range b) p holds = holds.exact p
node_covers lines test (node.Whole w) p holds = whole_covers lines test w p holds

-- a number that is held is that of a range which its cells find
pub held_node : (lines : PlaceLines) (keys : List Key) (files : Files) (n : ℕ) → IsHeld lines keys files n → (a : Node) × (found_under lines keys n ≡ Some a) × HoldsNode lines (FindsNode files n) a
held_node lines keys files n (range, blocks, wholes) = by (found_under lines keys n) refl range
  where
    by : (o : Option Node) → found_under lines keys n ≡ o → is_range o ≡ true → (a : Node) × (found_under lines keys n ≡ Some a) × HoldsNode lines (FindsNode files n) a
    by (Some (node.Range b)) found h = (node.Range b, found, blocks b found)
    by (Some (node.Whole w)) found h = (node.Whole w, found, wholes w found)
    by (Some (node.Cell p)) found h = absurd (false≢true h)
    by (Some (node.Name scope word)) found h = absurd (false≢true h)
    by None found h = absurd (false≢true h)

-- and the other way round
pub node_held : (lines : PlaceLines) (keys : List Key) (files : Files) (n : ℕ) (a : Node) → found_under lines keys n ≡ Some a → HoldsNode lines (FindsNode files n) a → IsHeld lines keys files n
node_held lines keys files n (node.Cell p) found holds = absurd holds
node_held lines keys files n (node.Name scope word) found holds = absurd holds
node_held lines keys files n (node.Range b) found holds = (
  ap is_range found,
  λ c at. subst (HoldsBlock lines (FindsNode files n)) (one_range b c (same_Some (node.Range b) (node.Range c) (sym found ∙ at))) holds,
  λ w at. absurd (range_whole b w (same_Some (node.Range b) (node.Whole w) (sym found ∙ at))),
)
node_held lines keys files n (node.Whole w) found holds = (
  ap is_range found,
  λ b at. absurd (range_whole b w (sym (same_Some (node.Whole w) (node.Range b) (sym found ∙ at)))),
  λ v at. subst (HoldsWhole lines (FindsNode files n)) (same_whole w v (same_Some (node.Whole w) (node.Whole v) (sym found ∙ at))) holds,
)

-- what just the spots of a range pass holds it
spots_hold : (lines : PlaceLines) (test : LineSpot → Type 0) (a : Node) → is_range (Some a) ≡ true → ((spot : LineSpot) → test spot ↔ IsSpotOf lines a spot) → HoldsNode lines test a
spots_hold lines test (node.Cell p) range same = absurd (false≢true range)
spots_hold lines test (node.Name scope word) range same = absurd (false≢true range)
spots_hold lines test (node.Range b) range same = record {
  exact = λ p. (
    λ passes. let (q, covered, is) = (same (spot_of lines p)).0 passes in subst (λ r. covers b r ≡ true) (one_place lines q p is) covered,
    λ covered. (same (spot_of lines p)).1 (p, covered, refl),
  );
  known = λ spot passes. let (q, covered, is) = (same spot).0 passes in subst (λ s. is_known lines s ≡ true) is (known_passes lines (spot_of lines q) (spot_known lines q));
}
spots_hold lines test (node.Whole w) range same = lines_hold lines test w same

-- a new filing that just the spots of a range find holds the range
pub held : (lines : PlaceLines) (old files : Files) (n f : ℕ) (a : Node) → is_range (Some a) ≡ true → FilesOn old files → length old.owners.items ≡ f → owner_at files.owners f ≡ Some n
    → ((spot : LineSpot) → IsTrue (finds_filing files spot f) ↔ IsSpotOf lines a spot) → HoldsNode lines (FindsBy files n (since f)) a
held lines old files n f a range on fresh owner finds =
    spots_hold lines (FindsBy files n (since f)) a range (λ spot. (λ found. (finds spot).0 (by spot found), λ is. (f, (owner, omega arith, inl refl), (finds spot).1 is)))
  where
    by : (spot : LineSpot) → FindsBy files n (since f) spot → finds_filing files spot f ≡ true
    by spot (g, (owns, from, which), found) = elim which [
      | inl same ↦ subst (λ h. finds_filing files spot h ≡ true) same found
      | inr serves ↦ let low : g < length old.owners.items = served_inside old g (sym (on.serves g) ∙ serves) in absurd (omega (arith, low, fresh, from))
    ]

-- where filings were added, those of a node are found as they were
kept_finds : (old new : Files) (n : ℕ) (all : Serving) (spot : LineSpot) → FilesOn old new → AreServing old n all → FindsBy old n all spot ↔ FindsBy new n all spot
kept_finds old new n all spot on are = (goes, comes)
  where
    goes : FindsBy old n all spot → FindsBy new n all spot
    goes (f, (owner, from, which), found) =
        let low : f < length old.owners.items = owner_inside old.owners.items f n owner in
        (f, (on.owners f low ∙ owner, from, elim which [ inl same ↦ inl same | inr serves ↦ inr (on.serves f ∙ serves) ]), on.finds f low spot ∙ found)

    inside : (f : ℕ) → (f ≡ all.last) ⊎ (serves_at new.serves f ≡ true) → f < length old.owners.items
    inside f (inl same) = subst (λ g. g < length old.owners.items) (sym same) (owner_inside old.owners.items all.last n are.1.0)
    inside f (inr serves) = served_inside old f (sym (on.serves f) ∙ serves)

    comes : FindsBy new n all spot → FindsBy old n all spot
    comes (f, (owner, from, which), found) =
        let low : f < length old.owners.items = inside f which in
        (f, (sym (on.owners f low) ∙ owner, from, elim which [ inl same ↦ inl same | inr serves ↦ inr (sym (on.serves f) ∙ serves) ]), sym (on.finds f low spot) ∙ found)

pub kept_holds : (lines : PlaceLines) (old new : Files) (n : ℕ) (all : Serving) (a : Node) → FilesOn old new → AreServing old n all → HoldsNode lines (FindsBy old n all) a → HoldsNode lines (FindsBy new n all) a
kept_holds lines old new n all a on are holds = holds_as lines (FindsBy old n all) (FindsBy new n all) a (λ spot. kept_finds old new n all spot on are) holds

-- and they serve it still
pub kept_serving : (old new : Files) (n : ℕ) (all : Serving) → FilesOn old new → AreServing old n all → AreServing new n all
kept_serving old new n all on are = (stays all.first are.0, stays all.last are.1)
  where
    stays : (f : ℕ) → IsServing old n all f → IsServing new n all f
    stays f (owner, from, which) = (on.owners f (owner_inside old.owners.items f n owner) ∙ owner, from, elim which [ inl same ↦ inl same | inr serves ↦ inr (on.serves f ∙ serves) ])

-- those that serve a node at present
pub present_serving : (files : Files) (n f : ℕ) → filing_of files.current n ≡ Some f → AreServing files n (since f)
present_serving files n f at = ((files.owned n f at, omega arith, inl refl), (files.owned n f at, omega arith, inl refl))

-- what serves a node by other filings finds the same
pub finds_alike : (old new : Files) (n : ℕ) (all more : Serving) (spot : LineSpot) → new.index ≡ old.index → new.wholes ≡ old.wholes → ((f : ℕ) → IsServing old n all f ↔ IsServing new n more f) → FindsBy old n all spot ↔ FindsBy new n more spot
finds_alike old new n all more spot index wholes same = (
  λ h. let (f, serves, found) = h in (f, (same f).0 serves, finds_same old new index wholes spot f ∙ found),
  λ h. let (f, serves, found) = h in (f, (same f).1 serves, sym (finds_same old new index wholes spot f) ∙ found),
)

-- ---- structural operations

-- unless cells are moved, what holds a block that is carried along holds the block where it stands then
lines_carried : (form : Form) (old new : PlaceLines) (test : LineSpot → Type 0) (b after : Block) → IsCarriedBlock form b after → AreMoved form old new → HoldsBlock old test b → HoldsBlock new test after
lines_carried form old new test b after carried moved holds = record {
  exact = λ q. (covered q, found q);
  known = λ spot found. known_after form old new spot moved (holds.known spot found);
}
  where
    covered : (q : Place) → test (spot_of new q) → covers after q ≡ true
    covered q found =
        let (p, is, inside, narrow) = spot_was_there form old new q moved (passes_known old (spot_of new q) (holds.known (spot_of new q) found)) in
        let here : covers b p ≡ true = (holds.exact p).0 (subst test (sym is) found) in
        covers-from_Covers after q ((carried_spots form old new b after q carried moved).1 (p, Covers-from_covers b p here, is))

    found : (q : Place) → covers after q ≡ true → test (spot_of new q)
    found q here =
        let (p, was, is) = (carried_spots form old new b after q carried moved).0 (Covers-from_covers after q here) in
        subst test is ((holds.exact p).1 (covers-from_Covers b p was))

-- where all lines stay, each place keeps its spot
all_spots_stay : (old new : PlaceLines) (p : Place) → ((axis : Axis) → AllStay axis old new) → spot_of old p ≡ spot_of new p
all_spots_stay old new p stay =
    one_spot Rows old new p p refl
    (same_number (table_along Rows old p.sheet) (table_along Rows new p.sheet) p.row (stay Rows p.sheet))
    (same_number (table_along Cols old p.sheet) (table_along Cols new p.sheet) p.col (stay Cols p.sheet))

-- a block that keeps its area where all lines stay is where it was
stays_there : (old new : PlaceLines) (b after : Block) → ((axis : Axis) → AllStay axis old new) → area_of old b ≡ area_of new after → b ≡ after
stays_there old new b after stay same =
    let here : area_of old b ≡ area_of new b
    = same_area (area_of old b) (area_of new b) (all_spots_stay old new (first_place b) stay) (all_spots_stay old new (last_place b) stay) in
    one_block new b after (sym here ∙ same)

cells_carried : (source : Block) (to : Place) (old new : PlaceLines) (test : LineSpot → Type 0) (b after : Block) → AreMoved (Cells source to) old new → area_of old b ≡ area_of new after → HoldsBlock old test b → HoldsBlock new test after
cells_carried source to old new test b after moved same holds = record {
  exact = λ q. (
    λ found. subst (λ c. covers c q ≡ true) (stays_there old new b after moved same) ((holds.exact q).0 (subst test (sym (all_spots_stay old new q moved)) found)),
    λ covered. subst test (all_spots_stay old new q moved) ((holds.exact q).1 (subst (λ c. covers c q ≡ true) (sym (stays_there old new b after moved same)) covered)),
  );
  known = λ spot found. known_after (Cells source to) old new spot moved (holds.known spot found);
}

by_form : (form : Form) (old new : PlaceLines) (test : LineSpot → Type 0) (b after : Block) → IsSoundForm form → AreMoved form old new → IsBlockInside b → ¬ BendsBlock form b → ¬ CutsBlock form b
    → block_moved form b ≡ Some after → area_of old b ≡ area_of new after → HoldsBlock old test b → HoldsBlock new test after
by_form (Lines sheet axis edit) old new test b after sound moved inside still whole moves same holds =
    lines_carried (Lines sheet axis edit) old new test b after (record { sound = sound; none = tt; inside = inside; still = still; whole = whole; moves = moves }) moved holds
by_form (Cells source to) old new test b after sound moved inside still whole moves same holds =
    cells_carried source to old new test b after moved same holds
by_form (Sheet sheet) old new test b after sound moved inside still whole moves same holds =
    lines_carried (Sheet sheet) old new test b after (record { sound = sound; none = tt; inside = inside; still = still; whole = whole; moves = moves }) moved holds

-- the filing of a block that an operation doesn't bend holds the block where it stands then, if it keeps its area
pub carried : (s : Shift) (old new : PlaceLines) (test : LineSpot → Type 0) (b after : Block) → IsSound s → AreMoved (form_of s) old new → IsBlockInside b → ¬ IsBent s b → ¬ IsCut s b
    → block_after s b ≡ Some after → area_of old b ≡ area_of new after → HoldsBlock old test b → HoldsBlock new test after
carried s old new test b after sound moved inside still whole moves same holds =
    by_form (form_of s) old new test b after sound moved inside still whole moves same holds

-- what holds a block that is handed on holds what it becomes, with the lines that come in
pub served : (form : Form) (old new : PlaceLines) (before test : LineSpot → Type 0) (b after : Block) → IsHandedOn form old new b after
    → ((spot : LineSpot) → test spot → before spot ⊎ ((part : Block) × (fresh_part form after ≡ Some part) × HasSpot new part spot))
    → ((spot : LineSpot) → before spot → test spot)
    → ((part : Block) (spot : LineSpot) → fresh_part form after ≡ Some part → HasSpot new part spot → test spot)
    → HoldsBlock old before b → HoldsBlock new test after
served form old new before test b after on only grows added holds = record {
  exact = λ q. (λ passes. covered q (only (spot_of new q) passes), found q);
  known = λ spot passes. by spot (only spot passes);
}
  where
    by : (spot : LineSpot) → before spot ⊎ ((part : Block) × (fresh_part form after ≡ Some part) × HasSpot new part spot) → is_known new spot ≡ true
    by spot (inl was) = known_after form old new spot on.moved (holds.known spot was)
    by spot (inr (part, is_part, (q, c, is))) = subst (λ s. is_known new s ≡ true) is (known_passes new (spot_of new q) (spot_known new q))

    covered : (q : Place) → before (spot_of new q) ⊎ ((part : Block) × (fresh_part form after ≡ Some part) × HasSpot new part (spot_of new q)) → covers after q ≡ true
    covered q (inl was) =
        let (p, is, inside, narrow) = spot_was_there form old new q on.moved (passes_known old (spot_of new q) (holds.known (spot_of new q) was)) in
        let here : covers b p ≡ true = (holds.exact p).0 (subst before (sym is) was) in
        covers-from_Covers after q ((handed_on form old new b after q on).1 (inl (p, Covers-from_covers b p here, is)))
    covered q (inr (part, is_part, (r, c, is))) =
        covers-from_Covers after q ((handed_on form old new b after q on).1 (inr (part, is_part, Covers-from_covers part q (subst (λ x. covers part x ≡ true) (one_place new r q is) c))))

    found : (q : Place) → covers after q ≡ true → test (spot_of new q)
    found q here = elim ((handed_on form old new b after q on).0 (Covers-from_covers after q here)) [
      | inl (p, was, is) ↦ grows (spot_of new q) (subst before is ((holds.exact p).1 (covers-from_Covers b p was)))
      | inr (part, is_part, c) ↦ added part (spot_of new q) is_part (q, covers-from_Covers part q c, refl)
    ]
