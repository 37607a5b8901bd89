-- What a draft stands for, as it goes on from a grid. Serves the calls of drafts.
use Rattle.std.proofs.Common.{◌≡◌, ◌∙◌, sym, ap, refl, subst, ◌⊎◌, inl, inr, ℕ, ◌<◌, Bool, true, false, cond, ◌||◌, ◌&&◌, List, [], ◌∷◌, ◌++◌, Option, Some, None, option_and_then, IsSome, is_some, is_none, filter_map, unwrap_or}
use Rattle.std.specs.Borrow.{Bor}
use Rattle.std.specs.BTreeMap.{BTreeMap, is_at}
use Rattle.std.specs.FinMap as fin
use Rattle.std.specs.List.{cons_option}
use Rattle.std.proofs.lemmas.Option.{same_Some}
use Rattle.std.specs.FinMap.{entries, get, get-entries}
use Rattle.std.specs.Ordering.{eq_by_cmp}
use Rattle.std.proofs.lemmas.Bool.{both_ways}
use Rattle.cell_addr.specs.Axis.{limit_of}
use Rattle.cell_addr.specs.Order.{place_cmp}
use Rattle.cell_addr.specs.Place.{covers}
use Rattle.cell_addr.specs.declared.axis.Axis.{Axis}
use Rattle.cell_addr.specs.declared.place.Block.{Block}
use Rattle.cell_addr.specs.declared.place.Place.{Place}
use Rattle.cell_addr.proofs.Places.{place_cmp-IsTotalOrder, place_cmp-IsAntisymmetric}
use Rattle.shift_core.specs.Lines.{IsSoundEdit}
use Rattle.shift_core.specs.Maps.{AreInside, PlaceMap}
use Rattle.shift_core.specs.declared.edit.Edit.{Edit}
use Rattle.shift_core.specs.declared.form.Form.TheVariants.{Lines}
use Rattle.shift_core.proofs.CarriedEntries.{eq_by_cmp-decides}
use Rattle.shift_core.proofs.MovedMaps.{find_place}
use Rattle.stable_lines.specs.Sheets.{AreUnchanged}
use Rattle.stable_lines.specs.declared.sheets.SheetLines.{SheetLines}
use Rattle.grid_store.specs.Draft.{AreGivenOut, IsDraftOf, drafted, is_one_of, with_change, with_changes}
use Rattle.grid_store.specs.Grid.{KeepsLines, cells_of, seen_items, within}
use Rattle.grid_store.specs.Keys.{key_at, key_cmp, place_at}
use Rattle.grid_store.specs.declared.draft.Draft.{Draft}
use Rattle.grid_store.specs.declared.grid.Grid.{Grid}
use Rattle.grid_store.specs.declared.key.CellKey.{CellKey}
use Rattle.grid_store.specs.declared.way.Going.{Going}
use Rattle.grid_store.specs.internal.Drafting.{AreMade, AreTakenOut, IsLaidOver, KeepsBase, is_gone}
use Rattle.grid_store.specs.internal.Lists.{or_else}
use Rattle.grid_store.specs.internal.Listing.{look_in}
use Rattle.grid_store.specs.internal.Renewal.{IsRenewalOver}
use Rattle.grid_store.specs.internal.Ways.{carried_map, form_goes, line_goes, turned}
use Rattle.grid_store.proofs.ChangedMaps.{changed_inside, changes-carried, get-changed, one-change}
use Rattle.grid_store.proofs.Exchanges.{turned-test}
use Rattle.grid_store.proofs.KeyOrder.{key_cmp-IsTotalOrder, key_cmp-IsAntisymmetric}
use Rattle.grid_store.proofs.KeyPlaces.{key_of_place, place_of_key}
use Rattle.grid_store.proofs.PlaceMaps.{get-kept, same_places}
use Rattle.grid_store.proofs.RenewedCells.{renewed_cells, seen_inside, stood_on}
use Rattle.grid_store.proofs.Renewals.{given_still}
use Rattle.grid_store.proofs.Unchanged.{place_unchanged, seen_unchanged}
use Rattle.grid_store.proofs.Views.{get-seen, get-seen_at, kept, seen}

-- a change of cells alone leaves what the draft goes on from
pub draft_kept : {X : Type 0} (g : Grid X) (old new : Draft X) → KeepsBase old new → IsDraftOf g old → IsDraftOf g new
draft_kept g old new base of k some =
    let w = of k some in (
      subst (λ (r : SheetLines). AreGivenOut r new.changes.cols k) (sym base.0) (subst (λ (c : SheetLines). AreGivenOut old.changes.rows c k) (sym base.1) w.0),
      elim w.1 [
        | inl stands ↦ inl (subst (λ (r : SheetLines). IsSome (place_at r new.changes.cols k)) (sym base.0) (subst (λ (c : SheetLines). IsSome (place_at old.changes.rows c k)) (sym base.1) stands))
        | inr noted ↦ inr (ap (λ l. is_one_of l.items k) base.2 ∙ noted)
      ],
    )

pub drafted_inside : {X : Type 0} (g : Grid X) (d : Draft X) → AreInside (drafted g d)
drafted_inside g d =
    let c = d.changes in
    changed_inside (cells_of c) (seen c.rows c.cols g.cells.entries) (seen_inside c.rows c.cols c.cells.entries c.rows_limit c.cols_limit) (seen_inside c.rows c.cols g.cells.entries c.rows_limit c.cols_limit)

-- one change more
pub change_made : {X : Type 0} (g : Grid X) (old new : Grid (Option X)) (at : Place) (change : Option X) → cells_of new ≡ fin.insert (cells_of old) at change → KeepsLines old new
    → with_changes (entries (cells_of new)) (seen new.rows new.cols g.cells.entries) ≡ with_change at change (with_changes (entries (cells_of old)) (seen old.rows old.cols g.cells.entries))
change_made g old new at change made lines =
    (λ i. with_changes (entries (cells_of new)) (seen (lines.0 i) (lines.1 i) g.cells.entries)) ∙ one-change (cells_of old) (cells_of new) (seen old.rows old.cols g.cells.entries) at change made

given_unchanged : (rows cols rows' cols' : SheetLines) → AreUnchanged rows rows' → AreUnchanged cols cols' → (k : CellKey) → AreGivenOut rows cols k → AreGivenOut rows' cols' k
given_unchanged rows cols rows' cols' r c k given = (subst (λ n. k.row < n) (sym (r k.sheet).1) given.0, subst (λ n. k.col < n) (sym (c k.sheet).1) given.1)

-- a draft without changes
nothing_kept : {X : Type 0} (r : Option CellKey) → option_and_then (kept {X = X} []) r ≡ None
nothing_kept None = refl
nothing_kept (Some k) = refl

nothing_at : {X : Type 0} (rows cols : SheetLines) (q : Place) → get (seen {X = X} rows cols []) q ≡ None
nothing_at {X = X} rows cols q = get-seen rows cols [] q ∙ nothing_kept {X = X} (key_at rows cols q)

unchanged : {X : Type 0} (rows cols : SheetLines) (m : PlaceMap X) → with_changes (entries (seen {X = Option X} rows cols [])) m ≡ m
unchanged {X = X} rows cols m = same_places _ _ (λ q. get-changed (seen {X = Option X} rows cols []) m q ∙ ap (λ r. unwrap_or r (get m q)) (nothing_at {X = Option X} rows cols q))

pub none_yet : {X : Type 0} (g : Grid X) (rows cols : SheetLines) (c : List (CellKey × Option X)) → AreUnchanged g.rows rows → AreUnchanged g.cols cols → c ≡ []
    → with_changes (entries (seen rows cols c)) (seen rows cols g.cells.entries) ≡ cells_of g
none_yet g rows cols c r l none =
    ap (λ es. with_changes (entries (seen rows cols es)) (seen rows cols g.cells.entries)) none ∙ unchanged rows cols (seen rows cols g.cells.entries) ∙ seen_unchanged g.rows g.cols rows cols r l g.cells.entries

pub stands_yet : {X : Type 0} (g : Grid X) (rows cols : SheetLines) → AreUnchanged g.rows rows → AreUnchanged g.cols cols → (k : CellKey) → IsSome (kept g.cells.entries k) → IsSome (place_at rows cols k)
stands_yet g rows cols r l k some = subst IsSome (sym (place_unchanged g.rows g.cols rows cols r l k)) (g.standing k some)

-- lines of a sheet that are renewed below a draft
module _ {X : Type 0} (way : Going) (sheet : ℕ) (axis : Axis) (edit : Edit) (sound : IsSoundEdit (limit_of axis) edit) (g : Grid X) (old new : Grid (Option X))
    (over : IsRenewalOver axis sheet (line_goes (turned way) (limit_of axis) edit) old.rows old.cols new.rows new.cols) where
  abbrev moves : Place → Option Place
  moves = form_goes way (Lines sheet axis edit)

  along : ((k : CellKey) → IsSome (kept g.cells.entries k) → AreGivenOut old.rows old.cols k) → seen new.rows new.cols g.cells.entries ≡ carried_map moves (seen old.rows old.cols g.cells.entries)
  along given =
      renewed_cells way sheet axis edit sound over.own_rows over.own_cols new.rows new.cols over.renewal over.rows_limit over.cols_limit g.cells.entries
      (λ k some. given_unchanged old.rows old.cols over.own_rows over.own_cols over.rows_kept over.cols_kept k (given k some)) new.rows_limit new.cols_limit
      ∙ ap (carried_map moves) (seen_unchanged old.rows old.cols over.own_rows over.own_cols over.rows_kept over.cols_kept g.cells.entries)

  pub lines_carried : cells_of new ≡ carried_map moves (cells_of old) → ((k : CellKey) → IsSome (kept g.cells.entries k) → AreGivenOut old.rows old.cols k)
      → with_changes (entries (cells_of new)) (seen new.rows new.cols g.cells.entries) ≡ carried_map moves (with_changes (entries (cells_of old)) (seen old.rows old.cols g.cells.entries))
  lines_carried made given =
      (λ i. with_changes (entries (made i)) (along given i))
      ∙ changes-carried way (Lines sheet axis edit) sound (cells_of old) (seen old.rows old.cols g.cells.entries) (seen_inside old.rows old.cols old.cells.entries old.rows_limit old.cols_limit)
      (seen_inside old.rows old.cols g.cells.entries old.rows_limit old.cols_limit)

  -- each key of the grid stands still, or is noted
  stands_or_noted : (lost : List CellKey) (k : CellKey) → ((p : Place) → place_at old.rows old.cols k ≡ Some p → moves p ≡ None → is_one_of lost k ≡ true) → (r : Option Place) → place_at old.rows old.cols k ≡ r → IsSome r
      → IsSome (place_at new.rows new.cols k) ⊎ (is_one_of lost k ≡ true)
  stands_or_noted lost k noted None at some = cc
  stands_or_noted lost k noted (Some p) at some = by (moves p) refl
    where
      own : place_at over.own_rows over.own_cols k ≡ Some p
      own = place_unchanged old.rows old.cols over.own_rows over.own_cols over.rows_kept over.cols_kept k ∙ at

      by : (r : Option Place) → moves p ≡ r → IsSome (place_at new.rows new.cols k) ⊎ (is_one_of lost k ≡ true)
      by None e = inr (noted p at e)
      by (Some q) e = inl (stood_on way sheet axis edit sound over.own_rows over.own_cols new.rows new.cols over.renewal over.rows_limit over.cols_limit g.cells.entries k p own (Some q) e refl)

  pub lines_draft_of : (before lost : List CellKey) (k : CellKey) → AreGivenOut old.rows old.cols k × (IsSome (place_at old.rows old.cols k) ⊎ (is_one_of before k ≡ true))
      → ((p : Place) → place_at old.rows old.cols k ≡ Some p → moves p ≡ None → is_one_of lost k ≡ true) → (is_one_of before k ≡ true → is_one_of lost k ≡ true)
      → AreGivenOut new.rows new.cols k × (IsSome (place_at new.rows new.cols k) ⊎ (is_one_of lost k ≡ true))
  lines_draft_of before lost k of noted still = (
    given_still axis sheet (line_goes (turned way) (limit_of axis) edit) over.own_rows over.own_cols new.rows new.cols over.renewal k
        (given_unchanged old.rows old.cols over.own_rows over.own_cols over.rows_kept over.cols_kept k of.0),
    elim of.1 [
      | inl stands ↦ stands_or_noted lost k noted (place_at old.rows old.cols k) refl stands
      | inr was ↦ inr (still was)
    ],
  )

-- a key among more of them
or_behind : (a b : Bool) → b ≡ true → (a || b) ≡ true
or_behind true b h = refl
or_behind false b h = h

pub one_of-behind : (keys more : List CellKey) (k : CellKey) → is_one_of more k ≡ true → is_one_of (keys ++ more) k ≡ true
one_of-behind [] more k h = h
one_of-behind (l ∷ keys) more k h = or_behind (is_at (key_cmp k) l) (is_one_of (keys ++ more) k) (one_of-behind keys more k h)

first_one : (r : Option CellKey) (rest : List CellKey) (k : CellKey) → r ≡ Some k → is_one_of (cons_option r rest) k ≡ true
first_one None rest k e = cc
first_one (Some l) rest k e = ap (λ b. b || is_one_of rest k) ((eq_by_cmp-decides key_cmp-IsTotalOrder key_cmp-IsAntisymmetric k l).1 (same_Some k l (sym e)))

later_one : (r : Option CellKey) (rest : List CellKey) (k : CellKey) → is_one_of rest k ≡ true → is_one_of (cons_option r rest) k ≡ true
later_one None rest k h = h
later_one (Some l) rest k h = or_behind (is_at (key_cmp k) l) (is_one_of rest k) h

-- the keys of listed places
module _ {X : Type 0} (rows cols : SheetLines) where
  abbrev pub keys_at : List (Place × Bor X) → List CellKey
  keys_at es = filter_map (λ e. key_at rows cols e.0) es

  one_listed : (p : Place) (k : CellKey) (e : Place × Bor X) (rest : List CellKey) (found : Option X) (b : Bool) → eq_by_cmp place_cmp p e.0 ≡ b → key_at rows cols p ≡ Some k → IsSome (cond b (Some e.1.now) found)
      → (IsSome found → is_one_of rest k ≡ true) → is_one_of (cons_option (key_at rows cols e.0) rest) k ≡ true
  one_listed p k e rest found true here at some more =
      first_one (key_at rows cols e.0) rest k (ap (key_at rows cols) (sym ((eq_by_cmp-decides place_cmp-IsTotalOrder place_cmp-IsAntisymmetric p e.0).0 here)) ∙ at)
  one_listed p k e rest found false other at some more = later_one (key_at rows cols e.0) rest k (more some)

  key_listed : (es : List (Place × Bor X)) (p : Place) (k : CellKey) → key_at rows cols p ≡ Some k → IsSome (find_place p (seen_items es)) → is_one_of (keys_at es) k ≡ true
  key_listed [] p k at some = cc
  key_listed (e ∷ es) p k at some = one_listed p k e (keys_at es) (find_place p (seen_items es)) (eq_by_cmp place_cmp p e.0) refl at some (key_listed es p k at)

  -- the keys of the seen cells of a block are those of the kept cells that stand in it
  pub keys_of_block : (cells : List (CellKey × X)) (area : Block) (es : List (Place × Bor X)) (keys : List CellKey) → keys ≡ keys_at es → seen_items es ≡ entries (within area (seen rows cols cells))
      → (k : CellKey) (p : Place) → IsSome (kept cells k) → place_at rows cols k ≡ Some p → covers area p ≡ true → is_one_of keys k ≡ true
  keys_of_block cells area es keys is listed k p some stands there =
      let m = seen rows cols cells in
      let at = key_of_place rows cols k p stands in
      let seen_there : get (within area m) p ≡ kept cells k = get-kept m (covers area) p ∙ ap (λ b. cond b (get m p) None) there ∙ get-seen_at rows cols cells p k at in
      let found : IsSome (find_place p (seen_items es)) = subst (λ xs. IsSome (find_place p xs)) (sym listed) (subst IsSome (get-entries (within area m) p) (subst IsSome (sym seen_there) some)) in
      subst (λ ks. is_one_of ks k ≡ true) (sym is) (key_listed es p k at found)

-- changes that are laid over what was found, the last one first
find-last-or : {Y : Type 0} (b : Bool) (y : Y) (r s : Option Y) → cond b (Some y) (or_else r s) ≡ or_else (cond b (Some y) r) s
find-last-or true y r s = refl
find-last-or false y r s = refl

find-last : {Y : Type 0} (front : List (Place × Y)) (e : Place × Y) (q : Place) → find_place q (front ++ e ∷ []) ≡ or_else (find_place q front) (cond (eq_by_cmp place_cmp q e.0) (Some e.1) None)
find-last [] e q = refl
find-last (f ∷ front) e q =
    ap (cond (eq_by_cmp place_cmp q f.0) (Some f.1)) (find-last front e q) ∙ find-last-or (eq_by_cmp place_cmp q f.0) f.1 (find_place q front) (cond (eq_by_cmp place_cmp q e.0) (Some e.1) None)

seen-last : {Y : Type 0} (front : List (Place × Bor Y)) (e : Place × Bor Y) → seen_items (front ++ e ∷ []) ≡ seen_items front ++ (e.0, e.1.now) ∷ []
seen-last [] e = refl
seen-last (f ∷ front) e = ap (λ z. (f.0, f.1.now) ∷ z) (seen-last front e)

in_turn : {X : Type 0} (r : Option (Option X)) (b : Bool) (change s : Option X) → unwrap_or r (cond b change s) ≡ unwrap_or (or_else r (cond b (Some change) None)) s
in_turn None true change s = refl
in_turn None false change s = refl
in_turn (Some c) b change s = refl

pub laid_on : {X : Type 0} (front : List (Place × Bor (Option X))) (at : Place) (change : Bor (Option X)) (found new : BTreeMap Place (Bor X)) → IsLaidOver at change.now found new
    → (q : Place) → unwrap_or (find_place q (seen_items front)) (look_in new.entries q) ≡ unwrap_or (find_place q (seen_items (front ++ (at, change) ∷ []))) (look_in found.entries q)
laid_on front at change found new laid q =
    ap (unwrap_or (find_place q (seen_items front))) (laid q ∙ ap (λ b. cond b change.now (look_in found.entries q)) (turned-test at q))
    ∙ in_turn (find_place q (seen_items front)) (eq_by_cmp place_cmp q at) change.now (look_in found.entries q)
    ∙ ap (λ r. unwrap_or r (look_in found.entries q)) (sym (find-last (seen_items front) (at, change.now) q)) ∙ ap (λ es. unwrap_or (find_place q es) (look_in found.entries q)) (sym (seen-last front (at, change)))

within_both : {X : Type 0} (b : Bool) (r : Option (Option X)) (s : Option X) → unwrap_or (cond b r None) (cond b s None) ≡ cond b (unwrap_or r s) None
within_both true r s = refl
within_both false r s = refl

-- the changes of a block laid over its cells
pub laid_found : {X : Type 0} (area : Block) (c : PlaceMap (Option X)) (m : PlaceMap X) (found new : BTreeMap Place (Bor X)) (es : List (Place × Option X)) → es ≡ entries (within area c)
    → ((q : Place) → look_in found.entries q ≡ cond (covers area q) (get m q) None) → ((q : Place) → look_in new.entries q ≡ unwrap_or (find_place q es) (look_in found.entries q))
    → (q : Place) → look_in new.entries q ≡ cond (covers area q) (get (with_changes (entries c) m) q) None
laid_found area c m found new es is there laid q =
    laid q ∙ (λ i. unwrap_or (find_place q (is i)) (there q i))
    ∙ ap (λ r. unwrap_or r (cond (covers area q) (get m q) None)) (sym (get-entries (within area c) q) ∙ get-kept c (covers area) q)
    ∙ within_both (covers area q) (get c q) (get m q) ∙ ap (λ r. cond (covers area q) r None) (sym (get-changed c m q))

-- the changes in place
module _ {X : Type 0} (g : Grid X) (d : Draft X) (made left : BTreeMap CellKey X) (all_made : AreMade d.changes.cells g.cells made) (all_left : AreTakenOut (is_gone d.changes.rows d.changes.cols d.lost.items) made left) where
  abbrev rows : SheetLines
  rows = d.changes.rows

  abbrev cols : SheetLines
  cols = d.changes.cols

  abbrev changes : List (CellKey × Option X)
  changes = d.changes.cells.entries

  and_none : (b : Bool) → (b && false) ≡ false
  and_none true = refl
  and_none false = refl

  shown_at : (q : Place) (r : Option CellKey) → key_at rows cols q ≡ r → option_and_then (kept left.entries) r ≡ unwrap_or (get (seen rows cols changes) q) (get (seen rows cols g.cells.entries) q)
  shown_at q None e =
      sym (λ i. unwrap_or ((get-seen rows cols changes q ∙ ap (option_and_then (kept changes)) e) i) ((get-seen rows cols g.cells.entries q ∙ ap (option_and_then (kept g.cells.entries)) e) i))
  shown_at q (Some k) e =
      all_left k ∙ ap (λ r. cond (is_one_of d.lost.items k && is_none r) None (kept made.entries k)) (place_of_key rows cols q k e) ∙ ap (λ b. cond b None (kept made.entries k)) (and_none (is_one_of d.lost.items k)) ∙ all_made k
      ∙ sym (λ i. unwrap_or (get-seen_at rows cols changes q k e i) (get-seen_at rows cols g.cells.entries q k e i))

  finished_cells : seen rows cols left.entries ≡ drafted g d
  finished_cells = same_places _ _ (λ q. get-seen rows cols left.entries q ∙ shown_at q (key_at rows cols q) refl ∙ sym (get-changed (seen rows cols changes) (seen rows cols g.cells.entries) q))

  never_left : (k : CellKey) → place_at rows cols k ≡ None → IsDraftOf g d → (b : Bool) → is_one_of d.lost.items k ≡ b → (r : Option (Option X)) → kept changes k ≡ r → IsSome (cond (b && true) None (unwrap_or r (kept g.cells.entries k))) → ⊥
  never_left k none of true noted r e some = cc
  never_left k none of false noted (Some change) e some = both_ways _ (ap is_some none) (d.changes.standing k (ap is_some e))
  never_left k none of false noted None e some = elim (of k some).1 [
    | inl stands ↦ both_ways _ (ap is_some none) stands
    | inr lost ↦ both_ways _ noted lost
  ]

  standing_by : (k : CellKey) → IsDraftOf g d → IsSome (kept left.entries k) → (r : Option Place) → place_at rows cols k ≡ r → IsSome r
  standing_by k of some (Some p) e = refl
  standing_by k of some None e =
      absurd (never_left k e of (is_one_of d.lost.items k) refl (kept changes k) refl
      (subst IsSome (all_left k ∙ (λ i. cond (is_one_of d.lost.items k && is_none (e i)) None (all_made k i))) some))

  finished_standing : IsDraftOf g d → (k : CellKey) → IsSome (kept left.entries k) → IsSome (place_at rows cols k)
  finished_standing of k some = standing_by k of some (place_at rows cols k) refl

-- the same where the draft is taken apart before
module _ {X : Type 0} (g : Grid X) (d : Draft X) (made left : BTreeMap CellKey X) (changes : BTreeMap CellKey (Option X)) (rows cols : SheetLines) (lost : List CellKey)
    (changes_are : changes ≡ d.changes.cells) (rows_are : rows ≡ d.changes.rows) (cols_are : cols ≡ d.changes.cols) (lost_are : lost ≡ d.lost.items)
    (all_made : AreMade changes g.cells made) (all_left : AreTakenOut (is_gone rows cols lost) made left) where
  made_so : AreMade d.changes.cells g.cells made
  made_so = subst (λ (m : BTreeMap CellKey (Option X)). AreMade m g.cells made) changes_are all_made

  left_so : AreTakenOut (is_gone d.changes.rows d.changes.cols d.lost.items) made left
  left_so =
      subst (λ (r : SheetLines). AreTakenOut (is_gone r d.changes.cols d.lost.items) made left) rows_are
      (subst (λ (s : SheetLines). AreTakenOut (is_gone rows s d.lost.items) made left) cols_are
      (subst (λ ks. AreTakenOut (is_gone rows cols ks) made left) lost_are all_left))

  pub placed_cells : seen rows cols left.entries ≡ drafted g d
  placed_cells = (λ i. seen (rows_are i) (cols_are i) left.entries) ∙ finished_cells g d made left made_so left_so

  pub placed_standing : IsDraftOf g d → (k : CellKey) → IsSome (kept left.entries k) → IsSome (place_at rows cols k)
  placed_standing of k some =
      subst (λ (r : SheetLines). IsSome (place_at r cols k)) (sym rows_are)
      (subst (λ (s : SheetLines). IsSome (place_at d.changes.rows s k)) (sym cols_are) (finished_standing g d made left made_so left_so of k some))
