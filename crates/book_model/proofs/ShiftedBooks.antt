-- The workbook after a structural operation is sound where the one before it is. Serves the laws of sessions.
use Rattle.std.proofs.Common.{◌≡◌, ◌≢◌, ◌∙◌, sym, ap, subst, refl, arith, inl, inr, ℕ, ◌≤◌, ◌<◌, ◌==◌, Bool, true, false, cond, not, List, [], ◌∷◌, map, Option, Some, None, option_map, IsSome}
use Rattle.std.specs.Prelude.{⊤, option_and_then}
use Rattle.std.specs.List.{All, filter_map}
use Rattle.std.proofs.lemmas.Bool.{eq-eqb}
use Rattle.std.proofs.lemmas.Option.{same_Some}
use Rattle.std.proofs.lemmas.List.Elements.{All-filter}
use Rattle.std.specs.FinMap as fin
use Rattle.std.specs.FinMap.{find, get-from_entries, get-entries, len-entries}
use Rattle.std.specs.Ordering.{eq_by_cmp}
use Rattle.cell_addr.specs.Order.{place_cmp}
use Rattle.cell_addr.specs.Place.{IsInside}
use Rattle.cell_addr.specs.declared.place.Place.{Place}
use Rattle.cell_addr.proofs.Places.{place_cmp-IsTotalOrder}
use Rattle.book_values.specs.Book.{Book as Contents, Content, number, truth, text, formula, unreadable}
use Rattle.cell_addr.specs.Sheets.{AreSheets}
use Rattle.shift_core.proofs.MovedMaps.{get-moved, moved_inside}
use Rattle.shift_core.proofs.PlaceLaws.{place_returned_goes}
use Rattle.tree_rewrite.proofs.Levels.{rewritten-proper}
use Rattle.tree_rewrite.proofs.OnSheets.{place-leads, rewritten-sheet}
use Rattle.tree_rewrite.specs.Sheets.{LeadsOnForm}
use Rattle.shift_core.specs.Form.{form_of}
use Rattle.shift_core.specs.Maps.{AreInside, entry_after, moved_map}
use Rattle.shift_core.specs.Sound.{IsSound as IsSoundShift}
use Rattle.shift_core.specs.Tables.{place_after, place_before}
use Rattle.shift_core.specs.declared.form.Form.{Form}
use Rattle.shift_core.specs.declared.form.Form.TheVariants as form
use Rattle.shift_core.specs.declared.shift.Shift.{Shift}
use Rattle.formula_tree.specs.Term.{Term}
use Rattle.formula_tree.specs.declared.reference.Corner.{Corner}
use Rattle.book_values.specs.Names.{Key}
use Rattle.book_model.specs.Workbook.{Workbook, has_scope, has_sheet}
use Rattle.book_model.specs.Changes.{rewritten_content, rewritten_entry, rewritten_contents, sheets_left, shifted, stays}
use Rattle.book_model.specs.Sound.{IsSoundBook, IsContentOf, IsCellOf, IsNameOf}
use Rattle.book_model.proofs.Counts.{len-from_entries, length-filter_map, length-map}
use Rattle.book_model.proofs.KnownSheets.{has_id}
use Rattle.book_model.proofs.NameMaps.{name-came}
use Rattle.book_model.proofs.SheetLists.{has-left, sheets-left}

find-rewritten : (s : Shift) (p : Place) (es : List (Place × Content)) → find place_cmp p (map (rewritten_entry s) es) ≡ option_map (rewritten_content s) (find place_cmp p es)
find-rewritten s p [] = refl
find-rewritten s p (e ∷ es) = go (eq_by_cmp place_cmp p e.0) (find-rewritten s p es)
  where
    go : (b : Bool) → find place_cmp p (map (rewritten_entry s) es) ≡ option_map (rewritten_content s) (find place_cmp p es)
        → cond b (Some (rewritten_content s e.1)) (find place_cmp p (map (rewritten_entry s) es)) ≡ option_map (rewritten_content s) (cond b (Some e.1) (find place_cmp p es))
    go true h = refl
    go false h = h

-- what stands at a place after all formulas followed an operation
pub get-rewritten : (s : Shift) (m : Contents) (p : Place) → fin.get (rewritten_contents s m) p ≡ option_map (rewritten_content s) (fin.get m p)
get-rewritten s m p =
    get-from_entries place_cmp-IsTotalOrder (map (rewritten_entry s) (fin.entries m)) p
    ∙ find-rewritten s p (fin.entries m)
    ∙ ap (option_map (rewritten_content s)) (sym (get-entries m p))

-- where a content after an operation comes from
pub record Came (s : Shift) (m : Contents) (q : Place) (c : Content) : Type 0 where
  pub place : Place
  pub content : Content
  pub inside : IsInside q
  pub moved : place_after s place ≡ Some q
  pub stood : fin.get m place ≡ Some content
  pub follows : rewritten_content s content ≡ c

mapped-some : (h : Content → Content) (r : Option Content) (c : Content) → option_map h r ≡ Some c → (x : Content) × (r ≡ Some x) × (h x ≡ c)
mapped-some h None c e = cc
mapped-some h (Some x) c e = (x, refl, same_Some _ _ e)

then-some : (m : Contents) (r : Option Place) (x : Content) → option_and_then (fin.get m) r ≡ Some x → (p : Place) × (r ≡ Some p) × (fin.get m p ≡ Some x)
then-some m None x e = cc
then-some m (Some p) x e = (p, refl, e)

pub came : (s : Shift) (m : Contents) (q : Place) (c : Content) → IsSoundShift s → AreInside m → fin.get (rewritten_contents s (moved_map s m)) q ≡ Some c → Came s m q c
came s m q c sound all e =
    let x = mapped-some (rewritten_content s) (fin.get (moved_map s m) q) c (sym (get-rewritten s (moved_map s m) q) ∙ e) in
    let i : IsInside q = moved_inside s m sound all q (subst IsSome (sym x.1) refl) in
    let p = then-some m (place_before s q) x.0 (sym (get-moved s m sound all q i) ∙ x.1) in
    record { place = p.0; content = x.0; inside = i; moved = place_returned_goes (form_of s) p.0 q sound i p.1; stood = p.2; follows = x.2 }

-- what the operation leads to is a sheet of the book
abbrev pub LeadsToKnown : Form → Workbook → Type 0
LeadsToKnown (form.Cells source to) b = has_sheet b to.sheet ≡ true
LeadsToKnown _ b = ⊤

led : (f : Form) (b : Workbook) (before after : ℕ) → LeadsOnForm f before after → LeadsToKnown f b → has_sheet b before ≡ true → has_id after (sheets_left f b.sheets) ≡ true
led (form.Lines sheet axis edit) b before after l k h = ap (λ n. has_id n b.sheets) l ∙ h
led (form.Cells source to) b before after l k h = elim l [ inl e ↦ ap (λ n. has_id n b.sheets) e ∙ h | inr w ↦ ap (λ n. has_id n b.sheets) w.1 ∙ k ]
led (form.Sheet sheet) b before after l k h = has-left sheet after b.sheets (λ e. l.1 (sym l.0 ∙ e)) (ap (λ n. has_id n b.sheets) l.0 ∙ h)

followed : (s : Shift) (b : Workbook) (x : Content) → IsSoundShift s → LeadsToKnown (form_of s) b → IsContentOf b x → IsContentOf (shifted s b) (rewritten_content s x)
followed s b (number m) sound k i = tt
followed s b (truth q) sound k i = tt
followed s b (text w) sound k i = tt
followed s b (unreadable w) sound k i = tt
followed s b (formula t) sound k i = (
  rewritten-proper s t sound i.0,
  λ sheet is. let from = rewritten-sheet s t sheet is in led (form_of s) b from.0 sheet from.2 k (i.1 from.0 from.1),
)

all_inside : (b : Workbook) → ((p : Place) (x : Content) → fin.get b.cells p ≡ Some x → IsCellOf b p x) → AreInside b.cells
all_inside b all p some = go (fin.get b.cells p) refl some
  where
    go : (r : Option Content) → fin.get b.cells p ≡ r → IsSome r → IsInside p
    go None e some = cc
    go (Some x) e some = (all p x e).0

shifted_cell : (s : Shift) (b : Workbook) (q : Place) (c : Content) → IsSoundShift s → LeadsToKnown (form_of s) b
    → ((p : Place) (x : Content) → fin.get b.cells p ≡ Some x → IsCellOf b p x) → fin.get (shifted s b).cells q ≡ Some c → IsCellOf (shifted s b) q c
shifted_cell s b q c sound k all e =
    let from = came s b.cells q c sound (all_inside b all) e in
    let cell = all from.place from.content from.stood in (
      from.inside,
      led (form_of s) b from.place.sheet q.sheet (place-leads (form_of s) from.place q from.moved) k cell.1,
      subst (IsContentOf (shifted s b)) from.follows (followed s b from.content sound k cell.2),
    )

other-sheet : (dropped sheet : ℕ) → not (sheet == dropped) ≡ true → sheet ≢ dropped
other-sheet dropped sheet h e = let t = eq-eqb sheet dropped e in cc

-- the scope of a name that stays is one after the operation
scope-stays : (f : Form) (b : Workbook) (scope : Option ℕ) (word : List ℕ) → stays f (record { scope = scope; word = word }) ≡ true → has_scope b scope ≡ true → has_scope (record b { sheets = sheets_left f b.sheets }) scope ≡ true
scope-stays f b None word stay h = refl
scope-stays (form.Lines sheet axis edit) b (Some id) word stay h = h
scope-stays (form.Cells source to) b (Some id) word stay h = h
scope-stays (form.Sheet dropped) b (Some id) word stay h = has-left dropped id b.sheets (other-sheet dropped id stay) h

shifted_name : (s : Shift) (b : Workbook) (key : Key) (t : Term Corner) → IsSoundShift s → LeadsToKnown (form_of s) b
    → ((k : Key) (u : Term Corner) → fin.get b.names k ≡ Some u → IsNameOf b k u) → fin.get (shifted s b).names key ≡ Some t → IsNameOf (shifted s b) key t
shifted_name s b key t sound k all e =
    let from = name-came s b.names key t e in
    let was = all key from.0 from.2 in
    (scope-stays (form_of s) b key.scope key.word from.1 was.0, subst (λ u. IsContentOf (shifted s b) (formula u)) from.3 (followed s b (formula from.0) sound k was.1))

left-sheets : (f : Form) (sheets : List (ℕ × List ℕ)) → AreSheets sheets → AreSheets (sheets_left f sheets)
left-sheets (form.Lines sheet axis edit) sheets h = h
left-sheets (form.Cells source to) sheets h = h
left-sheets (form.Sheet sheet) sheets h = sheets-left sheet sheets h

left-numbers : (f : Form) (n : ℕ) (sheets : List (ℕ × List ℕ)) → All (λ s. s.0 < n) sheets → All (λ s. s.0 < n) (sheets_left f sheets)
left-numbers (form.Lines sheet axis edit) n sheets h = h
left-numbers (form.Cells source to) n sheets h = h
left-numbers (form.Sheet sheet) n sheets h = All-filter (λ s. not (s.0 == sheet)) (λ s. s.0 < n) sheets h

fewer : (s : Shift) (m : Contents) → fin.len (rewritten_contents s (moved_map s m)) ≤ fin.len m
fewer s m =
    let a = len-from_entries place_cmp-IsTotalOrder (map (rewritten_entry s) (fin.entries (moved_map s m))) in
    let b = length-map (rewritten_entry s) (fin.entries (moved_map s m)) in
    let c = len-entries (moved_map s m) in
    let d = len-from_entries place_cmp-IsTotalOrder (filter_map (entry_after s) (fin.entries m)) in
    let e = length-filter_map (entry_after s) (fin.entries m) in
    let f = len-entries m in
    omega (arith, a, b, c, d, e, f)

-- the workbook after a sound operation
pub shifted_book : (n : ℕ) (b : Workbook) (s : Shift) → IsSoundBook n b → IsSoundShift s → LeadsToKnown (form_of s) b → IsSoundBook n (shifted s b)
shifted_book n b s sound can k =
    let few = sound.count in
    let less = fewer s b.cells in
    record {
      sheets = left-sheets (form_of s) b.sheets sound.sheets;
      numbers = left-numbers (form_of s) n b.sheets sound.numbers;
      cells = λ p c e. shifted_cell s b p c can k sound.cells e;
      count = omega (arith, few, less);
      names = λ key t e. shifted_name s b key t can k sound.names e;
    }
