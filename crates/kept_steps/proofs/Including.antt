-- What a frame before or after changes has is what the changes list on that side, or what the frame on the other side has.
-- Serves the formulas in use: those of the present workbook and those that steps list.
use Rattle.std.proofs.Common.{◌≡◌, ◌∙◌, sym, ap, subst, refl, inl, inr, ℕ, Bool, true, false, cond, ◌||◌, ◌⊎◌, List, [], ◌∷◌, ◌++◌, map, reverse, Option, Some, None}
use Rattle.std.proofs.lemmas.Bool.{eq-eqb}
use Rattle.std.proofs.lemmas.List.{reverse-append}
use Rattle.std.proofs.lemmas.List.Concat.{flat_map-append}
use Rattle.std.proofs.lemmas.List.Folds.{list_any-append}
use Rattle.std.proofs.lemmas.Option.{none-some, same_Some}
use Rattle.std.specs.FinMap as fin
use Rattle.std.specs.FinMap.{find, get-entries, get-from_entries}
use Rattle.std.specs.List.{AllByRecursion, cons_option, filter_map, flat_map}
use Rattle.std.specs.Option.{option_map, option_to_list}
use Rattle.std.specs.Ordering.{eq_by_cmp}
use Rattle.std.specs.Prelude.{nat_eq}
use Rattle.cell_addr.proofs.Places.{place_cmp-IsTotalOrder}
use Rattle.cell_addr.specs.Order.{place_cmp}
use Rattle.cell_addr.specs.declared.place.Place.{Place}
use Rattle.grid_store.proofs.Exchanges.{get-without_places}
use Rattle.grid_store.proofs.Fills.{first_of_two, get-with}
use Rattle.grid_store.specs.Grid.{items_of, with_entries, without_places}
use Rattle.grid_store.specs.internal.Exchange.{is_among}
use Rattle.grid_store.specs.declared.cell.Cell.{Cell}
use Rattle.grid_store.specs.declared.cell.Cell.TheVariants as cell
use Rattle.name_table.proofs.DraftedNames.{get-with_holder}
use Rattle.kept_book.specs.Change.{Change, back, cells_after, cells_before, forth, names_with, places_of, shift_of}
use Rattle.kept_book.specs.Frame.{Frame, Line}
use Rattle.kept_book.specs.Kept.{change_of, changes_of, name_change}
use Rattle.kept_book.specs.Walk.{back_all, forth_all}
use Rattle.kept_book.specs.declared.part.NameChange.{NameChange}
use Rattle.kept_book.specs.declared.part.Part.{Part}
use Rattle.name_table.specs.Scopes.{NameMap, key_cmp}
use Rattle.name_table.specs.declared.key.NameKey.{NameKey}
use Rattle.shift_core.specs.Maps.{PlaceMap, entry_after, entry_before}
use Rattle.shift_core.specs.Tables.{place_after, place_before}
use Rattle.shift_core.specs.declared.shift.Shift.{Shift}
use Rattle.kept_steps.specs.Fits.{changes_in, steps_of}
use Rattle.kept_steps.specs.InUse.{AheadHas, HasFormula, HereHas, OnHas, PastHas}
use Rattle.kept_steps.specs.Timeline.{Timeline}
use Rattle.kept_steps.specs.declared.entry.Entry.{Entry}
use Rattle.kept_book.specs.declared.passing.Side.TheVariants.{Before, After}
use Rattle.kept_steps.specs.internal.Listed.{has, id_in, id_on, ids_of_step, ids_on}
use Rattle.kept_steps.proofs.Entries.{each_entry}

-- ---- what is among ids

or-left : (a b : Bool) → a ≡ true → (a || b) ≡ true
or-left a b e = ap (λ x. x || b) e

or-right : (a b : Bool) → b ≡ true → (a || b) ≡ true
or-right true b e = refl
or-right false b e = e

or-cases : (a b : Bool) → (a || b) ≡ true → (a ≡ true) ⊎ (b ≡ true)
or-cases true b e = inl refl
or-cases false b e = inr e

pub has-front : (xs ys : List ℕ) (id : ℕ) → has xs id ≡ true → has (xs ++ ys) id ≡ true
has-front xs ys id h = list_any-append (nat_eq id) xs ys ∙ or-left (has xs id) (has ys id) h

pub has-behind : (xs ys : List ℕ) (id : ℕ) → has ys id ≡ true → has (xs ++ ys) id ≡ true
has-behind xs ys id h = list_any-append (nat_eq id) xs ys ∙ or-right (has xs id) (has ys id) h

has-split : (xs ys : List ℕ) (id : ℕ) → has (xs ++ ys) id ≡ true → (has xs id ≡ true) ⊎ (has ys id ≡ true)
has-split xs ys id h = or-cases (has xs id) (has ys id) (sym (list_any-append (nat_eq id) xs ys) ∙ h)

has-itself : (id : ℕ) → has (id ∷ []) id ≡ true
has-itself id = or-left (nat_eq id id) false (eq-eqb id id refl)

-- what lists in another order name
pub has-reversed : {X : Type 0} (f : X → List ℕ) (xs : List X) (id : ℕ) → has (flat_map f (reverse xs)) id ≡ true → has (flat_map f xs) id ≡ true
has-reversed f [] id h = h
has-reversed f (x ∷ xs) id h =
    go (has-reversed f xs id) (has-split (flat_map f (reverse xs)) (flat_map f (x ∷ [])) id (ap (λ l. has l id) (sym (ap (flat_map f) (reverse-append (x ∷ []) xs) ∙ flat_map-append f (reverse xs) (x ∷ []))) ∙ h))
  where
    go : (has (flat_map f (reverse xs)) id ≡ true → has (flat_map f xs) id ≡ true) → (has (flat_map f (reverse xs)) id ≡ true) ⊎ (has (flat_map f (x ∷ [])) id ≡ true) → has (f x ++ flat_map f xs) id ≡ true
    go rest (inl before) = has-behind (f x) (flat_map f xs) id (rest before)
    go rest (inr here) = has-front (f x) (flat_map f xs) id (only (has-split (f x) [] id here))
      where
        only : (has (f x) id ≡ true) ⊎ (has [] id ≡ true) → has (f x) id ≡ true
        only (inl e) = e
        only (inr e) = absurd (cc)

-- ---- cells

-- the formula that entries have at a place is listed
pub find-listed : (p : Place) (es : List (Place × Cell)) (id : ℕ) → find place_cmp p es ≡ Some (cell.Formula id) → has (flat_map id_in es) id ≡ true
find-listed p [] id h = absurd (none-some (cell.Formula id) h)
find-listed p (e ∷ es) id h = go (find-listed p es id) (eq_by_cmp place_cmp p e.0) h
  where
    go : (find place_cmp p es ≡ Some (cell.Formula id) → has (flat_map id_in es) id ≡ true) → (b : Bool) → cond b (Some e.1) (find place_cmp p es) ≡ Some (cell.Formula id) → has (flat_map id_in (e ∷ es)) id ≡ true
    go rest true found =
        has-front (id_in e) (flat_map id_in es) id (subst (λ c. has (id_in (e.0, c)) id ≡ true) (sym (same_Some e.1 (cell.Formula id) found)) (has-itself id))
    go rest false found = has-behind (id_in e) (flat_map id_in es) id (rest found)

find-both : {X : Type 0} (p : Place) (es fs : List (Place × X)) (x : X) → find place_cmp p (es ++ fs) ≡ Some x → (find place_cmp p es ≡ Some x) ⊎ (find place_cmp p fs ≡ Some x)
find-both p [] fs x h = inr h
find-both p (e ∷ es) fs x h = go (find-both p es fs x) (eq_by_cmp place_cmp p e.0) h
  where
    go : (find place_cmp p (es ++ fs) ≡ Some x → (find place_cmp p es ≡ Some x) ⊎ (find place_cmp p fs ≡ Some x)) → (b : Bool) → cond b (Some e.1) (find place_cmp p (es ++ fs)) ≡ Some x → (cond b (Some e.1) (find place_cmp p es) ≡ Some x) ⊎ (find place_cmp p fs ≡ Some x)
    go rest true found = inl found
    go rest false found = rest found

-- entries at other places are those of the map
module _ {X : Type 0} (m : PlaceMap X) (goes : Place → Option Place) where
  abbrev gone_to : Place × X → Option (Place × X)
  gone_to e = option_map (λ q. (q, e.1)) (goes e.0)

  find-gone : (p : Place) (es : List (Place × X)) (x : X) → AllByRecursion (λ e. fin.get m e.0 ≡ Some e.1) es → find place_cmp p (filter_map gone_to es) ≡ Some x → (q : Place) × (fin.get m q ≡ Some x)
  find-gone p [] x all h = absurd (none-some x h)
  find-gone p (e ∷ es) x all h = go (find-gone p es x all.1) (goes e.0) h
    where
      Rest : Type 0
      Rest = find place_cmp p (filter_map gone_to es) ≡ Some x → (q : Place) × (fin.get m q ≡ Some x)

      here : Rest → (b : Bool) → cond b (Some e.1) (find place_cmp p (filter_map gone_to es)) ≡ Some x → (q : Place) × (fin.get m q ≡ Some x)
      here rest true found = (e.0, all.0 ∙ found)
      here rest false found = rest found

      go : Rest → (r : Option Place) → find place_cmp p (cons_option (option_map (λ q. (q, e.1)) r) (filter_map gone_to es)) ≡ Some x → (q : Place) × (fin.get m q ≡ Some x)
      go rest None found = rest found
      go rest (Some q) found = here rest (eq_by_cmp place_cmp p q) found

  from-gone : (p : Place) (x : X) → find place_cmp p (filter_map gone_to (fin.entries m)) ≡ Some x → (q : Place) × (fin.get m q ≡ Some x)
  from-gone p x h = find-gone p (fin.entries m) x (each_entry place_cmp-IsTotalOrder (λ e. fin.get m e.0 ≡ Some e.1) m (λ k y e. e)) h

-- listed cells over a map without some places
put-over : (es : List (Place × Cell)) (ps : List Place) (m : PlaceMap Cell) (p : Place) (id : ℕ) → fin.get (with_entries es (without_places ps m)) p ≡ Some (cell.Formula id)
    → (has (flat_map id_in es) id ≡ true) ⊎ (fin.get m p ≡ Some (cell.Formula id))
put-over es ps m p id h = go (find place_cmp p es) refl (sym (get-with es (without_places ps m) p) ∙ h)
  where
    left : (b : Bool) → cond b None (fin.get m p) ≡ Some (cell.Formula id) → fin.get m p ≡ Some (cell.Formula id)
    left true e = absurd (none-some (cell.Formula id) e)
    left false e = e

    go : (r : Option Cell) → find place_cmp p es ≡ r → first_of_two r (fin.get (without_places ps m) p) ≡ Some (cell.Formula id) → (has (flat_map id_in es) id ≡ true) ⊎ (fin.get m p ≡ Some (cell.Formula id))
    go None e found = inr (left (is_among ps p) (sym (get-without_places ps m p) ∙ found))
    go (Some c) e found = inl (find-listed p es id (e ∙ found))

abbrev InCells : PlaceMap Cell → ℕ → Type 0
InCells m id = (p : Place) × (fin.get m p ≡ Some (cell.Formula id))

cells-before : (s : Option Shift) (c : Change) (m : PlaceMap Cell) (id : ℕ) → InCells (cells_before s c m) id → (has (flat_map id_in c.replaced) id ≡ true) ⊎ InCells m id
cells-before None c m id h = go (put-over c.replaced (places_of c.written) m h.0 id h.1)
  where
    go : (has (flat_map id_in c.replaced) id ≡ true) ⊎ (fin.get m h.0 ≡ Some (cell.Formula id)) → (has (flat_map id_in c.replaced) id ≡ true) ⊎ InCells m id
    go (inl e) = inl e
    go (inr e) = inr (h.0, e)
cells-before (Some s) c m id h =
    go (find-both h.0 c.replaced (filter_map (entry_before s) (fin.entries m)) (cell.Formula id) (sym (get-from_entries place_cmp-IsTotalOrder (c.replaced ++ filter_map (entry_before s) (fin.entries m)) h.0) ∙ h.1))
  where
    go : (find place_cmp h.0 c.replaced ≡ Some (cell.Formula id)) ⊎ (find place_cmp h.0 (filter_map (entry_before s) (fin.entries m)) ≡ Some (cell.Formula id)) → (has (flat_map id_in c.replaced) id ≡ true) ⊎ InCells m id
    go (inl e) = inl (find-listed h.0 c.replaced id e)
    go (inr e) = inr (from-gone m (place_before s) h.0 (cell.Formula id) e)

cells-after : (s : Option Shift) (c : Change) (m : PlaceMap Cell) (id : ℕ) → InCells (cells_after s c m) id → (has (flat_map id_in c.written) id ≡ true) ⊎ InCells m id
cells-after None c m id h = go (put-over c.written (places_of c.replaced) m h.0 id h.1)
  where
    go : (has (flat_map id_in c.written) id ≡ true) ⊎ (fin.get m h.0 ≡ Some (cell.Formula id)) → (has (flat_map id_in c.written) id ≡ true) ⊎ InCells m id
    go (inl e) = inl e
    go (inr e) = inr (h.0, e)
cells-after (Some s) c m id h =
    inr (from-gone m (place_after s) h.0 (cell.Formula id) (sym (get-from_entries place_cmp-IsTotalOrder (filter_map (entry_after s) (fin.entries m)) h.0) ∙ h.1))

-- ---- names

names-on : (side : Option ℕ × Option ℕ → Option ℕ) (on : NameChange → Option ℕ) → ((c : NameChange) → side (name_change c).1 ≡ on c) → (cs : List NameChange) (names : NameMap) (key : NameKey) (id : ℕ)
    → fin.get (names_with side (map name_change cs) names) key ≡ Some id → (has (flat_map (λ c. option_to_list (on c)) cs) id ≡ true) ⊎ (fin.get names key ≡ Some id)
names-on side on same [] names key id h = inr h
names-on side on same (c ∷ cs) names key id h =
    go (names-on side on same cs names key id) (eq_by_cmp key_cmp key (name_change c).0) (sym (get-with_holder (name_change c).0 (side (name_change c).1) (names_with side (map name_change cs) names) key) ∙ h)
  where
    rest : (has (flat_map (λ d. option_to_list (on d)) cs) id ≡ true) ⊎ (fin.get names key ≡ Some id) → (has (flat_map (λ d. option_to_list (on d)) (c ∷ cs)) id ≡ true) ⊎ (fin.get names key ≡ Some id)
    rest (inl e) = inl (has-behind (option_to_list (on c)) (flat_map (λ d. option_to_list (on d)) cs) id e)
    rest (inr e) = inr e

    go : (fin.get (names_with side (map name_change cs) names) key ≡ Some id → (has (flat_map (λ d. option_to_list (on d)) cs) id ≡ true) ⊎ (fin.get names key ≡ Some id)) → (b : Bool) → cond b (side (name_change c).1) (fin.get (names_with side (map name_change cs) names) key) ≡ Some id → (has (flat_map (λ d. option_to_list (on d)) (c ∷ cs)) id ≡ true) ⊎ (fin.get names key ≡ Some id)
    go again true e = inl (has-front (option_to_list (on c)) (flat_map (λ d. option_to_list (on d)) cs) id (subst (λ o. has (option_to_list o) id ≡ true) (sym e ∙ same c) (has-itself id)))
    go again false e = rest (again e)

-- ---- frames

module _ (line : Line) where
  before-part : (p : Part) (f : Frame) (id : ℕ) → HasFormula (back line (change_of p) f) id → (has (ids_on Before p) id ≡ true) ⊎ HasFormula f id
  before-part p f id (inl h) = go (cells-before (shift_of line (change_of p)) (change_of p) f.cells id h)
    where
      go : (has (flat_map id_in (items_of p.replaced)) id ≡ true) ⊎ InCells f.cells id → (has (ids_on Before p) id ≡ true) ⊎ HasFormula f id
      go (inl e) = inl (has-front (flat_map id_in (items_of p.replaced)) (flat_map (λ c. option_to_list (id_on Before c)) p.names.items) id e)
      go (inr e) = inr (inl e)
  before-part p f id (inr h) = go (names-on (λ x. x.0) (id_on Before) (λ c. refl) p.names.items f.names h.0 id h.1)
    where
      go : (has (flat_map (λ c. option_to_list (id_on Before c)) p.names.items) id ≡ true) ⊎ (fin.get f.names h.0 ≡ Some id) → (has (ids_on Before p) id ≡ true) ⊎ HasFormula f id
      go (inl e) = inl (has-behind (flat_map id_in (items_of p.replaced)) (flat_map (λ c. option_to_list (id_on Before c)) p.names.items) id e)
      go (inr e) = inr (inr (h.0, e))

  after-part : (p : Part) (f : Frame) (id : ℕ) → HasFormula (forth line (change_of p) f) id → (has (ids_on After p) id ≡ true) ⊎ HasFormula f id
  after-part p f id (inl h) = go (cells-after (shift_of line (change_of p)) (change_of p) f.cells id h)
    where
      go : (has (flat_map id_in (items_of p.written)) id ≡ true) ⊎ InCells f.cells id → (has (ids_on After p) id ≡ true) ⊎ HasFormula f id
      go (inl e) = inl (has-front (flat_map id_in (items_of p.written)) (flat_map (λ c. option_to_list (id_on After c)) p.names.items) id e)
      go (inr e) = inr (inl e)
  after-part p f id (inr h) = go (names-on (λ x. x.1) (id_on After) (λ c. refl) p.names.items f.names h.0 id h.1)
    where
      go : (has (flat_map (λ c. option_to_list (id_on After c)) p.names.items) id ≡ true) ⊎ (fin.get f.names h.0 ≡ Some id) → (has (ids_on After p) id ≡ true) ⊎ HasFormula f id
      go (inl e) = inl (has-behind (flat_map id_in (items_of p.written)) (flat_map (λ c. option_to_list (id_on After c)) p.names.items) id e)
      go (inr e) = inr (inr (h.0, e))

  pub before-parts : (ps : List Part) (f : Frame) (id : ℕ) → HasFormula (back_all line (changes_of ps) f) id → (has (flat_map (ids_on Before) ps) id ≡ true) ⊎ HasFormula f id
  before-parts [] f id h = inr h
  before-parts (p ∷ ps) f id h = go (before-parts ps f id) (before-part p (back_all line (changes_of ps) f) id h)
    where
      rest : (has (flat_map (ids_on Before) ps) id ≡ true) ⊎ HasFormula f id → (has (flat_map (ids_on Before) (p ∷ ps)) id ≡ true) ⊎ HasFormula f id
      rest (inl e) = inl (has-behind (ids_on Before p) (flat_map (ids_on Before) ps) id e)
      rest (inr e) = inr e

      go : (HasFormula (back_all line (changes_of ps) f) id → (has (flat_map (ids_on Before) ps) id ≡ true) ⊎ HasFormula f id) → (has (ids_on Before p) id ≡ true) ⊎ HasFormula (back_all line (changes_of ps) f) id → (has (flat_map (ids_on Before) (p ∷ ps)) id ≡ true) ⊎ HasFormula f id
      go again (inl e) = inl (has-front (ids_on Before p) (flat_map (ids_on Before) ps) id e)
      go again (inr e) = rest (again e)

  after-parts : (ps : List Part) (f : Frame) (id : ℕ) → HasFormula (forth_all line (changes_of ps) f) id → (has (flat_map (ids_on After) ps) id ≡ true) ⊎ HasFormula f id
  after-parts [] f id h = inr h
  after-parts (p ∷ ps) f id h = go (after-parts ps (forth line (change_of p) f) id h)
    where
      rest : (has (ids_on After p) id ≡ true) ⊎ HasFormula f id → (has (flat_map (ids_on After) (p ∷ ps)) id ≡ true) ⊎ HasFormula f id
      rest (inl e) = inl (has-front (ids_on After p) (flat_map (ids_on After) ps) id e)
      rest (inr e) = inr e

      go : (has (flat_map (ids_on After) ps) id ≡ true) ⊎ HasFormula (forth line (change_of p) f) id → (has (flat_map (ids_on After) (p ∷ ps)) id ≡ true) ⊎ HasFormula f id
      go (inl e) = inl (has-behind (ids_on After p) (flat_map (ids_on After) ps) id e)
      go (inr e) = rest (after-part p f id e)

module _ (t : Timeline) where
  -- what frames along the parts have is listed by the parts, or the frame at the end has it
  pub here-parts : (ps : List Part) (f : Frame) (id : ℕ) → HereHas t (changes_of ps) f id → (has (flat_map (ids_on Before) ps) id ≡ true) ⊎ HasFormula f id
  here-parts [] f id h = inr h
  here-parts (p ∷ ps) f id (inl h) = go (here-parts ps f id h)
    where
      go : (has (flat_map (ids_on Before) ps) id ≡ true) ⊎ HasFormula f id → (has (flat_map (ids_on Before) (p ∷ ps)) id ≡ true) ⊎ HasFormula f id
      go (inl e) = inl (has-behind (ids_on Before p) (flat_map (ids_on Before) ps) id e)
      go (inr e) = inr e
  here-parts (p ∷ ps) f id (inr h) = before-parts t.line (p ∷ ps) f id h

  on-parts : (ps : List Part) (f : Frame) (id : ℕ) → OnHas t (changes_of ps) f id → (has (flat_map (ids_on After) ps) id ≡ true) ⊎ HasFormula f id
  on-parts [] f id h = inr h
  on-parts (p ∷ ps) f id (inl h) = inr h
  on-parts (p ∷ ps) f id (inr h) = go (on-parts ps (forth t.line (change_of p) f) id h)
    where
      rest : (has (ids_on After p) id ≡ true) ⊎ HasFormula f id → (has (flat_map (ids_on After) (p ∷ ps)) id ≡ true) ⊎ HasFormula f id
      rest (inl e) = inl (has-front (ids_on After p) (flat_map (ids_on After) ps) id e)
      rest (inr e) = inr e

      go : (has (flat_map (ids_on After) ps) id ≡ true) ⊎ HasFormula (forth t.line (change_of p) f) id → (has (flat_map (ids_on After) (p ∷ ps)) id ≡ true) ⊎ HasFormula f id
      go (inl e) = inl (has-behind (ids_on After p) (flat_map (ids_on After) ps) id e)
      go (inr e) = rest (after-part t.line p f id e)

  past-steps : (es : List Entry) (f : Frame) (id : ℕ) → PastHas t f (map changes_in es) id → (has (flat_map (ids_of_step Before) es) id ≡ true) ⊎ HasFormula f id
  past-steps [] f id h = absurd h
  past-steps (e ∷ es) f id h = go (past-steps es (back_all t.line (changes_in e) f) id) h
    where
      here : (has (ids_of_step Before e) id ≡ true) ⊎ HasFormula f id → (has (flat_map (ids_of_step Before) (e ∷ es)) id ≡ true) ⊎ HasFormula f id
      here (inl x) = inl (has-front (ids_of_step Before e) (flat_map (ids_of_step Before) es) id x)
      here (inr x) = inr x

      rest : (has (flat_map (ids_of_step Before) es) id ≡ true) ⊎ HasFormula (back_all t.line (changes_in e) f) id → (has (flat_map (ids_of_step Before) (e ∷ es)) id ≡ true) ⊎ HasFormula f id
      rest (inl x) = inl (has-behind (ids_of_step Before e) (flat_map (ids_of_step Before) es) id x)
      rest (inr x) = here (before-parts t.line e.parts.items f id x)

      go : (PastHas t (back_all t.line (changes_in e) f) (map changes_in es) id → (has (flat_map (ids_of_step Before) es) id ≡ true) ⊎ HasFormula (back_all t.line (changes_in e) f) id) → HereHas t (changes_in e) f id ⊎ PastHas t (back_all t.line (changes_in e) f) (map changes_in es) id → (has (flat_map (ids_of_step Before) (e ∷ es)) id ≡ true) ⊎ HasFormula f id
      go again (inl x) = here (here-parts e.parts.items f id x)
      go again (inr x) = rest (again x)

  ahead-steps : (es : List Entry) (f : Frame) (id : ℕ) → AheadHas t f (map changes_in es) id → (has (flat_map (ids_of_step After) es) id ≡ true) ⊎ HasFormula f id
  ahead-steps [] f id h = absurd h
  ahead-steps (e ∷ es) f id h = go (ahead-steps es (forth_all t.line (changes_in e) f) id) h
    where
      here : (has (ids_of_step After e) id ≡ true) ⊎ HasFormula f id → (has (flat_map (ids_of_step After) (e ∷ es)) id ≡ true) ⊎ HasFormula f id
      here (inl x) = inl (has-front (ids_of_step After e) (flat_map (ids_of_step After) es) id x)
      here (inr x) = inr x

      rest : (has (flat_map (ids_of_step After) es) id ≡ true) ⊎ HasFormula (forth_all t.line (changes_in e) f) id → (has (flat_map (ids_of_step After) (e ∷ es)) id ≡ true) ⊎ HasFormula f id
      rest (inl x) = inl (has-behind (ids_of_step After e) (flat_map (ids_of_step After) es) id x)
      rest (inr x) = here (after-parts t.line e.parts.items f id x)

      go : (AheadHas t (forth_all t.line (changes_in e) f) (map changes_in es) id → (has (flat_map (ids_of_step After) es) id ≡ true) ⊎ HasFormula (forth_all t.line (changes_in e) f) id) → OnHas t (changes_in e) f id ⊎ AheadHas t (forth_all t.line (changes_in e) f) (map changes_in es) id → (has (flat_map (ids_of_step After) (e ∷ es)) id ≡ true) ⊎ HasFormula f id
      go again (inl x) = here (on-parts e.parts.items f id x)
      go again (inr x) = rest (again x)

  -- what frames before the steps have is listed by the steps, or the present frame has it
  pub past-listed : (es : List Entry) (f : Frame) (id : ℕ) → PastHas t f (steps_of es) id → (has (flat_map (ids_of_step Before) es) id ≡ true) ⊎ HasFormula f id
  past-listed es f id h = go (past-steps (reverse es) f id h)
    where
      go : (has (flat_map (ids_of_step Before) (reverse es)) id ≡ true) ⊎ HasFormula f id → (has (flat_map (ids_of_step Before) es) id ≡ true) ⊎ HasFormula f id
      go (inl x) = inl (has-reversed (ids_of_step Before) es id x)
      go (inr x) = inr x

  pub ahead-listed : (es : List Entry) (f : Frame) (id : ℕ) → AheadHas t f (steps_of es) id → (has (flat_map (ids_of_step After) es) id ≡ true) ⊎ HasFormula f id
  ahead-listed es f id h = go (ahead-steps (reverse es) f id h)
    where
      go : (has (flat_map (ids_of_step After) (reverse es)) id ≡ true) ⊎ HasFormula f id → (has (flat_map (ids_of_step After) es) id ≡ true) ⊎ HasFormula f id
      go (inl x) = inl (has-reversed (ids_of_step After) es id x)
      go (inr x) = inr x

-- the present frame, by all its cells and names in lists
pub cells-listed : (m : PlaceMap Cell) (items : List (Place × Cell)) (id : ℕ) → fin.from_entries items ≡ m → InCells m id → has (flat_map id_in items) id ≡ true
cells-listed m items id same h = find-listed h.0 items id (sym (get-from_entries place_cmp-IsTotalOrder items h.0) ∙ ap (λ x. fin.get x h.0) same ∙ h.1)

found-name : (key : NameKey) (es : List (NameKey × ℕ)) (id : ℕ) → find key_cmp key es ≡ Some id → has (map (λ e. e.1) es) id ≡ true
found-name key [] id h = absurd (none-some id h)
found-name key (e ∷ es) id h = go (found-name key es id) (eq_by_cmp key_cmp key e.0) h
  where
    go : (find key_cmp key es ≡ Some id → has (map (λ x. x.1) es) id ≡ true) → (b : Bool) → cond b (Some e.1) (find key_cmp key es) ≡ Some id → has (e.1 ∷ map (λ x. x.1) es) id ≡ true
    go rest true found = or-left (nat_eq id e.1) (has (map (λ x. x.1) es) id) (eq-eqb id e.1 (sym (same_Some e.1 id found)))
    go rest false found = or-right (nat_eq id e.1) (has (map (λ x. x.1) es) id) (rest found)

pub names-listed : (names : NameMap) (key : NameKey) (id : ℕ) → fin.get names key ≡ Some id → has (map (λ e. e.1) (fin.entries names)) id ≡ true
names-listed names key id h = found-name key (fin.entries names) id (sym (get-entries names key) ∙ h)
