-- The cells that an edit of lines loses, by the block of the lost lines. Serves edits of lines.
use Rattle.std.proofs.Common.{◌≡◌, ◌∙◌, sym, ap, refl, subst, ℕ, ◌<◌, ◌-◌, ◌↔◌, Bool, true, false, cond, not, ◌&&◌, nat_le, ◌==◌, List, [], ◌∷◌, Option, Some, None, option_map, IsSome, is_some, is_none, filter, filter_map, arith}
use Rattle.std.proofs.lemmas.Bool.{both_ways}
use Rattle.std.proofs.lemmas.Bool.Decides.{nat_tests}
use Rattle.std.specs.FinMap as map
use Rattle.std.specs.FinMap.{entries, get, get-entries}
use Rattle.std.specs.List.{AllByRecursion, cons_option}
use Rattle.cell_addr.specs.Axis.{limit_of, line_of, with_span}
use Rattle.cell_addr.specs.Place.{IsInside, covers}
use Rattle.cell_addr.specs.declared.axis.Axis.{Axis}
use Rattle.cell_addr.specs.declared.axis.Axis.TheVariants.{Rows, Cols}
use Rattle.cell_addr.specs.declared.axis.Span.{Span}
use Rattle.cell_addr.specs.declared.place.Place.{Place}
use Rattle.cell_addr.specs.declared.place.TheConstants.{ROWS, COLS}
use Rattle.shift_core.specs.Maps.{AreInside, PlaceMap}
use Rattle.shift_core.specs.declared.edit.Edit.{Edit}
use Rattle.shift_core.specs.declared.form.Form.TheVariants.{Lines}
use Rattle.shift_core.proofs.Axes.{line_inside}
use Rattle.shift_core.proofs.CarriedEntries.{carried_entry}
use Rattle.shift_core.proofs.MovedMaps.{each_place}
use Rattle.grid_store.specs.Grid.{HasAny, outside, within}
use Rattle.grid_store.specs.declared.way.Going.{Going}
use Rattle.grid_store.specs.internal.Ways.{carried_map, form_goes, line_goes, lost_by, span_has, whole}
use Rattle.grid_store.proofs.Carries.{goes_by_line, lost-kept}
use Rattle.grid_store.proofs.PlaceMaps.{entries-kept, get-kept, same_places}

none_on : {X Y : Type 0} (b : Bool) (r : Option X) (g : X → Y) (y : Y) → is_none (cond b (option_map g r) (Some y)) ≡ (b && is_none r)
none_on true None g y = refl
none_on true (Some x) g y = refl
none_on false r g y = refl

rows_covered : (sheet first last row col s : ℕ) → row < ROWS → col < COLS
    → (sheet == s && (nat_le first row && (nat_le row last && (nat_le 0 col && nat_le col (COLS - 1))))) ≡ (s == sheet && (nat_le first row && nat_le row last))
rows_covered sheet first last row col s i j = grind (arith, nat_tests)

cols_covered : (sheet first last row col s : ℕ) → row < ROWS → col < COLS
    → (sheet == s && (nat_le 0 row && (nat_le row (ROWS - 1) && (nat_le first col && nat_le col last)))) ≡ (s == sheet && (nat_le first col && nat_le col last))
cols_covered sheet first last row col s i j = grind (arith, nat_tests)

covered : (axis : Axis) (sheet : ℕ) (span : Span) (q : Place) → IsInside q → covers (with_span axis span (whole sheet)) q ≡ (q.sheet == sheet && span_has (Some span) (line_of axis q))
covered Rows sheet span q i = rows_covered sheet span.first span.last q.row q.col q.sheet i.0 i.1
covered Cols sheet span q i = cols_covered sheet span.first span.last q.row q.col q.sheet i.0 i.1

whole_covered : (sheet row col s : ℕ) → row < ROWS → col < COLS → (sheet == s && (nat_le 0 row && (nat_le row (ROWS - 1) && (nat_le 0 col && nat_le col (COLS - 1))))) ≡ (s == sheet)
whole_covered sheet row col s i j = grind (arith, nat_tests)

pub covers-whole : (sheet : ℕ) (q : Place) → IsInside q → covers (whole sheet) q ≡ (q.sheet == sheet)
covers-whole sheet q i = whole_covered sheet q.row q.col q.sheet i.0 i.1

not_none : {X : Type 0} (r : Option X) → not (is_none r) ≡ is_some r
not_none None = refl
not_none (Some x) = refl

filter_none : {X : Type 0} (es : List (Place × X)) (p : Place → Bool) → AllByRecursion (λ e. p e.0 ≡ false) es → filter (λ e. p e.0) es ≡ []
filter_none [] p h = refl
filter_none (e ∷ es) p h = ap (λ b. cond b (e ∷ filter (λ x. p x.0) es) (filter (λ x. p x.0) es)) h.0 ∙ filter_none es p h.1

where_found : {X : Type 0} (a b : Bool) (r : Option X) → (IsSome r → a ≡ b) → cond a r None ≡ cond b r None
where_found true true r h = refl
where_found false false r h = refl
where_found true false None h = refl
where_found false true None h = refl
where_found true false (Some x) h = let bad = h refl in cc
where_found false true (Some x) h = let bad = h refl in cc

-- a part by a test that says of the places of the sheet what another does
pub same_part : {X : Type 0} (m : PlaceMap X) (a b : Place → Bool) → AreInside m → ((q : Place) → IsInside q → a q ≡ b q) → map.retain_keys m a ≡ map.retain_keys m b
same_part m a b all h = same_places _ _ (λ q. get-kept m a q ∙ where_found (a q) (b q) (get m q) (λ some. h q (all q some)) ∙ sym (get-kept m b q))

all_part : {X : Type 0} (b : Bool) (r : Option X) → (IsSome r → b ≡ true) → r ≡ cond b r None
all_part true r h = refl
all_part false None h = refl
all_part false (Some x) h = let bad = h refl in cc

pub whole_part : {X : Type 0} (m : PlaceMap X) (a : Place → Bool) → AreInside m → ((q : Place) → IsInside q → a q ≡ true) → m ≡ map.retain_keys m a
whole_part m a all h = same_places _ _ (λ q. all_part (a q) (get m q) (λ some. h q (all q some)) ∙ sym (get-kept m a q))

dropped_or : {X : Type 0} (r : Option Place) (f : Place → Option Place) (e : Place × X) (es : List (Place × X)) → f e.0 ≡ r
    → filter_map (carried_entry f) (filter (λ x. is_some (f x.0)) es) ≡ filter_map (carried_entry f) es
    → filter_map (carried_entry f) (cond (is_some r) (e ∷ filter (λ x. is_some (f x.0)) es) (filter (λ x. is_some (f x.0)) es)) ≡ cons_option (option_map (λ q. (q, e.1)) r) (filter_map (carried_entry f) es)
dropped_or None f e es is h = h
dropped_or (Some p) f e es is h = ap (λ r. cons_option (option_map (λ q. (q, e.1)) r) (filter_map (carried_entry f) (filter (λ x. is_some (f x.0)) es))) is ∙ ap (λ z. (p, e.1) ∷ z) h

dropped : {X : Type 0} (f : Place → Option Place) (es : List (Place × X)) → filter_map (carried_entry f) (filter (λ x. is_some (f x.0)) es) ≡ filter_map (carried_entry f) es
dropped f [] = refl
dropped f (e ∷ es) = dropped_or (f e.0) f e es refl (dropped f es)

-- what an operation loses needs not be carried
pub carried-kept : {X : Type 0} (f : Place → Option Place) (m : PlaceMap X) → carried_map f (map.retain_keys m (λ p. is_some (f p))) ≡ carried_map f m
carried-kept f m = ap (λ es. map.from_entries (filter_map (carried_entry f) es)) (entries-kept m (λ p. is_some (f p))) ∙ ap map.from_entries (dropped f (entries m))

part_some : {X : Type 0} (b : Bool) (r : Option X) → IsSome (cond b r None) → b ≡ true
part_some true r h = refl
part_some false r h = cc

-- what is kept isn't lost
pub kept_some : {X : Type 0} (m n : PlaceMap X) (a : Place → Bool) → n ≡ map.retain_keys m a → (p : Place) → IsSome (get n p) → a p ≡ true
kept_some m n a e p some = part_some (a p) (get m p) (subst IsSome (ap (λ z. get z p) e ∙ get-kept m a p) some)

none_from : {X : Type 0} (r : Option X) → is_none r ≡ true → r ≡ None
none_from None h = refl
none_from (Some x) h = cc

module _ (way : Going) (sheet : ℕ) (axis : Axis) (edit : Edit) where
  lost_on : (span : Option Span) → ((line : ℕ) → line < limit_of axis → span_has span line ≡ is_none (line_goes way (limit_of axis) edit line)) → (q : Place) → IsInside q
      → (q.sheet == sheet && span_has span (line_of axis q)) ≡ is_none (form_goes way (Lines sheet axis edit) q)
  lost_on span lost q i =
      ap (λ b. q.sheet == sheet && b) (lost (line_of axis q) (line_inside axis q i))
      ∙ sym (ap (λ g. is_none (g q)) (goes_by_line way sheet axis edit) ∙ none_on (q.sheet == sheet) (line_goes way (limit_of axis) edit (line_of axis q)) _ q)

  pub covers_lost : (span : Span) → ((line : ℕ) → line < limit_of axis → span_has (Some span) line ≡ is_none (line_goes way (limit_of axis) edit line)) → (q : Place) → IsInside q
      → covers (with_span axis span (whole sheet)) q ≡ is_none (form_goes way (Lines sheet axis edit) q)
  covers_lost span lost q i = covered axis sheet span q i ∙ lost_on (Some span) lost q i

  and_false : (b : Bool) → (b && false) ≡ false
  and_false true = refl
  and_false false = refl

  none_lost : ((line : ℕ) → line < limit_of axis → span_has None line ≡ is_none (line_goes way (limit_of axis) edit line)) → (q : Place) → IsInside q → is_none (form_goes way (Lines sheet axis edit) q) ≡ false
  none_lost lost q i = sym (lost_on None lost q i) ∙ and_false (q.sheet == sheet)

  some_kept : ((line : ℕ) → line < limit_of axis → span_has None line ≡ is_none (line_goes way (limit_of axis) edit line)) → (q : Place) → IsInside q → is_some (form_goes way (Lines sheet axis edit) q) ≡ true
  some_kept lost q i = sym (not_none (form_goes way (Lines sheet axis edit) q)) ∙ ap not (none_lost lost q i)

  -- where no line is lost, no cell is
  pub nothing_lost : {X : Type 0} (m : PlaceMap X) → AreInside m → ((line : ℕ) → line < limit_of axis → span_has None line ≡ is_none (line_goes way (limit_of axis) edit line)) → lost_by (form_goes way (Lines sheet axis edit)) m ≡ []
  nothing_lost m all lost =
      filter_none (entries m) (λ q. is_none (form_goes way (Lines sheet axis edit) q))
      (each_place (λ q. is_none (form_goes way (Lines sheet axis edit) q) ≡ false) (entries m) (λ q some. none_lost lost q (all q (subst IsSome (sym (get-entries m q)) some))))

  pub all_kept : {X : Type 0} (m : PlaceMap X) → AreInside m → ((line : ℕ) → line < limit_of axis → span_has None line ≡ is_none (line_goes way (limit_of axis) edit line))
      → m ≡ map.retain_keys m (λ p. is_some (form_goes way (Lines sheet axis edit) p))
  all_kept m all lost = whole_part m (λ p. is_some (form_goes way (Lines sheet axis edit) p)) all (some_kept lost)

  -- the cells in the block of the lost lines are the lost ones
  pub lost_within : {X : Type 0} (span : Span) (m : PlaceMap X) → AreInside m → ((line : ℕ) → line < limit_of axis → span_has (Some span) line ≡ is_none (line_goes way (limit_of axis) edit line))
      → entries (within (with_span axis span (whole sheet)) m) ≡ lost_by (form_goes way (Lines sheet axis edit)) m
  lost_within span m all lost = lost-kept (form_goes way (Lines sheet axis edit)) (covers (with_span axis span (whole sheet))) m all (covers_lost span lost)

  pub kept_outside : {X : Type 0} (span : Span) (m : PlaceMap X) → AreInside m → ((line : ℕ) → line < limit_of axis → span_has (Some span) line ≡ is_none (line_goes way (limit_of axis) edit line))
      → outside (with_span axis span (whole sheet)) m ≡ map.retain_keys m (λ p. is_some (form_goes way (Lines sheet axis edit) p))
  kept_outside span m all lost =
      same_part m (λ p. not (covers (with_span axis span (whole sheet)) p)) (λ p. is_some (form_goes way (Lines sheet axis edit) p)) all
      (λ q i. ap not (covers_lost span lost q i) ∙ not_none (form_goes way (Lines sheet axis edit) q))

  -- an edit loses a cell where one is in the block of the lost lines
  pub any_lost : {X : Type 0} (span : Span) (m : PlaceMap X) → AreInside m → ((line : ℕ) → line < limit_of axis → span_has (Some span) line ≡ is_none (line_goes way (limit_of axis) edit line))
      → HasAny (with_span axis span (whole sheet)) m ↔ ((p : Place) × IsSome (get m p) × (form_goes way (Lines sheet axis edit) p ≡ None))
  any_lost span m all lost = (
    λ h. (h.0, h.2, none_from (form_goes way (Lines sheet axis edit) h.0) (sym (covers_lost span lost h.0 (all h.0 h.2)) ∙ h.1)),
    λ h. (h.0, covers_lost span lost h.0 (all h.0 h.1) ∙ ap is_none h.2, h.1),
  )

  pub none_any : {X : Type 0} (m : PlaceMap X) → AreInside m → ((line : ℕ) → line < limit_of axis → span_has None line ≡ is_none (line_goes way (limit_of axis) edit line))
      → ((p : Place) × IsSome (get m p) × (form_goes way (Lines sheet axis edit) p ≡ None)) → ⊥
  none_any m all lost h = both_ways _ (ap is_some h.2) (some_kept lost h.0 (all h.0 h.1))
