-- The map that a moved block of cells makes, and the cells that it is put over. Serves moves of blocks of cells.
use Rattle.std.proofs.Common.{◌≡◌, ◌∙◌, sym, ap, ap₂, refl, subst, ◌↔◌, ◌<◌, ◌≤◌, ◌⊎◌, inl, inr, ℕ, ◌==◌, if◌then◌else◌, Bool, true, false, cond, not, ◌&&◌, List, [], ◌∷◌, Option, Some, None, option_map, option_and_then, IsSome, is_some, is_none, filter_map, arith}
use Rattle.std.specs.FinMap as map
use Rattle.std.specs.FinMap.{entries, get, get-entries}
use Rattle.std.specs.List.{AllByRecursion, cons_option}
use Rattle.std.proofs.lemmas.Option.{same_Some}
use Rattle.cell_addr.specs.Place.{IsInside, covers}
use Rattle.cell_addr.specs.declared.place.Block.{Block}
use Rattle.cell_addr.specs.declared.place.Place.{Place}
use Rattle.cell_addr.specs.declared.place.TheConstants.{ROWS, COLS}
use Rattle.cell_addr.proofs.Places.{place_cmp-IsTotalOrder, place_cmp-IsAntisymmetric}
use Rattle.shift_core.specs.Carried.{carried_place, destination, first_place}
use Rattle.shift_core.specs.Maps.{AreInside, PlaceMap}
use Rattle.shift_core.specs.Sound.{IsSoundForm}
use Rattle.shift_core.specs.declared.form.Form.TheVariants.{Cells, Sheet}
use Rattle.shift_core.proofs.CarriedEntries.{find-carried, find-carried_nowhere}
use Rattle.shift_core.proofs.MovedMaps.{each_place, find_place}
use Rattle.grid_store.specs.Grid.{outside, with_entries, within}
use Rattle.grid_store.specs.declared.way.Going.{Going}
use Rattle.grid_store.specs.declared.way.Going.TheVariants.{Forth, Back}
use Rattle.grid_store.specs.internal.Lists.{carried_entry}
use Rattle.grid_store.specs.internal.Ways.{carried_map, form_goes, from_block, lost_by, onto_block, turned, whole}
use Rattle.grid_store.proofs.Carries.{get-carried, get-carried_outside, lost-kept, returned, returns, stays_inside}
use Rattle.grid_store.proofs.Fills.{first_of_two, get-with}
use Rattle.grid_store.proofs.LostCells.{covers-whole}
use Rattle.grid_store.proofs.PlaceMaps.{get-kept, same_places}

cases_lt : (a b : ℕ) → (a < b) ⊎ (b ≤ a)
cases_lt a b = grind arith

-- a place is on its sheet or not
pub inside_or_not : (q : Place) → IsInside q ⊎ (IsInside q → ⊥)
inside_or_not q = elim (cases_lt q.row ROWS) [
  | inl r ↦ elim (cases_lt q.col COLS) [
    | inl c ↦ inl (r, c)
    | inr n ↦ inr (λ i. omega (arith, i.1))
  ]
  | inr n ↦ inr (λ i. omega (arith, i.0))
]

not_there : {X : Type 0} (m : PlaceMap X) → AreInside m → (q : Place) → (IsInside q → ⊥) → (r : Option X) → get m q ≡ r → r ≡ None
not_there m all q out None e = refl
not_there m all q out (Some x) e = absurd (out (all q (ap is_some e)))

none_if : {X : Type 0} (b : Bool) → cond {A = Option X} b None None ≡ None
none_if true = refl
none_if false = refl

-- a dropped sheet
dropped_goes : (w : Going) (sheet : ℕ) (q : Place) → form_goes w (Sheet sheet) q ≡ (if q.sheet == sheet then None else Some q)
dropped_goes Forth sheet q = refl
dropped_goes Back sheet q = refl

left_by : {X : Type 0} (b : Bool) (m : PlaceMap X) (q : Place) → cond (not b) (get m q) None ≡ option_and_then (get m) (cond b None (Some q))
left_by true m q = refl
left_by false m q = refl

none_by : (b : Bool) (q : Place) → b ≡ is_none (cond b None (Some q))
none_by true q = refl
none_by false q = refl

pub sheet_cleared : {X : Type 0} (w : Going) (sheet : ℕ) (m : PlaceMap X) → AreInside m → outside (whole sheet) m ≡ carried_map (form_goes w (Sheet sheet)) m
sheet_cleared w sheet m all = same_places _ _ (λ q. get-kept m (λ p. not (covers (whole sheet) p)) q ∙ elim (inside_or_not q) [
  | inl i ↦
      ap (λ b. cond (not b) (get m q) None) (covers-whole sheet q i) ∙ left_by (q.sheet == sheet) m q
      ∙ sym (get-carried w (Sheet sheet) tt m all q _ i (dropped_goes (turned w) sheet q))
  | inr out ↦ ap (λ r. cond (not (covers (whole sheet) q)) r None) (not_there m all q out (get m q) refl) ∙ none_if (not (covers (whole sheet) q)) ∙ sym (get-carried_outside w (Sheet sheet) tt m all q out)
])

pub sheet_lost : {X : Type 0} (w : Going) (sheet : ℕ) (m : PlaceMap X) → AreInside m → entries (within (whole sheet) m) ≡ lost_by (form_goes w (Sheet sheet)) m
sheet_lost w sheet m all =
    lost-kept (form_goes w (Sheet sheet)) (covers (whole sheet)) m all (λ q i. covers-whole sheet q i ∙ none_by (q.sheet == sheet) q ∙ ap is_none (sym (dropped_goes w sheet q)))

each_or : {X : Type 0} (r : Option Place) (P : Place → Type 0) (x : X) (rest : List (Place × X)) → ((y : Place) → r ≡ Some y → P y) → AllByRecursion (λ e. P e.0) rest → AllByRecursion (λ e. P e.0) (cons_option (option_map (λ q. (q, x)) r) rest)
each_or None P x rest here others = others
each_or (Some p) P x rest here others = (here p refl, others)

only : {X : Type 0} (b : Bool) (r : Option X) → IsSome (cond b r None) → IsSome r
only true r h = h
only false r h = cc

or_none : {X : Type 0} (r : Option X) → first_of_two r None ≡ r
or_none None = refl
or_none (Some x) = refl

-- entries whose keys are carried to where something holds
pub each_carried : {X : Type 0} (f : Place → Option Place) (P : Place → Type 0) (es : List (Place × X)) → AllByRecursion (λ e. (y : Place) → f e.0 ≡ Some y → P y) es → AllByRecursion (λ e. P e.0) (filter_map (carried_entry f) es)
each_carried f P [] h = tt
each_carried f P (e ∷ es) h = each_or (f e.0) P e.1 (filter_map (carried_entry f) es) h.0 (each_carried f P es h.1)

-- a moved block of cells
carry : Going → Block → Place → Place → Place
carry Forth source to p = carried_place source to p
carry Back source to p = carried_place (destination source to) (first_place source) p

cells_go : (w : Going) (source : Block) (to p : Place) → form_goes w (Cells source to) p ≡ cond (covers (from_block w source to) p) (Some (carry w source to p)) (cond (covers (onto_block w source to) p) None (Some p))
unfolding carry
cells_go Forth source to p = refl
cells_go Back source to p = refl

from_turned : (w : Going) (source : Block) (to : Place) → from_block (turned w) source to ≡ onto_block w source to
from_turned Forth source to = refl
from_turned Back source to = refl

onto_turned : (w : Going) (source : Block) (to : Place) → onto_block (turned w) source to ≡ from_block w source to
onto_turned Forth source to = refl
onto_turned Back source to = refl

cells_come : (w : Going) (source : Block) (to q : Place) → form_goes (turned w) (Cells source to) q ≡ cond (covers (onto_block w source to) q) (Some (carry (turned w) source to q)) (cond (covers (from_block w source to) q) None (Some q))
cells_come w source to q =
    cells_go (turned w) source to q ∙ (λ i. cond (covers (from_turned w source to i) q) (Some (carry (turned w) source to q)) (cond (covers (onto_turned w source to i) q) None (Some q)))

must_cover : (a b : Bool) (x k q : Place) → cond a (Some x) (cond b None (Some k)) ≡ Some q → (k ≡ q → b ≡ true) → a ≡ true
must_cover true b x k q h on = refl
must_cover false true x k q h on = cc
must_cover false false x k q h on = let bad = on (same_Some k q h) in cc

lost_both : (a b : Bool) (x p : Place) → (not a && b) ≡ is_none (cond a (Some x) (cond b None (Some p)))
lost_both true b x p = refl
lost_both false true x p = refl
lost_both false false x p = refl

two_parts : {X : Type 0} (a b : Bool) (r : Option X) → cond b (cond (not a) r None) None ≡ cond (not a && b) r None
two_parts true true r = refl
two_parts true false r = refl
two_parts false true r = refl
two_parts false false r = refl

module _ {X : Type 0} (w : Going) (source : Block) (to : Place) (sound : IsSoundForm (Cells source to)) (m : PlaceMap X) (all : AreInside m) where
  abbrev from : Block
  from = from_block w source to

  abbrev onto : Block
  onto = onto_block w source to

  abbrev moves : Place → Option Place
  moves = form_goes w (Cells source to)

  abbrev comes : Place → Option Place
  comes = form_goes (turned w) (Cells source to)

  abbrev taken : List (Place × X)
  taken = entries (within from m)

  abbrev bare : PlaceMap X
  bare = outside onto (outside from m)

  taken_inside : (p : Place) → IsSome (find_place p taken) → IsInside p
  taken_inside p some = all p (only (covers from p) (get m p) (subst IsSome (sym (get-entries (within from m) p) ∙ get-kept m (covers from) p) some))

  pub targets_inside : AllByRecursion (λ e. IsInside e.0) (filter_map (carried_entry moves) taken)
  targets_inside = each_carried moves IsInside taken (each_place (λ p. (y : Place) → moves p ≡ Some y → IsInside y) taken (λ p some y h. stays_inside w (Cells source to) p y sound (taken_inside p some) h))

  find_there : (q : Place) (r : Option Place) → IsInside q → comes q ≡ r → find_place q (filter_map (carried_entry moves) taken) ≡ option_and_then (get (within from m)) r
  find_there q None i e =
      find-carried_nowhere place_cmp-IsTotalOrder place_cmp-IsAntisymmetric moves q taken
      (each_place (λ p. moves p ≡ Some q → ⊥) taken (λ p some h. let back = returns w (Cells source to) p q sound (taken_inside p some) h in cc))
  find_there q (Some k) i e =
      find-carried place_cmp-IsTotalOrder place_cmp-IsAntisymmetric place_cmp-IsTotalOrder place_cmp-IsAntisymmetric moves q k taken
      (each_place (λ p. (moves p ≡ Some q) ↔ (k ≡ p)) taken (λ p some. (
        λ h. same_Some k p (sym e ∙ returns w (Cells source to) p q sound (taken_inside p some) h),
        λ same. subst (λ x. moves x ≡ Some q) same (returned w (Cells source to) k q sound i e),
      )))
      ∙ sym (get-entries (within from m) k)

  find_outside : (q : Place) → (IsInside q → ⊥) → find_place q (filter_map (carried_entry moves) taken) ≡ None
  find_outside q out =
      find-carried_nowhere place_cmp-IsTotalOrder place_cmp-IsAntisymmetric moves q taken
      (each_place (λ p. moves p ≡ Some q → ⊥) taken (λ p some h. out (stays_inside w (Cells source to) p q sound (taken_inside p some) h)))

  get-bare : (q : Place) → get bare q ≡ cond (not (covers onto q)) (cond (not (covers from q)) (get m q) None) None
  get-bare q = get-kept (outside from m) (λ p. not (covers onto p)) q ∙ ap (λ r. cond (not (covers onto q)) r None) (get-kept m (λ p. not (covers from p)) q)

  -- at a place that the cells come to, at one that they leave, and at any other
  onto_here : (q : Place) → IsInside q → covers onto q ≡ true → first_of_two (find_place q (filter_map (carried_entry moves) taken)) (get bare q) ≡ option_and_then (get m) (comes q)
  onto_here q i here =
      let k = carry (turned w) source to q in
      let came : comes q ≡ Some k = cells_come w source to q ∙ ap (λ b. cond b (Some k) (cond (covers from q) None (Some q))) here in
      let there : covers from k ≡ true =
      must_cover (covers from k) (covers onto k) (carry w source to k) k q (sym (cells_go w source to k) ∙ returned w (Cells source to) k q sound i came) (λ same. ap (covers onto) same ∙ here) in
      ap₂ first_of_two (find_there q (Some k) i came ∙ get-kept m (covers from) k ∙ ap (λ b. cond b (get m k) None) there)
      (get-bare q ∙ ap (λ b. cond (not b) (cond (not (covers from q)) (get m q) None) None) here)
      ∙ or_none (get m k) ∙ ap (option_and_then (get m)) (sym came)

  from_here : (q : Place) → IsInside q → covers onto q ≡ false → covers from q ≡ true → first_of_two (find_place q (filter_map (carried_entry moves) taken)) (get bare q) ≡ option_and_then (get m) (comes q)
  from_here q i off here =
      let k = carry (turned w) source to q in
      let came : comes q ≡ None = cells_come w source to q ∙ (λ j. cond (off j) (Some k) (cond (here j) None (Some q))) in
      ap₂ first_of_two (find_there q None i came) (get-bare q ∙ (λ j. cond (not (off j)) (cond (not (here j)) (get m q) None) None)) ∙ ap (option_and_then (get m)) (sym came)

  elsewhere : (q : Place) → IsInside q → covers onto q ≡ false → covers from q ≡ false → first_of_two (find_place q (filter_map (carried_entry moves) taken)) (get bare q) ≡ option_and_then (get m) (comes q)
  elsewhere q i off gone =
      let k = carry (turned w) source to q in
      let came : comes q ≡ Some q = cells_come w source to q ∙ (λ j. cond (off j) (Some k) (cond (gone j) None (Some q))) in
      ap₂ first_of_two (find_there q (Some q) i came ∙ get-kept m (covers from) q ∙ ap (λ b. cond b (get m q) None) gone)
      (get-bare q ∙ (λ j. cond (not (off j)) (cond (not (gone j)) (get m q) None) None)) ∙ ap (option_and_then (get m)) (sym came)

  each_here : (q : Place) → IsInside q → (a b : Bool) → covers onto q ≡ a → covers from q ≡ b → first_of_two (find_place q (filter_map (carried_entry moves) taken)) (get bare q) ≡ option_and_then (get m) (comes q)
  each_here q i true b e f = onto_here q i e
  each_here q i false true e f = from_here q i e f
  each_here q i false false e f = elsewhere q i e f

  none_bare : (q : Place) → (IsInside q → ⊥) → get bare q ≡ None
  none_bare q out =
      get-bare q ∙ ap (λ r. cond (not (covers onto q)) (cond (not (covers from q)) r None) None) (not_there m all q out (get m q) refl)
      ∙ ap (λ r. cond (not (covers onto q)) r None) (none_if (not (covers from q))) ∙ none_if (not (covers onto q))

  -- the taken cells, put over the emptied blocks, make the carried map
  pub moved_cells : with_entries (filter_map (carried_entry moves) taken) bare ≡ carried_map moves m
  moved_cells = same_places _ _ (λ q. get-with (filter_map (carried_entry moves) taken) bare q ∙ elim (inside_or_not q) [
    | inl i ↦ each_here q i (covers onto q) (covers from q) refl refl ∙ sym (get-carried w (Cells source to) sound m all q (comes q) i refl)
    | inr out ↦ ap₂ first_of_two (find_outside q out) (none_bare q out) ∙ sym (get-carried_outside w (Cells source to) sound m all q out)
  ])

  -- what stood where they come to is lost, but for what was taken
  pub lost_cells : entries (within onto (outside from m)) ≡ lost_by moves m
  lost_cells =
      ap entries (same_places (within onto (outside from m)) (map.retain_keys m (λ p. not (covers from p) && covers onto p)) (λ q.
      get-kept (outside from m) (covers onto) q ∙ ap (λ r. cond (covers onto q) r None) (get-kept m (λ p. not (covers from p)) q)
      ∙ two_parts (covers from q) (covers onto q) (get m q) ∙ sym (get-kept m (λ p. not (covers from p) && covers onto p) q)))
      ∙ lost-kept moves (λ p. not (covers from p) && covers onto p) m all (λ q i. lost_both (covers from q) (covers onto q) (carry w source to q) q ∙ ap is_none (sym (cells_go w source to q)))
