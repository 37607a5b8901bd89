-- Trees of which a run of operations loses nothing. Serves the look ahead over a run.
use Rattle.std.proofs.Common.{◌≡◌, ◌≢◌, ◌∙◌, sym, ap, refl, subst, arith, ℕ, zero, suc, ◌+◌, ◌<◌, ◌≤◌, List, [], ◌∷◌, ◌++◌, length, get_or, take, Option, Some, None, MatchOption, option_and_then}
use Rattle.std.proofs.lemmas.List.{take_more}
use Rattle.std.proofs.lemmas.Option.{same_Some}
use Rattle.cell_addr.specs.Place.{IsInside}
use Rattle.cell_addr.specs.declared.axis.Axis.{Axis}
use Rattle.cell_addr.specs.declared.place.Block.{Block}
use Rattle.cell_addr.specs.declared.place.Place.{Place}
use Rattle.formula_tree.specs.Reference.{block_of}
use Rattle.formula_tree.specs.Term.{Term, number, text, truth, fault, cell, name, prefix, percent, binary, call, paren, Terms, no_terms, term, shaped}
use Rattle.formula_tree.specs.declared.reference.Corner.{Corner}
use Rattle.shift_core.specs.Carried.{first_place, last_place}
use Rattle.shift_core.specs.Form.{form_of}
use Rattle.shift_core.specs.Sound.{IsSound}
use Rattle.shift_core.specs.Tables.{place_after, place_before}
use Rattle.shift_core.specs.declared.shift.Shift.{Shift}
use Rattle.shift_core.proofs.PlaceLaws.{place_moved_inside, place_moved_returns}
use Rattle.tree_rewrite.proofs.Returns.{area-at_ends}
use Rattle.tree_rewrite.specs.Rewritten.{ComesBack, area_after, area_at, area_before, cell_at, returned, rewritten}
use Rattle.tree_rewrite.specs.internal.Passage.{all_placed_by}
use Rattle.run_walk.specs.Run.{AreSound, IsCarriedOver, NoneLoses, area_over, place_over}
use Rattle.run_walk.specs.internal.Freed.{NoneLosesOfAll}

-- ---- fewer operations lose nothing either

pub free-take : (n : ℕ) (run : List Shift) (t : Term Corner) → NoneLoses run t → NoneLoses (take n run) t
free-take zero run t free = tt
free-take (suc n) [] t free = tt
free-take (suc n) (s ∷ run) t free = (free.0, free-take n run (rewritten s t) free.1)

pub take-take : (m n : ℕ) (run : List Shift) → m ≤ n → take m (take n run) ≡ take m run
take-take zero n run le = refl
take-take (suc m) zero run le = absurd (omega (arith, le))
take-take (suc m) (suc n) [] le = refl
take-take (suc m) (suc n) (s ∷ run) le = ap (λ r. s ∷ r) (take-take m n run (omega (arith, le)))

pub free-fewer : (m n : ℕ) (run : List Shift) (t : Term Corner) → m ≤ n → NoneLoses (take n run) t → NoneLoses (take m run) t
free-fewer m n run t le free = subst (λ r. NoneLoses r t) (take-take m n run le) (free-take m (take n run) t free)

-- ---- nodes

pub free-number : (run : List Shift) (m : _) → NoneLoses run (number m)
free-number [] m = tt
free-number (s ∷ run) m = (refl, free-number run m)

pub free-text : (run : List Shift) (w : List ℕ) → NoneLoses run (text w)
free-text [] w = tt
free-text (s ∷ run) w = (refl, free-text run w)

pub free-truth : (run : List Shift) (b : _) → NoneLoses run (truth b)
free-truth [] b = tt
free-truth (s ∷ run) b = (refl, free-truth run b)

pub free-fault : (run : List Shift) (f : _) → NoneLoses run (fault f)
free-fault [] f = tt
free-fault (s ∷ run) f = (refl, free-fault run f)

pub free-name : (run : List Shift) (w : List ℕ) → NoneLoses run (name w)
free-name [] w = tt
free-name (s ∷ run) w = (refl, free-name run w)

pub free-prefix : (run : List Shift) (o : _) (t : Term Corner) → NoneLoses run t → NoneLoses run (prefix o t)
free-prefix [] o t free = tt
free-prefix (s ∷ run) o t free = (ap (λ x. prefix o x) free.0, free-prefix run o (rewritten s t) free.1)

pub free-percent : (run : List Shift) (t : Term Corner) → NoneLoses run t → NoneLoses run (percent t)
free-percent [] t free = tt
free-percent (s ∷ run) t free = (ap (λ x. percent x) free.0, free-percent run (rewritten s t) free.1)

pub free-paren : (run : List Shift) (t : Term Corner) → NoneLoses run t → NoneLoses run (paren t)
free-paren [] t free = tt
free-paren (s ∷ run) t free = (ap (λ x. paren x) free.0, free-paren run (rewritten s t) free.1)

pub free-binary : (run : List Shift) (o : _) (l r : Term Corner) → NoneLoses run l → NoneLoses run r → NoneLoses run (binary o l r)
free-binary [] o l r left right = tt
free-binary (s ∷ run) o l r left right =
    (ap (λ x. binary o x (returned s (rewritten s r))) left.0 ∙ ap (λ x. binary o l x) right.0, free-binary run o (rewritten s l) (rewritten s r) left.1 right.1)

pub free-call : (run : List Shift) (w : List ℕ) (ts : Terms Corner) → NoneLosesOfAll run ts → NoneLoses run (call w ts)
free-call [] w ts free = tt
free-call (s ∷ run) w ts free = (ap (λ x. call w x) free.0, free-call run w (all_placed_by (place_after s) (area_after s) ts) free.1)

-- ---- arguments

pub free-no_terms : (run : List Shift) → NoneLosesOfAll run no_terms
free-no_terms [] = tt
free-no_terms (s ∷ run) = (refl, free-no_terms run)

pub free-term : (run : List Shift) (t : Term Corner) (ts : Terms Corner) → NoneLoses run t → NoneLosesOfAll run ts → NoneLosesOfAll run (term t ts)
free-term [] t ts one all = tt
free-term (s ∷ run) t ts one all =
    let rest = all_placed_by (place_before s) (area_before s) (all_placed_by (place_after s) (area_after s) ts) in
    (ap (λ x. term x rest) one.0 ∙ ap (λ x. term t x) all.0, free-term run (rewritten s t) (all_placed_by (place_after s) (area_after s) ts) one.1 all.1)

-- ---- references

each-cell : (s : Shift) (run : List Shift) (c : Corner) → IsSound s → IsInside c.at → ((d : Corner) → IsInside d.at → place_over run d.at ≢ None → NoneLoses run (cell d))
    → (o : Option Place) → place_after s c.at ≡ o → option_and_then (place_over run) o ≢ None → (returned s (cell_at c o) ≡ cell c) × NoneLoses run (cell_at c o)
each-cell s run c sound inside each None goes some = absurd (some refl)
each-cell s run c sound inside each (Some p) goes some =
    (ap (λ o. cell_at (record c { at = p }) o) (place_moved_returns (form_of s) c.at p sound inside goes), each (record c { at = p }) (place_moved_inside (form_of s) c.at p sound inside goes) some)

pub free-cell : (run : List Shift) (c : Corner) → AreSound run → IsInside c.at → place_over run c.at ≢ None → NoneLoses run (cell c)
free-cell [] c sound inside some = tt
free-cell (s ∷ run) c sound inside some = each-cell s run c sound.0 inside (λ d i e. free-cell run d sound.1 i e) (place_after s c.at) refl some

-- ---- blocks and whole ranges

last-of : (c d : Corner) → c.at.sheet ≡ d.at.sheet → last_place (block_of c d) ≡ d.at
last-of c d e = λ i. record { sheet = e i; row = d.at.row; col = d.at.col }

each-area : (s : Shift) (run : List Shift) (lines : Option Axis) (c d : Corner) → c.at.sheet ≡ d.at.sheet → ((e f : Corner) → e.at.sheet ≡ f.at.sheet → IsCarriedOver run lines (block_of e f) → NoneLoses run (shaped lines e f))
    → (o : Option Block) → area_after s lines (block_of c d) ≡ o → MatchOption o ⊥ (λ after. (area_before s lines after ≡ Some (block_of c d)) × IsCarriedOver run lines after) → ComesBack s (shaped lines c d) × NoneLoses run (area_at lines c d o)
each-area s run lines c d same each None goes carried = absurd carried
each-area s run lines c d same each (Some after) goes carried =
    (area-at_ends s lines c d after (block_of c d) goes carried.0 (refl, last-of c d same), each (record c { at = first_place after }) (record d { at = last_place after }) refl carried.1)

pub free-area : (run : List Shift) (lines : Option Axis) (c d : Corner) → c.at.sheet ≡ d.at.sheet → IsCarriedOver run lines (block_of c d) → NoneLoses run (shaped lines c d)
free-area [] lines c d same carried = tt
free-area (s ∷ run) None c d same carried = each-area s run None c d same (λ e f is h. free-area run None e f is h) (area_after s None (block_of c d)) refl carried
free-area (s ∷ run) (Some axis) c d same carried = each-area s run (Some axis) c d same (λ e f is h. free-area run (Some axis) e f is h) (area_after s (Some axis) (block_of c d)) refl carried

-- one operation more gives it back
each-more : (s z : Shift) (run : List Shift) (lines : Option Axis) (at next : Block) → ((b : Block) → area_over run lines b ≡ Some at → IsCarriedOver run lines b → IsCarriedOver (run ++ z ∷ []) lines b)
    → (b : Block) (o : Option Block) → option_and_then (area_over run lines) o ≡ Some at → MatchOption o ⊥ (λ after. (area_before s lines after ≡ Some b) × IsCarriedOver run lines after)
    → MatchOption o ⊥ (λ after. (area_before s lines after ≡ Some b) × IsCarriedOver (run ++ z ∷ []) lines after)
each-more s z run lines at next each b None here carried = absurd carried
each-more s z run lines at next each b (Some after) here carried = (carried.0, each after here carried.1)

carried-append : (run : List Shift) (z : Shift) (lines : Option Axis) (b at next : Block) → area_after z lines at ≡ Some next → area_before z lines next ≡ Some at → area_over run lines b ≡ Some at → IsCarriedOver run lines b → IsCarriedOver (run ++ z ∷ []) lines b
carried-append [] z lines b at next goes back here carried =
    let same : b ≡ at = same_Some b at here in
    subst (λ x. MatchOption (area_after z lines x) ⊥ (λ after. (area_before z lines after ≡ Some x) × Unit {0})) (sym same)
    (subst (λ o. MatchOption o ⊥ (λ after. (area_before z lines after ≡ Some at) × Unit {0})) (sym goes) (back, tt))
carried-append (s ∷ run) z lines b at next goes back here carried = each-more s z run lines at next (λ x is h. carried-append run z lines x at next goes back is h) b (area_after s lines b) here carried

pub carried-more : (run : List Shift) (i : ℕ) (d s : Shift) (lines : Option Axis) (b at next : Block) → i < length run → s ≡ get_or run i d → area_after s lines at ≡ Some next → area_before s lines next ≡ Some at
    → area_over (take i run) lines b ≡ Some at → IsCarriedOver (take i run) lines b → IsCarriedOver (take (i + 1) run) lines b
carried-more run i d s lines b at next within is goes back here carried =
    subst (λ r. IsCarriedOver r lines b) (sym (take_more run i d within))
    (subst (λ z. IsCarriedOver (take i run ++ z ∷ []) lines b) is (carried-append (take i run) s lines b at next goes back here carried))
