-- When a tree comes back from an operation. Serves the test of loss, and the laws.
use Rattle.std.proofs.Common.{◌≡◌, ◌≢◌, ◌∙◌, sym, ap, subst, refl, ◌↔◌, ℕ, ◌+◌, ◌<◌, length, get_or, drop, Global, List, Option, Some, None, MatchOption, option_map, option_and_then, ◌⊎◌}
use Rattle.std.specs.Bool.{⊤}
use Rattle.std.proofs.lemmas.Option.{same_Some}
use Rattle.cell_addr.specs.declared.axis.Axis.{Axis}
use Rattle.cell_addr.specs.declared.place.Place.{Place}
use Rattle.cell_addr.specs.declared.place.Block.{Block}
use Rattle.cell_addr.specs.declared.whole.Whole.{Whole}
use Rattle.cell_addr.specs.Place.{IsInside, IsBlockInside}
use Rattle.cell_addr.specs.Whole.{whole_block, whole_of}
use Rattle.cell_addr.proofs.Wholes.{whole_of-whole_block}
use Rattle.cell_value.specs.declared.fault.FaultKind.TheVariants as faults
use Rattle.formula_tree.specs.Proper.{IsProper, AreProper}
use Rattle.formula_tree.specs.Reference.{block_of, IsHomeInside}
use Rattle.formula_tree.specs.Term.{Term, number, text, truth, fault, cell, area, whole, name, prefix, percent, binary, call, paren, Terms, no_terms, term, shaped}
use Rattle.formula_tree.specs.declared.operator.Op.{Op}
use Rattle.formula_tree.specs.declared.reference.Corner.{Corner}
use Rattle.formula_tree.specs.declared.reference.Home.{Home}
use Rattle.formula_tree.specs.declared.reference.Home.TheVariants as homes
use Rattle.std.specs.declared.rc.Rc.{Rc}
use Rattle.formula_tree.specs.Reference.{base_of, corner_at}
use Rattle.formula_tree.specs.StandsFor.{at_home}
use Rattle.formula_tree.specs.Term.{each_corner_all}
use Rattle.formula_tree.specs.declared.node.Node.{Node}
use Rattle.formula_tree.specs.Whole.{whole_between}
use Rattle.formula_tree.proofs.Once.{drop-item}
use Rattle.formula_tree.proofs.WholeCorners.{wholes-are_their_corners}
use Rattle.shift_core.specs.Bent.{IsBent, IsCut, HaveOtherSizes, MeetsDisplaced}
use Rattle.shift_core.specs.Carried.{first_place, last_place}
use Rattle.shift_core.specs.Form.{form_of}
use Rattle.shift_core.specs.Sound.{IsSound}
use Rattle.shift_core.specs.Tables.{place_after, block_after, place_before, block_before}
use Rattle.shift_core.specs.Wholes.{IsWholeBent, whole_after, whole_before}
use Rattle.shift_core.specs.declared.shift.Shift.{Shift}
use Rattle.shift_core.proofs.PlaceLaws.{place_moved_returns}
use Rattle.shift_core.proofs.UnbentBlocks.{unbent_returns}
use Rattle.shift_core.proofs.WholeMoves.{lost_whole_bent, unbent_whole_returns}
use Rattle.tree_rewrite.specs.Laws.{IsKept, AreaComesBack, IsCarried}
use Rattle.tree_rewrite.specs.References.{EachReference, EachReferenceOfAll}
use Rattle.tree_rewrite.specs.Rewritten.{cell_at, area_at, area_after, area_before, returned, rewritten, home_by, ComesBack}
use Rattle.tree_rewrite.specs.internal.Passage.{AllComeBack, all_placed_by}
use Rattle.tree_rewrite.specs.internal.Walk.{term_of, terms_in}
use Rattle.tree_rewrite.proofs.Levels.{proper-block}
use Rattle.tree_rewrite.proofs.WholeAreas.{axis-after}

-- a reference that comes back isn't lost
cell-kept : (s : Shift) (c : Corner) (r : Option Place) → returned s (cell_at c r) ≡ cell c → r ≢ None
cell-kept s c None h e = absurd (cc)
cell-kept s c (Some p) h e = absurd (cc)

-- one that isn't lost comes back
cell-back : (s : Shift) (c : Corner) (r : Option Place) → IsSound s → IsInside c.at → place_after s c.at ≡ r → r ≢ None → returned s (cell_at c r) ≡ cell c
cell-back s c None sound i e k = absurd (k refl)
cell-back s c (Some p) sound i e k = ap (cell_at (record c { at = p })) (place_moved_returns (form_of s) c.at p sound i e)

same-block : (b : Block) (c d : Corner) → first_place b ≡ c.at → last_place b ≡ d.at → b ≡ block_of c d
same-block b c d f l =
    let sheet = ap (λ p. p.sheet) f in
    let top = ap (λ p. p.row) f in
    let left = ap (λ p. p.col) f in
    let bottom = ap (λ p. p.row) l in
    let right = ap (λ p. p.col) l in
    λ i. record { sheet = sheet i; top = top i; left = left i; bottom = bottom i; right = right i }

area-ends : (lines : Option Axis) (c d e g : Corner) → shaped lines c d ≡ shaped lines e g → (c ≡ e) × (d ≡ g)
area-ends None c d e g h = (cc, cc)
area-ends (Some axis) c d e g h = (cc, cc)

area-unlike : (lines : Option Axis) (c d : Corner) (f : _) → fault f ≡ shaped lines c d → ⊥
area-unlike None c d f h = cc
area-unlike (Some axis) c d f h = cc

-- what the way back makes of a block or whole range
returned-area : (s : Shift) (lines : Option Axis) (c d : Corner) (b : Block)
    → returned s (area_at lines c d (Some b)) ≡ area_at lines (record c { at = first_place b }) (record d { at = last_place b }) (area_before s lines b)
returned-area s None c d b = refl
returned-area s (Some axis) c d b = refl

rewritten-area : (s : Shift) (lines : Option Axis) (c d : Corner) → rewritten s (shaped lines c d) ≡ area_at lines c d (area_after s lines (block_of c d))
rewritten-area s None c d = refl
rewritten-area s (Some axis) c d = refl

-- a block, or a whole range, that comes back has its ends
area-again : (lines : Option Axis) (c d e g : Corner) (r : Option Block) → area_at lines e g r ≡ shaped lines c d → r ≡ Some (block_of c d)
area-again lines c d e g None h = absurd (area-unlike lines c d faults.Ref h)
area-again lines c d e g (Some b) h =
    let same = area-ends lines (record e { at = first_place b }) (record g { at = last_place b }) c d h in
    ap (λ x. Some x) (same-block b c d (ap (λ x. x.at) same.0) (ap (λ x. x.at) same.1))

area-kept : (s : Shift) (lines : Option Axis) (c d : Corner) (r : Option Block) → returned s (area_at lines c d r) ≡ shaped lines c d → option_and_then (area_before s lines) r ≡ Some (block_of c d)
area-kept s lines c d None h = absurd (area-unlike lines c d faults.Ref h)
area-kept s lines c d (Some b) h = area-again lines c d (record c { at = first_place b }) (record d { at = last_place b }) (area_before s lines b) (sym (returned-area s lines c d b) ∙ h)

-- one that has them comes back
last-of : (c d : Corner) → c.at.sheet ≡ d.at.sheet → last_place (block_of c d) ≡ d.at
last-of c d e = λ i. record { sheet = e i; row = d.at.row; col = d.at.col }

area-back : (s : Shift) (lines : Option Axis) (c d : Corner) (r : Option Block) → c.at.sheet ≡ d.at.sheet → option_and_then (area_before s lines) r ≡ Some (block_of c d)
    → returned s (area_at lines c d r) ≡ shaped lines c d
area-back s lines c d None e h = absurd (cc)
area-back s lines c d (Some b) e h =
    returned-area s lines c d b ∙ ap (area_at lines (record c { at = first_place b }) (record d { at = last_place b })) h ∙ ap (λ p. shaped lines c (record d { at = p })) (last-of c d e)

-- what comes back of a block, or of a whole range, by what it becomes and what that becomes
after-both : (s : Shift) (lines : Option Axis) (c d : Corner) (after : Block) (r : Option Block) → area_after s lines (block_of c d) ≡ Some after → area_before s lines after ≡ r
    → returned s (rewritten s (shaped lines c d)) ≡ area_at lines (record c { at = first_place after }) (record d { at = last_place after }) r
after-both s lines c d after r e f =
    ap (returned s) (rewritten-area s lines c d)
    ∙ ap (λ o. returned s (area_at lines c d o)) e
    ∙ returned-area s lines c d after
    ∙ ap (area_at lines (record c { at = first_place after }) (record d { at = last_place after })) f

pub area-lost : (s : Shift) (lines : Option Axis) (c d : Corner) → area_after s lines (block_of c d) ≡ None → ComesBack s (shaped lines c d) → ⊥
area-lost s lines c d e h =
    area-unlike lines c d faults.Ref (sym (ap (returned s) (rewritten-area s lines c d) ∙ ap (λ o. returned s (area_at lines c d o)) e) ∙ h)

pub area-nowhere : (s : Shift) (lines : Option Axis) (c d : Corner) (after : Block) → area_after s lines (block_of c d) ≡ Some after → area_before s lines after ≡ None → ComesBack s (shaped lines c d) → ⊥
area-nowhere s lines c d after e f h = area-unlike lines c d faults.Ref (sym (after-both s lines c d after None e f) ∙ h)

pub area-at_ends : (s : Shift) (lines : Option Axis) (c d : Corner) (after back : Block) → area_after s lines (block_of c d) ≡ Some after → area_before s lines after ≡ Some back
    → (first_place back ≡ c.at) × (last_place back ≡ d.at) → ComesBack s (shaped lines c d)
area-at_ends s lines c d after back e f h =
    after-both s lines c d after (Some back) e f
    ∙ ap (λ p. shaped lines (record c { at = p }) (record d { at = last_place back })) h.0
    ∙ ap (λ p. shaped lines c (record d { at = p })) h.1

pub area-has_ends : (s : Shift) (lines : Option Axis) (c d : Corner) (after back : Block) → area_after s lines (block_of c d) ≡ Some after → area_before s lines after ≡ Some back
    → ComesBack s (shaped lines c d) → (first_place back ≡ c.at) × (last_place back ≡ d.at)
area-has_ends s lines c d after back e f h =
    let same = area-ends lines (record c { at = first_place back }) (record d { at = last_place back }) c d (sym (after-both s lines c d after (Some back) e f) ∙ h) in
    (ap (λ x. x.at) same.0, ap (λ x. x.at) same.1)

pub prefix-part : (o : _) (x y : Term Corner) → prefix o x ≡ prefix o y → x ≡ y
prefix-part o x y h = cc

pub percent-part : (x y : Term Corner) → percent x ≡ percent y → x ≡ y
percent-part x y h = cc

pub paren-part : (x y : Term Corner) → paren x ≡ paren y → x ≡ y
paren-part x y h = cc

pub call-part : (w : List ℕ) (x y : Terms Corner) → call w x ≡ call w y → x ≡ y
call-part w x y h = cc

pub binary-parts : (o : Op) (x y u v : Term Corner) → binary o x u ≡ binary o y v → (x ≡ y) × (u ≡ v)
binary-parts o x y u v h = (cc, cc)

term-parts : (x y : Term Corner) (u v : Terms Corner) → term x u ≡ term y v → (x ≡ y) × (u ≡ v)
term-parts x y u v h = (cc, cc)

mutual
  pub references-back : (s : Shift) (t : Term Corner) → ComesBack s t → EachReference (IsKept s) (AreaComesBack s) t
  references-back s (number m) h = tt
  references-back s (text w) h = tt
  references-back s (truth b) h = tt
  references-back s (fault k) h = tt
  references-back s (cell c) h = cell-kept s c (place_after s c.at) h
  references-back s (area c d) h = area-kept s None c d (area_after s None (block_of c d)) h
  references-back s (whole axis c d) h = area-kept s (Some axis) c d (area_after s (Some axis) (block_of c d)) h
  references-back s (name w) h = tt
  references-back s (prefix o t) h = references-back s t (prefix-part o (returned s (rewritten s t)) t h)
  references-back s (percent t) h = references-back s t (percent-part (returned s (rewritten s t)) t h)
  references-back s (binary o l r) h =
      let parts = binary-parts o (returned s (rewritten s l)) l (returned s (rewritten s r)) r h in (references-back s l parts.0, references-back s r parts.1)
  references-back s (call w ts) h = all_references-back s ts (call-part w _ ts h)
  references-back s (paren t) h = references-back s t (paren-part (returned s (rewritten s t)) t h)

  all_references-back : (s : Shift) (ts : Terms Corner) → AllComeBack s ts → EachReferenceOfAll (IsKept s) (AreaComesBack s) ts
  all_references-back s no_terms h = tt
  all_references-back s (term t ts) h = let parts = term-parts (returned s (rewritten s t)) t _ ts h in (references-back s t parts.0, all_references-back s ts parts.1)

mutual
  pub back-references : (s : Shift) (t : Term Corner) → IsSound s → IsProper t → EachReference (IsKept s) (AreaComesBack s) t → ComesBack s t
  back-references s (number m) sound p h = refl
  back-references s (text w) sound p h = refl
  back-references s (truth b) sound p h = refl
  back-references s (fault k) sound p h = refl
  back-references s (cell c) sound p h = cell-back s c (place_after s c.at) sound p refl h
  back-references s (area c d) sound p h = area-back s None c d (area_after s None (block_of c d)) p.2.0 h
  back-references s (whole axis c d) sound p h = area-back s (Some axis) c d (area_after s (Some axis) (block_of c d)) p.2.0 h
  back-references s (name w) sound p h = refl
  back-references s (prefix o t) sound p h = ap (λ x. prefix o x) (back-references s t sound p.1 h)
  back-references s (percent t) sound p h = ap (λ x. percent x) (back-references s t sound p.1 h)
  back-references s (binary o l r) sound p h =
      ap (λ x. binary o x (returned s (rewritten s r))) (back-references s l sound p.2 h.0) ∙ ap (λ x. binary o l x) (back-references s r sound p.3 h.1)
  back-references s (call w ts) sound p h = ap (λ x. call w x) (all_back-references s ts sound p.1 h)
  back-references s (paren t) sound p h = ap (λ x. paren x) (back-references s t sound p h)

  all_back-references : (s : Shift) (ts : Terms Corner) → IsSound s → AreProper ts → EachReferenceOfAll (IsKept s) (AreaComesBack s) ts → AllComeBack s ts
  all_back-references s no_terms sound p h = refl
  all_back-references s (term t ts) sound p h = ap (λ x. term x (all_placed_by (place_before s) (area_before s) (all_placed_by (place_after s) (area_after s) ts))) (back-references s t sound p.0 h.0) ∙ ap (λ x. term t x) (all_back-references s ts sound p.1 h.1)

-- the arguments of a call, one by one
abbrev pub all_at : Home → List (Rc Node Global) → Terms Corner
all_at home items = each_corner_all (corner_at (base_of home)) (terms_in items)

all-at_drop : (home : Home) (items : List (Rc Node Global)) (i : ℕ) (item : Rc Node Global) → i < length items → item ≡ get_or items i item
    → all_at home (drop i items) ≡ term (at_home home (term_of item)) (all_at home (drop (i + 1) items))
all-at_drop home items i item h e = ap (all_at home) (drop-item items i item h e)

pub comes-on : (s : Shift) (home : Home) (items : List (Rc Node Global)) (i : ℕ) (item : Rc Node Global) (All : Type 0) → i < length items → item ≡ get_or items i item
    → AllComeBack s (all_at home (drop i items)) ↔ All → ComesBack s (at_home home (term_of item)) → AllComeBack s (all_at home (drop (i + 1) items)) ↔ All
comes-on s home items i item All h e all one =
    let first = at_home home (term_of item) in
    let rest = all_at home (drop (i + 1) items) in
    let is = all-at_drop home items i item h e in
    let come : AllComeBack s rest → AllComeBack s (term first rest) = λ k. ap (λ x. term x (all_placed_by (place_before s) (area_before s) (all_placed_by (place_after s) (area_after s) rest))) one ∙ ap (λ x. term first x) k in (
      λ k. all.0 (subst (AllComeBack s) (sym is) (come k)),
      λ a. (term-parts (returned s (rewritten s first)) first (all_placed_by (place_before s) (area_before s) (all_placed_by (place_after s) (area_after s) rest)) rest (subst (AllComeBack s) is (all.1 a))).1,
    )

pub comes-not : (s : Shift) (home : Home) (items : List (Rc Node Global)) (i : ℕ) (item : Rc Node Global) (All : Type 0) → i < length items → item ≡ get_or items i item
    → AllComeBack s (all_at home (drop i items)) ↔ All → (ComesBack s (at_home home (term_of item)) → ⊥) → All → ⊥
comes-not s home items i item All h e all none a =
    let first = at_home home (term_of item) in
    let rest = all_at home (drop (i + 1) items) in
    let is = all-at_drop home items i item h e in
    none (term-parts (returned s (rewritten s first)) first (all_placed_by (place_before s) (area_before s) (all_placed_by (place_after s) (area_after s) rest)) rest (subst (AllComeBack s) is (all.1 a))).0

-- a block that is carried along as it is comes back
carried-block : (s : Shift) (b : Block) (r : Option Block) → IsSound s → IsBlockInside b → ¬ IsBent s b → ¬ IsCut s b → block_after s b ≡ r → option_and_then (block_before s) r ≡ Some b
carried-block s b None sound i bent cut e =
    let P : Option Block → Type 0 = λ o. MatchOption o ⊤ (λ x. HaveOtherSizes b x ⊎ MeetsDisplaced (form_of s) b) in absurd (bent (subst P (sym e) tt))
carried-block s b (Some after) sound i bent cut e = unbent_returns (form_of s) b after sound i bent cut e

-- and so does a whole range that isn't bent
moved-whole : (s : Shift) (w : Whole) (r : Option Whole) → whole_after s w ≡ r → ¬ IsWholeBent s w → (v : Whole) × (whole_after s w ≡ Some v)
moved-whole s w None e still = absurd (still (lost_whole_bent (form_of s) w e))
moved-whole s w (Some v) e still = (v, e)

carried-whole : (s : Shift) (axis : Axis) (c d : Corner) → IsSound s → IsProper (whole axis c d) → ¬ IsWholeBent s (whole_between axis c d) → AreaComesBack s (Some axis) c d
carried-whole s axis c d sound p still =
    let w = whole_between axis c d in
    let corners = wholes-are_their_corners axis c d p in
    let moved = moved-whole s w (whole_after s w) refl still in
    let v = moved.0 in
    let back = unbent_whole_returns (form_of s) w v sound corners.0 still moved.1 in
    let same : whole_of axis (whole_block v) ≡ v = ap (λ a. whole_of a (whole_block v)) (sym (axis-after s w v moved.1)) ∙ whole_of-whole_block v in
    ap (λ r. option_and_then (area_before s (Some axis)) (option_map whole_block r)) moved.1
    ∙ ap (λ x. option_map whole_block (whole_before s x)) same
    ∙ ap (option_map whole_block) back
    ∙ ap (λ b. Some b) corners.1

mutual
  pub carried-references : (s : Shift) (t : Term Corner) → IsSound s → IsProper t → EachReference (IsKept s) (IsCarried s) t → EachReference (IsKept s) (AreaComesBack s) t
  carried-references s (number m) sound p h = tt
  carried-references s (text w) sound p h = tt
  carried-references s (truth b) sound p h = tt
  carried-references s (fault k) sound p h = tt
  carried-references s (cell c) sound p h = h
  carried-references s (area c d) sound p h = carried-block s (block_of c d) (block_after s (block_of c d)) sound (proper-block c d p.0 p.1 p.2) h.0 h.1 refl
  carried-references s (whole axis c d) sound p h = carried-whole s axis c d sound p h
  carried-references s (name w) sound p h = tt
  carried-references s (prefix o t) sound p h = carried-references s t sound p.1 h
  carried-references s (percent t) sound p h = carried-references s t sound p.1 h
  carried-references s (binary o l r) sound p h = (carried-references s l sound p.2 h.0, carried-references s r sound p.3 h.1)
  carried-references s (call w ts) sound p h = all_carried-references s ts sound p.1 h
  carried-references s (paren t) sound p h = carried-references s t sound p h

  all_carried-references : (s : Shift) (ts : Terms Corner) → IsSound s → AreProper ts → EachReferenceOfAll (IsKept s) (IsCarried s) ts → EachReferenceOfAll (IsKept s) (AreaComesBack s) ts
  all_carried-references s no_terms sound p h = tt
  all_carried-references s (term t ts) sound p h = (carried-references s t sound p.0 h.0, all_carried-references s ts sound p.1 h.1)

-- homes come back, and go forth
formula-back : (f g : Place → Option Place) (at : Place) (r : Option Place) (to : Home) → f at ≡ r → option_map (λ p. homes.Cell p) r ≡ Some to → ((q : Place) → f at ≡ Some q → g q ≡ Some at)
    → home_by g to ≡ Some (homes.Cell at)
formula-back f g at None to e h k = absurd (cc)
formula-back f g at (Some q) to e h k = ap (home_by g) (sym (same_Some _ _ h)) ∙ ap (option_map (λ p. homes.Cell p)) (k q e)

pub home-back : (f g : Place → Option Place) (home to : Home) → IsHomeInside home → ((p q : Place) → IsInside p → f p ≡ Some q → g q ≡ Some p) → home_by f home ≡ Some to → home_by g to ≡ Some home
home-back f g (homes.Cell at) to i k h = formula-back f g at (f at) to refl h (λ q e. k at q i e)
home-back f g (homes.Name sheet) to i k h = ap (home_by g) (sym (same_Some _ _ h))
