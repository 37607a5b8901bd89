-- A corner seen from a home names the same place there again. Serves interned trees.
use Rattle.std.proofs.Common.{◌≡◌, ap, refl, arith, ◌∙◌, ℕ, ◌<◌, Bool, true, false, ◌==◌, ◌+ℤ◌, ◌-ℤ◌, pos, ◌^◌, Global}
use Rattle.std.proofs.lemmas.Bool.{eqb-true}
use Rattle.std.proofs.lemmas.Int.{ints}
use Rattle.std.specs.declared.rc.Rc.{Rc}
use Rattle.cell_addr.specs.declared.place.Place.{Place}
use Rattle.cell_addr.specs.Place.{IsInside}
use Rattle.formula_tree.specs.declared.reference.Corner.{Corner}
use Rattle.formula_tree.specs.declared.reference.Home.{Home}
use Rattle.formula_tree.specs.Term.{Term}
use Rattle.formula_tree.specs.Reference.{base_of, sheet_at, sheet_from, line_of, line_at, part_from, is_fixed, corner_at, ref_from}
use Rattle.formula_tree.specs.Relative.{relative}
use Rattle.formula_tree.specs.declared.node.Node.{Node}
use Rattle.formula_tree.specs.StandsFor.{StandsFor, ArePlacesInside, at_home, from_home}
use Rattle.formula_tree.proofs.EachCorner.{each_corner-back, EachCorner-map}

sheet-back : (b : Bool) (own sheet : ℕ) → (sheet == own) ≡ b → sheet_at own (sheet_from own sheet) ≡ sheet
sheet-back true own sheet e = rw e (cc (eqb-true sheet own e))
sheet-back false own sheet e = rw e refl

line-there : (base line : ℕ) → line < 2 ^ 31 → line_of (pos base +ℤ (pos line -ℤ pos base)) ≡ line
line-there base line h = let e : pos base +ℤ (pos line -ℤ pos base) ≡ pos line = omega (arith, ints) in rw e (omega arith)

line-back : (base : ℕ) (fixed : Bool) (line : ℕ) → line < 2 ^ 31 → line_at base (part_from base fixed line) ≡ line
line-back base true line h = refl
line-back base false line h = line-there base line h

fixed-back : (base : ℕ) (fixed : Bool) (line : ℕ) → is_fixed (part_from base fixed line) ≡ fixed
fixed-back base true line = refl
fixed-back base false line = refl

pub corner-back : (base : Place) (c : Corner) → IsInside c.at → corner_at base (ref_from base c) ≡ c
corner-back base c p =
    let s = sheet-back (c.at.sheet == base.sheet) base.sheet c.at.sheet refl in
    let r = line-back base.row c.row_fixed c.at.row (omega (arith, p.0)) in
    let k = line-back base.col c.col_fixed c.at.col (omega (arith, p.1)) in
    let f = fixed-back base.row c.row_fixed c.at.row in
    let g = fixed-back base.col c.col_fixed c.at.col in
    simp (s, r, k, f, g)

pub seen-back : (home : Home) (t : Term Corner) → ArePlacesInside t → at_home home (from_home home t) ≡ t
seen-back home t p =
    each_corner-back (ref_from (base_of home)) (corner_at (base_of home)) t
    (EachCorner-map (λ c. IsInside c.at) (λ c. corner_at (base_of home) (ref_from (base_of home) c) ≡ c) (λ c q. corner-back (base_of home) c q) t p)

-- a shared tree that is the plain one as seen from the home stands for it there
pub stands_for-from_home : (home : Home) (tree : Rc Node Global) (t : Term Corner) → ArePlacesInside t → relative tree.value ≡ from_home home t → StandsFor tree home t
stands_for-from_home home tree t p e = ap (at_home home) e ∙ seen-back home t p
