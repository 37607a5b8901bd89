-- A proper whole range is that of its corners, and they are those of its block. Serves the law on them, and the law that
-- the canonical text spells its tree.
use Rattle.std.proofs.Common.{◌≡◌, ◌∙◌, sym, ap}
use Rattle.cell_addr.specs.declared.axis.Axis.{Axis}
use Rattle.cell_addr.specs.declared.axis.Axis.TheVariants.{Rows, Cols}
use Rattle.cell_addr.specs.Axis.{line_of}
use Rattle.cell_addr.specs.Whole.{IsWholeInside, whole_block}
use Rattle.formula_tree.specs.declared.reference.Corner.{Corner}
use Rattle.formula_tree.specs.Laws.{WholesAreTheirCorners}
use Rattle.formula_tree.specs.Proper.{IsProper}
use Rattle.formula_tree.specs.Reference.{block_of}
use Rattle.formula_tree.specs.Term.{whole}
use Rattle.formula_tree.specs.Whole.{AreWhole, first_corner, last_corner, fixed_along, whole_between, whole_term}

-- the first and the last cell of lines along an axis, by these lines
pub whole-corners : (axis : Axis) (c d : Corner) → c.at.sheet ≡ d.at.sheet → AreWhole axis c d
    → whole axis (first_corner axis c.at.sheet (line_of axis c.at) (fixed_along axis c)) (last_corner axis c.at.sheet (line_of axis d.at) (fixed_along axis d)) ≡ whole axis c d
whole-corners axis c d sheet w =
    ap (λ x. whole axis x (last_corner axis c.at.sheet (line_of axis d.at) (fixed_along axis d))) (sym w.0)
    ∙ ap (λ k. whole axis c (last_corner axis k (line_of axis d.at) (fixed_along axis d))) sheet
    ∙ ap (λ x. whole axis c x) (sym w.1)

term-between : (axis : Axis) (c d : Corner) → IsProper (whole axis c d) → whole_term (whole_between axis c d) (fixed_along axis c) (fixed_along axis d) ≡ whole axis c d
term-between Rows c d p = whole-corners Rows c d p.2.0 p.3
term-between Cols c d p = whole-corners Cols c d p.2.0 p.3

block-between : (axis : Axis) (c d : Corner) → IsProper (whole axis c d) → whole_block (whole_between axis c d) ≡ block_of c d
block-between Rows c d p =
    let first = ap (λ x. x.at.col) p.3.0 in
    let last = ap (λ x. x.at.col) p.3.1 in
    λ i. record { sheet = c.at.sheet; top = c.at.row; left = sym first i; bottom = d.at.row; right = sym last i }
block-between Cols c d p =
    let first = ap (λ x. x.at.row) p.3.0 in
    let last = ap (λ x. x.at.row) p.3.1 in
    λ i. record { sheet = c.at.sheet; top = sym first i; left = c.at.col; bottom = sym last i; right = d.at.col }

inside-between : (axis : Axis) (c d : Corner) → IsProper (whole axis c d) → IsWholeInside (whole_between axis c d)
inside-between Rows c d p = (p.2.1, p.1.0)
inside-between Cols c d p = (p.2.2, p.1.1)

pub wholes-are_their_corners : WholesAreTheirCorners
wholes-are_their_corners axis c d p = (inside-between axis c d p, block-between axis c d p, term-between axis c d p)
