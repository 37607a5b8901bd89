-- The tests of places, of blocks and of whole ranges decide equality. Serves lists of them, each once.
use Rattle.std.proofs.Common.{◌≡◌, refl, subst, ℕ, true, ◌&&◌, ◌==◌, eqb-true, eq-eqb}
use Rattle.std.proofs.lemmas.Bool.{and_from, and_parts}
use Rattle.cell_addr.specs.declared.place.Place.{Place}
use Rattle.cell_addr.specs.declared.place.Block.{Block}
use Rattle.cell_addr.specs.declared.axis.Axis.{Axis}
use Rattle.cell_addr.specs.declared.axis.Axis.TheVariants.{Rows, Cols}
use Rattle.cell_addr.specs.declared.whole.Whole.{Whole}
use Rattle.cell_addr.specs.Axis.{same_axis}
use Rattle.cell_addr.specs.Place.{same_place, same_block}
use Rattle.cell_addr.specs.Whole.{same_whole}

same-number : (n : ℕ) → (n == n) ≡ true
same-number n = eq-eqb n n refl

pub same_place-self : (p : Place) → same_place p p ≡ true
same_place-self p = and_from (p.sheet == p.sheet) _ (same-number p.sheet) (and_from (p.row == p.row) _ (same-number p.row) (same-number p.col))

pub same_place-equal : (p q : Place) → same_place p q ≡ true → p ≡ q
same_place-equal p q h =
    let (s, rest) = and_parts (p.sheet == q.sheet) _ h in
    let (r, c) = and_parts (p.row == q.row) (p.col == q.col) rest in
    let sheet = eqb-true p.sheet q.sheet s in
    let row = eqb-true p.row q.row r in
    let col = eqb-true p.col q.col c in
    λ i. record { sheet = sheet i; row = row i; col = col i }

same_block-self : (b : Block) → same_block b b ≡ true
same_block-self b =
    let first = and_from (b.top == b.top) (b.left == b.left) (same-number b.top) (same-number b.left) in
    let last = and_from (b.bottom == b.bottom) (b.right == b.right) (same-number b.bottom) (same-number b.right) in
    and_from (b.sheet == b.sheet) _ (same-number b.sheet) (and_from (b.top == b.top && b.left == b.left) _ first last)

pub same_block-equal : (b c : Block) → same_block b c ≡ true → b ≡ c
same_block-equal b c h =
    let (s, rest) = and_parts (b.sheet == c.sheet) _ h in
    let (first, last) = and_parts (b.top == c.top && b.left == c.left) _ rest in
    let (t, l) = and_parts (b.top == c.top) (b.left == c.left) first in
    let (m, r) = and_parts (b.bottom == c.bottom) (b.right == c.right) last in
    let sheet = eqb-true b.sheet c.sheet s in
    let top = eqb-true b.top c.top t in
    let left = eqb-true b.left c.left l in
    let bottom = eqb-true b.bottom c.bottom m in
    let right = eqb-true b.right c.right r in
    λ i. record { sheet = sheet i; top = top i; left = left i; bottom = bottom i; right = right i }

pub same_place-decides : (p q : Place) → (same_place p q ≡ true → p ≡ q) × (p ≡ q → same_place p q ≡ true)
same_place-decides p q = (same_place-equal p q, λ e. subst (λ r. same_place p r ≡ true) e (same_place-self p))

pub same_block-decides : (b c : Block) → (same_block b c ≡ true → b ≡ c) × (b ≡ c → same_block b c ≡ true)
same_block-decides b c = (same_block-equal b c, λ e. subst (λ d. same_block b d ≡ true) e (same_block-self b))

pub same_axis-self : (a : Axis) → same_axis a a ≡ true
same_axis-self Rows = refl
same_axis-self Cols = refl

pub same_axis-equal : (a b : Axis) → same_axis a b ≡ true → a ≡ b
same_axis-equal Rows Rows h = refl
same_axis-equal Cols Cols h = refl
same_axis-equal Rows Cols h = absurd (cc)
same_axis-equal Cols Rows h = absurd (cc)

same_whole-self : (w : Whole) → same_whole w w ≡ true
same_whole-self w =
    and_from (w.sheet == w.sheet && same_axis w.axis w.axis) _
    (and_from (w.sheet == w.sheet) _ (same-number w.sheet) (same_axis-self w.axis))
    (and_from (w.first == w.first) _ (same-number w.first) (same-number w.last))

same_whole-equal : (v w : Whole) → same_whole v w ≡ true → v ≡ w
same_whole-equal v w h =
    let (on, ends) = and_parts (v.sheet == w.sheet && same_axis v.axis w.axis) _ h in
    let (s, a) = and_parts (v.sheet == w.sheet) (same_axis v.axis w.axis) on in
    let (f, l) = and_parts (v.first == w.first) (v.last == w.last) ends in
    let sheet = eqb-true v.sheet w.sheet s in
    let axis = same_axis-equal v.axis w.axis a in
    let first = eqb-true v.first w.first f in
    let last = eqb-true v.last w.last l in
    λ i. record { sheet = sheet i; axis = axis i; first = first i; last = last i }

pub same_whole-decides : (v w : Whole) → (same_whole v w ≡ true → v ≡ w) × (v ≡ w → same_whole v w ≡ true)
same_whole-decides v w = (same_whole-equal v w, λ e. subst (λ u. same_whole v u ≡ true) e (same_whole-self v))
