-- Summaries stay right where what is kept of one node changes and those that rest on it are given up. Serves what settles a
-- node.
use Rattle.std.proofs.Common.{◌≡◌, ◌∙◌, sym, ap, refl, subst, Bool, true, false, cond, Option, Result, Ok, Err, OnOk, OnErr}
use Rattle.std.specs.declared.alloc.AllocError.{AllocError}
use Rattle.std.specs.Prelude.{unwrap_or}
use Rattle.cell_addr.proofs.SamePlaces.{same_place-equal}
use Rattle.cell_addr.specs.Place.{same_place}
use Rattle.cell_addr.specs.declared.place.Place.{Place}
use Rattle.cell_value.specs.declared.scalar.Scalar.{Scalar}
use Rattle.cell_value.specs.declared.scalar.Scalar.TheVariants.{Empty}
use Rattle.cell_value.specs.declared.summary.Summary.{Summary}
use Rattle.dep_graph.specs.declared.node.Node.{Node}
use Rattle.dep_graph.specs.declared.node.Node.TheVariants.{Cell}
use Rattle.dep_graph.specs.internal.Hashed.{own_node}
use Rattle.range_table.proofs.Staying.{touched_stay_right}
use Rattle.range_table.specs.Blocks.{BlockMap}
use Rattle.range_table.specs.Table.{AreFolds, without_holders}
use Rattle.recalc_core.specs.Kept.{Kept}
use Rattle.recalc_core.specs.internal.KeptTables.{AreSame, IsPut}
use Rattle.recalc_core.specs.internal.Seen.{shown_at}
use Rattle.recalc_core.specs.internal.UnderWay.{DiffersAt}

other_place : (p q : Place) → ¬ (q ≡ p) → same_place p q ≡ false
other_place p q apart = by (same_place p q) refl
  where
    by : (t : Bool) → same_place p q ≡ t → same_place p q ≡ false
    by true e = absurd (apart (sym (same_place-equal p q e)))
    by false e = e

-- a cell's
pub cell_touched : (at : Place) (before after : Kept) (kept : BlockMap Summary) → DiffersAt (Cell at) before after → AreFolds (shown_at before) kept → AreFolds (shown_at after) (without_holders at kept)
cell_touched at before after kept differs right =
    touched_stay_right (shown_at before) (shown_at after) at kept (λ p apart. ap (λ o. unwrap_or o Empty) (differs (Cell p) (other_place at p apart))) right

-- any other node's: no summary rests on it
pub cells_alike : (before after : Kept) (kept : BlockMap Summary) → ((p : Place) → after (Cell p) ≡ before (Cell p)) → AreFolds (shown_at before) kept → AreFolds (shown_at after) kept
cells_alike before after kept same right = subst (λ (values : Place → Scalar). AreFolds values kept) (λ i p. unwrap_or (sym (same p) i) Empty) right

pub put_differs : (a : Node) (value : Option Scalar) (old new : Kept) → IsPut a value old new → DiffersAt a old new
put_differs a value old new put x apart = put x ∙ ap (λ t. cond t value (old x)) apart

-- what is put of a node is kept of it
pub put_there : (a : Node) (value : Option Scalar) (old new : Kept) → IsPut a value old new → new a ≡ value
put_there a value old new put = put a ∙ ap (λ t. cond t value (old a)) (own_node a)

-- whether it was put or not
pub either_differs : (a : Node) (value : Option Scalar) (old new : Kept) (r : Result (Unit {0}) AllocError) → OnOk r (IsPut a value old new) → OnErr r (AreSame old new) → DiffersAt a old new
either_differs a value old new (Ok u) put same = put_differs a value old new put
either_differs a value old new (Err e) put same = λ x apart. same x
