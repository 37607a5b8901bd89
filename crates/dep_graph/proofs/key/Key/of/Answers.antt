use Rattle.std.proofs.Common.{◌≡◌, ◌&&◌, sym, subst, true, arith}
use Rattle.dep_graph.specs.declared.key.Key.TheVariants.{Range, Whole}
use Rattle.dep_graph.specs.internal.Keys.{is_narrow, is_narrow_line}
use Rattle.std.proofs.lemmas.Bool.{and_from}
use Rattle.dep_graph.proofs.Numbers.{narrow_area, narrow_spot}
use Rattle.dep_graph.proofs.Wholes.{narrow_ends}
use Rattle.dep_graph.proofs.key.Key.of.Goals as goal

pub returns-in-Cell-clause-narrow : goal.returns-in-Cell-clause-narrow
returns-in-Cell-clause-narrow c =
    subst (λ s. (is_narrow_line s.row && is_narrow_line s.col) ≡ true) (sym c.spot.ensures) (narrow_spot c.args.lines.now c.in-Cell.at (omega arith, omega arith))

pub returns-in-Range-clause-narrow : goal.returns-in-Range-clause-narrow
returns-in-Range-clause-narrow c =
    subst (λ a. is_narrow (Range a) ≡ true) (sym c.area.ensures) (narrow_area c.args.lines.now c.in-Range.block ((omega arith, omega arith), (omega arith, omega arith)))

pub returns-in-Whole-clause-narrow : goal.returns-in-Whole-clause-narrow
returns-in-Whole-clause-narrow c =
    let (first, last) = narrow_ends c.args.lines.now c.in-Whole.whole (omega arith) (omega arith) in
    subst (λ a. is_narrow (Whole a) ≡ true) (sym c.of.ensures) (and_from _ _ first last)
