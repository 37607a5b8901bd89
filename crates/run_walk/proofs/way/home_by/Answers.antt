use Rattle.std.proofs.Common.{◌≡◌, ◌∙◌, sym, ap, take, Some, None, option_map}
use Rattle.formula_tree.specs.declared.reference.Home.TheVariants as homes
use Rattle.run_walk.specs.Run.{home_over, place_over}
use Rattle.run_walk.proofs.Over.{home-cell, home-name}
use Rattle.run_walk.proofs.way.home_by.Goals as goal

pub returns-in_err-place_by-in-Cell : goal.returns-in_err-place_by-in-Cell
returns-in_err-place_by-in-Cell g c =
    let run = take c.args.count (g.W.Way.shifts c.args.way.now) in
    let lost : place_over run c.in-Cell.at ≡ None = sym c.place_by.ensures ∙ c.in_err-place_by-in-Cell.was in
    c.from_residual.ensures ∙ sym (ap (home_over run) c.in-Cell.is ∙ home-cell run c.in-Cell.at ∙ ap (option_map (λ q. homes.Cell q)) lost)

pub returns-in_ok-place_by-in-Cell : goal.returns-in_ok-place_by-in-Cell
returns-in_ok-place_by-in-Cell g c =
    let run = take c.args.count (g.W.Way.shifts c.args.way.now) in
    let to = c.in_ok-place_by-in-Cell.field-0 in
    let goes : place_over run c.in-Cell.at ≡ Some to = sym c.place_by.ensures ∙ c.in_ok-place_by-in-Cell.was in
    sym (ap (home_over run) c.in-Cell.is ∙ home-cell run c.in-Cell.at ∙ ap (option_map (λ q. homes.Cell q)) goes)

pub returns-in-Name : goal.returns-in-Name
returns-in-Name g c =
    let run = take c.args.count (g.W.Way.shifts c.args.way.now) in
    ap (λ h. Some h) c.in-Name.is ∙ sym (ap (home_over run) c.in-Name.is ∙ home-name run c.in-Name.sheet)
