use Rattle.std.proofs.Common.{◌≡◌, ◌∙◌, sym, ap, Some, None, option_map}
use Rattle.formula_tree.specs.declared.reference.Home.TheVariants as homes
use Rattle.run_walk.specs.Run.{home_back, place_back}
use Rattle.run_walk.proofs.Over.{home_back-cell, home_back-name}
use Rattle.run_walk.proofs.run.home_back.Goals as goal

pub returns-in_err-place_back-in-Cell : goal.returns-in_err-place_back-in-Cell
returns-in_err-place_back-in-Cell c =
    let run = c.args.run.now in
    let lost : place_back run c.in-Cell.at ≡ None = sym c.place_back.ensures ∙ c.in_err-place_back-in-Cell.was in
    c.from_residual.ensures ∙ sym (ap (home_back run) c.in-Cell.is ∙ home_back-cell run c.in-Cell.at ∙ ap (option_map (λ q. homes.Cell q)) lost)

pub returns-in_ok-place_back-in-Cell : goal.returns-in_ok-place_back-in-Cell
returns-in_ok-place_back-in-Cell c =
    let run = c.args.run.now in
    let to = c.in_ok-place_back-in-Cell.field-0 in
    let goes : place_back run c.in-Cell.at ≡ Some to = sym c.place_back.ensures ∙ c.in_ok-place_back-in-Cell.was in
    sym (ap (home_back run) c.in-Cell.is ∙ home_back-cell run c.in-Cell.at ∙ ap (option_map (λ q. homes.Cell q)) goes)

pub returns-in-Name : goal.returns-in-Name
returns-in-Name c =
    let run = c.args.run.now in
    ap (λ h. Some h) c.in-Name.is ∙ sym (ap (home_back run) c.in-Name.is ∙ home_back-name run c.in-Name.sheet)
