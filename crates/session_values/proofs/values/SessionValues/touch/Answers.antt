use Rattle.std.proofs.Common.{sym, subst, Option, Some}
use Rattle.cell_addr.specs.Place.{same_place}
use Rattle.kept_values.specs.declared.values.Values.{Values}
use Rattle.session_values.specs.Touched.{AreTouched}
use Rattle.session_values.proofs.MarkedCells.{cell_marked, cell_touched}
use Rattle.session_values.proofs.values.SessionValues.touch.Goals as goal

pub returns-in-Some-clause-touched : goal.returns-in-Some-clause-touched
returns-in-Some-clause-touched c =
    subst (λ (o : Option Values). AreTouched (same_place c.args.at) o (Some c.mark.new.self)) (sym c.in-Some.is)
    (cell_touched c.mark.result c.in-Some.values c.mark.new.self c.args.at c.mark.ensures.links c.mark.ensures.asking c.mark.ensures.losing c.mark.ensures.seeking c.mark.ensures.kept c.mark.ensures.ok c.mark.ensures.err
    c.mark.ensures.unlinked c.mark.ensures.unlinked_err)

pub returns-in-Some-clause-marked : goal.returns-in-Some-clause-marked
returns-in-Some-clause-marked c = cell_marked c.mark.result c.in-Some.values c.mark.new.self c.args.at c.mark.ensures.ok c.mark.ensures.unlinked
