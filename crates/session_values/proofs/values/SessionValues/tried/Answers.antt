use Rattle.std.proofs.Common.{sym, subst, false, Option, Some}
use Rattle.kept_values.specs.declared.values.Values.{Values}
use Rattle.session_values.specs.Touched.{AreTouched}
use Rattle.session_values.proofs.MarkedCells.{same_touched}
use Rattle.session_values.proofs.values.SessionValues.tried.Goals as goal

pub returns-clause-same : goal.returns-clause-same
returns-clause-same g c =
    subst (λ (o : Option Values). AreTouched (λ p. false) o (Some c.tried.new.self)) (sym c.in-Some.is)
    (same_touched (λ p. false) c.in-Some.values c.tried.new.self c.tried.ensures.links c.tried.ensures.asking c.tried.ensures.losing c.tried.ensures.seeking c.tried.ensures.kept c.tried.ensures.marks c.tried.ensures.unlinked)
