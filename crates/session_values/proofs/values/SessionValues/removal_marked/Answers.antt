use Rattle.std.proofs.Common.{sym, subst, Option, Some}
use Rattle.kept_values.specs.declared.values.Values.{Values}
use Rattle.session_values.specs.internal.Marked.{AreMade, HasMarkedLinked}
use Rattle.session_values.proofs.values.SessionValues.removal_marked.Goals as goal

pub returns-in-Some : goal.returns-in-Some
returns-in-Some c = λ ok. subst (λ (o : Option Values). AreMade (HasMarkedLinked c.args.name) o (Some c.linked_marked.new.values)) (sym c.in-Some.is) (c.linked_marked.ensures ok)

pub returns-in-None : goal.returns-in-None
returns-in-None c = λ ok. subst (λ (o : Option Values). AreMade (HasMarkedLinked c.args.name) o o) (sym c.in-None.is) tt
