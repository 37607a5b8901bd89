use Rattle.std.proofs.Common.{sym, subst, Option, Some}
use Rattle.kept_values.specs.declared.values.Values.{Values}
use Rattle.session_values.specs.internal.Marked.{AreMade, HasSought}
use Rattle.session_values.proofs.values.SessionValues.addition_marked.Goals as goal

pub returns-in-Some : goal.returns-in-Some
returns-in-Some c = λ ok. subst (λ (o : Option Values). AreMade (HasSought c.args.name c.args.whole c.args.word.now) o (Some c.sought_marked.new.values)) (sym c.in-Some.is) (c.sought_marked.ensures ok)

pub returns-in-None : goal.returns-in-None
returns-in-None c = λ ok. subst (λ (o : Option Values). AreMade (HasSought c.args.name c.args.whole c.args.word.now) o o) (sym c.in-None.is) tt
