use Rattle.std.proofs.Common.{sym, subst, Option, Some}
use Rattle.kept_values.specs.declared.values.Values.{Values}
use Rattle.session_values.specs.Following.{words_in}
use Rattle.session_values.specs.internal.Marked.{AreMade, HasTurned}
use Rattle.session_values.proofs.values.SessionValues.turn_marked.Goals as goal

pub returns-in-Some : goal.returns-in-Some
returns-in-Some c = λ ok. subst (λ (o : Option Values). AreMade (HasTurned (words_in c.args.session.now) c.args.key c.args.turn) o (Some c.turned.new.values)) (sym c.in-Some.is) (c.turned.ensures ok)

pub returns-in-None : goal.returns-in-None
returns-in-None c = λ ok. subst (λ (o : Option Values). AreMade (HasTurned (words_in c.args.session.now) c.args.key c.args.turn) o o) (sym c.in-None.is) tt
