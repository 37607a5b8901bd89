use Rattle.formula_parse.proofs.CanonicalRead.{read-again}
use Rattle.formula_parse.proofs.laws.what_is_read_is_read_again.Goals as goal

pub returns : goal.returns
returns c = λ home sheets text t a r. read-again home sheets text t a r
