use Rattle.std.proofs.Common.{◌∙◌, ap, sym}
use Rattle.engine_face.specs.Status.{status_numbered}
use Rattle.engine_face.proofs.Numbered.{refused_numbered}
use Rattle.engine_face.proofs.status.Status.number.Goals as goal

pub returns-in-Refused-clause-back : goal.returns-in-Refused-clause-back
returns-in-Refused-clause-back c = ap status_numbered c.number.ensures ∙ refused_numbered _ ∙ sym c.in-Refused.is
