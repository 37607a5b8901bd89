use Rattle.std.proofs.Common.{◌∙◌, ap, is_some}
use Rattle.book_values.specs.Names.{key_of}
use Rattle.session_operations.proofs.NamedSlots.{is_some-map}
use Rattle.session_operations.proofs.parts.Parts.finds.Goals as goal

pub returns : goal.returns
returns c = c.is_some.ensures ∙ is_some-map (λ scope. key_of scope c.args.name.now) c.scope_finding.result ∙ ap is_some c.scope_finding.ensures
