use Rattle.std.proofs.Common.{◌∙◌, sym, true, false}
use Rattle.session_operations.specs.Seen.{state_of}
use Rattle.session_operations.proofs.NamedSlots.{found-other, found-own}
use Rattle.session_operations.proofs.parts.Parts.scope_finding.Goals as goal

pub returns-then-has_name : goal.returns-then-has_name
returns-then-has_name c = found-own (state_of c.args.self.now).book.names c.args.name.now c.args.sheet (sym c.has_name.ensures ∙ c.if-has_name.true)

pub returns-then-has_name-2 : goal.returns-then-has_name-2
returns-then-has_name-2 c =
    found-other (state_of c.args.self.now).book.names c.args.name.now c.args.sheet true (sym c.has_name.ensures ∙ c.if-has_name.false) (sym c.has_name-2.ensures ∙ c.if-has_name-2.true)

pub returns : goal.returns
returns c =
    found-other (state_of c.args.self.now).book.names c.args.name.now c.args.sheet false (sym c.has_name.ensures ∙ c.if-has_name.false) (sym c.has_name-2.ensures ∙ c.if-has_name-2.false)
