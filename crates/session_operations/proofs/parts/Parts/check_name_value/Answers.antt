use Rattle.std.proofs.Common.{◌∙◌, sym, ap, cond, ◌∷◌, [], Some, None}
use Rattle.std.specs.FinMap as map
use Rattle.std.specs.Option.{is_none}
use Rattle.book_values.specs.Names.{found}
use Rattle.book_model.specs.Refusals.{is_suspended, on_sheet}
use Rattle.book_model.specs.declared.refusal.Refusal.TheVariants as refusals
use Rattle.session_operations.specs.Seen.{state_of}
use Rattle.session_operations.proofs.Causes.{behind, none_is, some_is}
use Rattle.session_operations.proofs.parts.Parts.check_name_value.Goals as goal

pub returns-then-not-finds : goal.returns-then-not-finds
returns-then-not-finds c =
    let d = state_of c.args.self.now in
    let o = found (map.entries d.book.names) c.args.name.now c.args.sheet in
    behind ((is_suspended d, refusals.Suspended) ∷ on_sheet d c.args.sheet) ((is_none o, refusals.NoSuchName) ∷ []) c.in_ok-check_on_sheet.ensures
    ∙ ap (λ b. cond b (Some refusals.NoSuchName) None) (none_is o (sym c.finds.ensures ∙ c.if-not-finds.true))

pub returns : goal.returns
returns c =
    let d = state_of c.args.self.now in
    let o = found (map.entries d.book.names) c.args.name.now c.args.sheet in
    behind ((is_suspended d, refusals.Suspended) ∷ on_sheet d c.args.sheet) ((is_none o, refusals.NoSuchName) ∷ []) c.in_ok-check_on_sheet.ensures
    ∙ ap (λ b. cond b (Some refusals.NoSuchName) None) (some_is o (sym c.finds.ensures ∙ c.if-not-finds.false))
