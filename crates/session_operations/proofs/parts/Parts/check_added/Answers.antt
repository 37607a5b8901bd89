use Rattle.std.proofs.Common.{sym, subst, not, ◌∷◌, [], List, ℕ, Option}
use Rattle.std.specs.Prelude.{⊤}
use Rattle.std.proofs.lemmas.Result.{err_from_is_err_and}
use Rattle.book_values.specs.Names.{key_of}
use Rattle.book_model.specs.Changes.{name_tree}
use Rattle.book_model.specs.Names.{is_name}
use Rattle.book_model.specs.Refusals.{Cause, of_name_text}
use Rattle.book_model.specs.Workbook.{State, has_name, has_scope}
use Rattle.book_model.specs.declared.refusal.Refusal.{Refusal}
use Rattle.book_model.specs.declared.refusal.Refusal.TheVariants as refusals
use Rattle.session_operations.specs.Turns.{Answered}
use Rattle.session_operations.specs.Seen.{state_of}
use Rattle.session_operations.proofs.Causes.{behind, front}
use Rattle.session_operations.proofs.parts.Parts.check_added.Goals as goal

-- what is tested before the text
abbrev first : State → List ℕ → Option ℕ → List Cause
first d name scope = (not (has_scope d.book scope), refusals.NoSheet) ∷ (not (is_name name), refusals.NameInvalid) ∷ (has_name d.book (key_of scope name), refusals.NameTaken) ∷ []

pub returns-in_err-check_new_name : goal.returns-in_err-check_new_name
returns-in_err-check_new_name c =
    let d = state_of c.args.self.now in
    let p = err_from_is_err_and c.from_residual.result c.from_residual.ensures.1 in
    rw (p.1, p.2) (front (first d c.args.name.now c.args.scope) (of_name_text c.args.text.now (name_tree c.args.scope c.args.text.now d.book)) _ c.in_err-check_new_name.ensures)

pub returns : goal.returns
returns c =
    let d = state_of c.args.self.now in
    let causes = of_name_text c.args.text.now (name_tree c.args.scope c.args.text.now d.book) in
    subst (λ (o : Option Refusal). Answered o (λ x. ⊤) c.check_name_text.result) (sym (behind (first d c.args.name.now c.args.scope) causes c.in_ok-check_new_name.ensures)) c.check_name_text.ensures
