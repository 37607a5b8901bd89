use Rattle.std.proofs.Common.{◌∙◌, sym, ap, cond, nat_lt, ◌∷◌, [], Some}
use Rattle.std.proofs.lemmas.Result.{err_from_is_err_and}
use Rattle.std.specs.FinMap as fin
use Rattle.book_model.specs.Changes.{with_contents}
use Rattle.book_model.specs.Refusals.{at_cells, first_cause, of_texts}
use Rattle.book_model.specs.declared.refusal.Refusal.TheVariants.{CellLimit, TextLimit}
use Rattle.session_operations.specs.Seen.{state_of}
use Rattle.session_operations.proofs.Causes.{behind, front}
use Rattle.session_operations.proofs.WrittenCells.{few_filled, many_filled, none_long}
use Rattle.session_operations.proofs.parts.Parts.check_write_all.Goals as goal

pub returns-in_err-check_places : goal.returns-in_err-check_places
returns-in_err-check_places c =
    let d = state_of c.args.self.now in
    let cells = c.args.cells.now in
    let p = err_from_is_err_and c.from_residual.result c.from_residual.ensures.1 in
    rw (p.1, p.2) (front (at_cells d.book cells) (of_texts d cells) _ c.in_err-check_places.ensures)

pub returns-then-has_long : goal.returns-then-has_long
returns-then-has_long c =
    let d = state_of c.args.self.now in
    let cells = c.args.cells.now in
    behind (at_cells d.book cells) (of_texts d cells) c.in_ok-check_places.ensures
    ∙ ap (λ b. cond b (Some TextLimit) (first_cause ((nat_lt 1000000 (fin.len (with_contents cells d.book).cells), CellLimit) ∷ []))) (sym c.has_long.ensures ∙ c.if-has_long.true)

pub returns-then-filled-gt-MAX_CELLS : goal.returns-then-filled-gt-MAX_CELLS
returns-then-filled-gt-MAX_CELLS c =
    let d = state_of c.args.self.now in
    let cells = c.args.cells.now in
    behind (at_cells d.book cells) (of_texts d cells) c.in_ok-check_places.ensures ∙ none_long d cells (sym c.has_long.ensures ∙ c.if-has_long.false)
    ∙ many_filled d cells c.in_ok-filled.filled c.in_ok-filled.ensures c.if-filled-gt-MAX_CELLS.true

pub returns : goal.returns
returns c =
    let d = state_of c.args.self.now in
    let cells = c.args.cells.now in (
      behind (at_cells d.book cells) (of_texts d cells) c.in_ok-check_places.ensures ∙ none_long d cells (sym c.has_long.ensures ∙ c.if-has_long.false)
          ∙ few_filled d cells c.in_ok-filled.filled c.in_ok-filled.ensures c.if-filled-gt-MAX_CELLS.false,
      tt,
    )
