use Rattle.std.proofs.Common.{◌≡◌, ◌∙◌, sym, ap, refl, arith, Bool, true, false, ◌&&◌}
use Rattle.std.proofs.lemmas.Bool.Decides.{nat_tests}
use Rattle.std.specs.Prelude.{is_none, nat_le}
use Rattle.std.specs.FinMap as fin
use Rattle.grid_store.specs.Grid.{cells_of}
use Rattle.kept_book.specs.Frame.{numbered_at}
use Rattle.kept_book.specs.Kept.{at_of}
use Rattle.kept_book.specs.Stored.{contents_of}
use Rattle.session_operations.proofs.FilledCells.{len-contents, none_there}
use Rattle.session_operations.proofs.parts.Parts.is_full_without.Goals as goal

and_true : (b : Bool) → b ≡ (b && true)
and_true true = refl
and_true false = refl

and_false : (b : Bool) → false ≡ (b && false)
and_false true = refl
and_false false = refl

pub returns-then-filled-ge-MAX_CELLS : goal.returns-then-filled-ge-MAX_CELLS
returns-then-filled-ge-MAX_CELLS c =
    let stands = numbered_at (at_of c.args.self.now.session.book) c.args.self.now.session.book.lazy.line.cursor in
    let cells = cells_of c.args.self.now.session.book.grid in
    let full : nat_le 1000000 c.filled.result ≡ true = grind (arith, nat_tests, c.if-filled-ge-MAX_CELLS.true) in
    let none = sym (none_there stands cells c.args.at c.cell.result c.is_none.result c.cell.ensures c.is_none.ensures) in
    let large = sym full ∙ ap (nat_le 1000000) (c.filled.ensures ∙ sym (len-contents stands cells)) in
    and_true c.is_none.result ∙ (λ i. none i && large i)

pub returns-else-filled-ge-MAX_CELLS : goal.returns-else-filled-ge-MAX_CELLS
returns-else-filled-ge-MAX_CELLS c =
    let stands = numbered_at (at_of c.args.self.now.session.book) c.args.self.now.session.book.lazy.line.cursor in
    let cells = cells_of c.args.self.now.session.book.grid in
    let less : nat_le 1000000 c.filled.result ≡ false = grind (arith, nat_tests, c.if-filled-ge-MAX_CELLS.false) in
    let small = sym less ∙ ap (nat_le 1000000) (c.filled.ensures ∙ sym (len-contents stands cells)) in
    less ∙ and_false (is_none (fin.get (contents_of stands cells) c.args.at)) ∙ ap (λ n. is_none (fin.get (contents_of stands cells) c.args.at) && n) small
