use Rattle.std.proofs.Common.{◌≡◌, ◌∙◌, sym, ap, subst, Some, None, option_map}
use Rattle.std.specs.Option.{option_copied}
use Rattle.std.specs.FinMap as fin
use Rattle.book_values.specs.Book.{formula}
use Rattle.book_values.specs.Workbook.{content_tree}
use Rattle.grid_store.specs.Grid.{cells_of}
use Rattle.kept_book.specs.Copied.{IsPlain}
use Rattle.kept_book.specs.Formula.{tree_at}
use Rattle.kept_book.specs.Frame.{numbered_at}
use Rattle.kept_book.specs.Kept.{at_of, workbook}
use Rattle.kept_book.specs.Stored.{content_of}
use Rattle.kept_book.proofs.Contents.{get-contents}
use Rattle.kept_book.proofs.SameBooks.{plain-cell, plain-content, tree-held}
use Rattle.kept_book.proofs.book.Book.copied_item.Goals as goal

pub returns-in-Some-clause-copied : goal.returns-in-Some-clause-copied
returns-in-Some-clause-copied c =
    let t = tree_at c.args.at c.in-Some.tree in
    let held = tree-held (fin.get (workbook c.args.self.now).cells c.args.at) t (sym (ap (option_map (tree_at c.args.at)) c.in-Some.is) ∙ c.in_ok-tree.ensures.tree) in
    c.requires.held c.args.at (formula t) held

pub returns-in_ok-copied-in-Some-cell-clause-content : goal.returns-in_ok-copied-in-Some-cell-clause-content
returns-in_ok-copied-in-Some-cell-clause-content c =
    let one = numbered_at (at_of c.args.self.now) c.args.self.now.lazy.line.cursor in
    let cells = cells_of c.args.self.now.grid in
    let x = c.in-Some-cell.cell.now in
    let here : fin.get cells c.args.at ≡ Some x = sym (ap (λ f. fin.get f.cells c.args.at) c.formula.ensures.same.frame) ∙ sym c.cell.ensures ∙ ap option_copied c.in-Some-cell.is in
    let content = get-contents one cells c.args.at ∙ ap (option_map (content_of one)) here in
    let none = sym (ap (option_map (tree_at c.args.at)) c.in_default.is) ∙ c.in_ok-tree.ensures.tree ∙ ap content_tree content in
    ap (λ v. Some (content_of (λ n. None) v)) c.in_ok-copied-in-Some-cell.ensures ∙ ap Some (plain-content (λ n. None) one x (plain-cell one x none)) ∙ sym content

pub returns-in_ok-copied-in-Some-cell-clause-copied : goal.returns-in_ok-copied-in-Some-cell-clause-copied
returns-in_ok-copied-in-Some-cell-clause-copied c =
    let one = numbered_at (at_of c.args.self.now) c.args.self.now.lazy.line.cursor in
    let cells = cells_of c.args.self.now.grid in
    let x = c.in-Some-cell.cell.now in
    let here : fin.get cells c.args.at ≡ Some x = sym (ap (λ f. fin.get f.cells c.args.at) c.formula.ensures.same.frame) ∙ sym c.cell.ensures ∙ ap option_copied c.in-Some-cell.is in
    let content = get-contents one cells c.args.at ∙ ap (option_map (content_of one)) here in
    let none = sym (ap (option_map (tree_at c.args.at)) c.in_default.is) ∙ c.in_ok-tree.ensures.tree ∙ ap content_tree content in
    ((c.requires.held c.args.at (content_of one x) content).0, subst IsPlain (sym c.in_ok-copied-in-Some-cell.ensures) (plain-cell one x none))

pub returns-in-None-clause-content : goal.returns-in-None-clause-content
returns-in-None-clause-content c =
    let one = numbered_at (at_of c.args.self.now) c.args.self.now.lazy.line.cursor in
    let cells = cells_of c.args.self.now.grid in
    let nothing : fin.get cells c.args.at ≡ None = sym (ap (λ f. fin.get f.cells c.args.at) c.formula.ensures.same.frame) ∙ sym c.cell.ensures ∙ ap option_copied c.in-None.is in
    sym (get-contents one cells c.args.at ∙ ap (option_map (content_of one)) nothing)
