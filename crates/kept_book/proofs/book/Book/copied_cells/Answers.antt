use Rattle.std.proofs.Common.{◌∙◌, sym, ap, subst, map, option_map}
use Rattle.std.specs.Prelude.{IfSome}
use Rattle.std.specs.List.{All, filter_map}
use Rattle.std.specs.FinMap as fin
use Rattle.std.proofs.lemmas.List.{take_all}
use Rattle.std.proofs.lemmas.List.Elements.{All-push}
use Rattle.clip_board.specs.Clips.{items_of}
use Rattle.grid_store.specs.Grid.{cells_of}
use Rattle.kept_book.specs.Copied.{IsCopied, content_copied, entry_copied}
use Rattle.kept_book.specs.Frame.{numbered_at}
use Rattle.kept_book.specs.Kept.{at_of}
use Rattle.kept_book.proofs.Contents.{get-contents}
use Rattle.kept_book.proofs.CopiedCells.{copied-block, copied-more, copied-none, held_at}
use Rattle.kept_book.proofs.SameBooks.{same-held, same-standing, same-then, same-workbook}
use Rattle.kept_book.proofs.book.Book.copied_cells.Goals.{in-Some+in_ok-push, in_default}
use Rattle.kept_book.proofs.book.Book.copied_cells.Goals as goal

pub copied_item-requires-clause-held : goal.copied_item-requires-clause-held
copied_item-requires-clause-held c = same-held c.args.self.now c.cells.self c.cells.invariant.same c.requires.stand c.requires.held

pub copied_item-requires-clause-stand : goal.copied_item-requires-clause-stand
copied_item-requires-clause-stand c = same-standing c.args.self.now c.cells.self c.cells.invariant.same c.requires.stand

pub cells-preserved : goal.cells-preserved
cells-preserved c =
    let stands = numbered_at (at_of c.args.self.now) c.args.self.now.lazy.line.cursor in
    let cells = cells_of c.args.self.now.grid in
    let items = c.items-at-items.result.now in
    let i = c.cells.at-index in
    let e = c.cells-item.result in
    let old = items_of c.cells.list in
    let holds = c.in_ok-item.ensures.content ∙ ap (λ b. fin.get b.cells e.0) (same-workbook c.args.self.now c.cells.self c.cells.invariant.same c.requires.stand) ∙ get-contents stands cells e.0 in
    let same = same-then c.args.self.now c.cells.self c.copied_item.new.self c.cells.invariant.same c.copied_item.ensures.same in
    elim c.match-branch-4.branch [
      | in-Some+in_ok-push w ↦
          let push = ap items_of w.list-is ∙ w.in_ok-push.ensures.ok in
          let one = subst (λ r. IfSome r (λ x. IsCopied (e.0, x))) w.in-Some.is c.in_ok-item.ensures.copied in
          record {
            held = copied-more stands cells items i e old (items_of c.match-branch-4.list) w.in-Some.item c.cells-test.true c.cells-item.is c.cells.invariant.held push
                (sym (ap (option_map (content_copied e.0)) w.in-Some.is) ∙ holds);
            copied = subst (All IsCopied) (sym push) (All-push IsCopied old (e.0, w.in-Some.item) c.cells.invariant.copied one);
            same = same;
          }
      | in_default w ↦ record {
        held = ap (λ l. map entry_copied (items_of l)) w.list-is
            ∙ copied-none stands cells items i e old c.cells-test.true c.cells-item.is c.cells.invariant.held (sym (ap (option_map (content_copied e.0)) w.in_default.is) ∙ holds);
        copied = subst (λ l. All IsCopied (items_of l)) (sym w.list-is) c.cells.invariant.copied;
        same = same;
      }
    ]

pub returns-clause-contents : goal.returns-clause-contents
returns-clause-contents c =
    let stands = numbered_at (at_of c.args.self.now) c.args.self.now.lazy.line.cursor in
    let cells = cells_of c.args.self.now.grid in
    let items = c.items-at-items.result.now in
    let listed = c.items-at-items.ensures ∙ c.in_ok-filled.ensures in
    ap (λ l. fin.from_entries l) (c.cells.invariant.held ∙ ap (filter_map (held_at stands cells)) (take_all c.cells.at-index items c.cells-test.false ∙ listed))
    ∙ copied-block stands cells c.args.area
