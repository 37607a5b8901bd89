use Rattle.std.proofs.Common.{◌∙◌, ◌++◌, ap, map}
use Rattle.std.specs.FinMap as fin
use Rattle.std.specs.List.{filter_map, list_any}
use Rattle.formula_tree.specs.declared.link.Link.TheVariants as links
use Rattle.name_table.specs.Named.{words_of}
use Rattle.dep_graph.specs.Nodes.{has, items_of}
use Rattle.dep_graph.specs.declared.node.Node.TheVariants.{Cell}
use Rattle.book_model.specs.Answers.{cell_needing}
use Rattle.session_operations.specs.Following.{book_of, words_in}
use Rattle.session_operations.specs.Seen.{state_of}
use Rattle.session_questions.specs.internal.Links.{is_shown_at, shown_link}
use Rattle.session_operations.proofs.Following.{numbered_in}
use Rattle.session_questions.proofs.NeedingCells.{cell-mentions, cells-listed}
use Rattle.session_questions.proofs.NeedingNames.{among-listed}
use Rattle.session_questions.proofs.links.links_to.Goals as goal

pub returns-clause-links : goal.returns-clause-links
returns-clause-links c =
    let s = c.args.parts.now.session in
    let d = state_of c.args.parts.now in
    let at = c.args.at in
    let users = items_of c.in_ok-users.users in
    let mention = c.in_ok-users.ensures.users.0 in
    let cells = cells-listed at d.book.cells c.in_ok-cells.cells.keys c.push_cells.ensures.order
    (λ q. c.in_ok-cells.ensures q ∙ ap (has (Cell q)) c.items.ensures ∙ cell-mentions (book_of s) (words_in s) at users mention q) in
    let names = among-listed d.book.names d.book.cells (words_in s) s.book.names.words.proper (numbered_in s) at users c.in_ok-names.names.keys mention c.push_names.ensures.order
    (λ q. c.in_ok-names.ensures q ∙ ap (list_any (is_shown_at (words_of c.users.new.parts.session.book.names) q)) c.items-2.ensures ∙ ap (λ n. list_any (is_shown_at (words_of n) q) users) c.in_ok-users.ensures.reads.names) in
    c.in_ok-push_names.ensures.list
    ∙ ap (λ l. l ++ map shown_link c.in_ok-names.names.keys) (c.in_ok-push_cells.ensures.list ∙ ap (λ l. l ++ map links.Cell c.in_ok-cells.cells.keys) c.new-links.ensures.items ∙ cells)
    ∙ ap (λ l. filter_map (cell_needing at) (fin.entries d.book.cells) ++ l) names
