use Rattle.std.proofs.Common.{◌≡◌, ◌∙◌, sym, ap, subst, ℕ, Option, Some}
use Rattle.std.specs.Prelude.{unwrap_or}
use Rattle.cell_addr.specs.Text.{folded}
use Rattle.cell_addr.specs.declared.place.TheConstants.{NO_SHEET}
use Rattle.name_table.proofs.WordNumbers.{number-spelled}
use Rattle.book_values.specs.Names.{key_of}
use Rattle.book_values.specs.Workbook as book
use Rattle.dep_graph.specs.declared.node.Node.TheVariants as node
use Rattle.recalc_core.specs.Nodes.{name_at, node_at}
use Rattle.kept_steps.proofs.GivenNodes.{scope-back}
use Rattle.session_values.specs.Following.{words_in}
use Rattle.session_values.proofs.naming.node_of.Goals as goal

pub returns : goal.returns
returns c =
    let s = c.args.session.now in
    let scope = c.args.scope in
    let word = c.args.word.now in
    let n = c.in_ok-word.word in
    subst (λ (number : ℕ). node_at (words_in s) (node.Name number n) ≡ Some (book.name (key_of scope word))) (sym c.unwrap_or.ensures)
    (ap (name_at (unwrap_or scope NO_SHEET)) (number-spelled (words_in s) word n s.book.names.words.proper (sym c.known.ensures.number ∙ c.in_ok-word.was))
    ∙ ap (λ (own : Option ℕ). Some (book.name (record { scope = own; word = folded word }))) (scope-back scope c.requires))
