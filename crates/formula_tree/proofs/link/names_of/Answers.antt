use Rattle.std.proofs.Common.{sym, ap, ◌∙◌}
use Rattle.cell_addr.specs.Sheets.{same_name}
use Rattle.formula_tree.specs.Links.{once, names_in}
use Rattle.formula_tree.specs.Reference.{base_of, corner_at}
use Rattle.formula_tree.specs.Relative.{relative}
use Rattle.formula_tree.proofs.EachCorner.{names_in-each_corner}
use Rattle.formula_tree.proofs.link.names_of.Goals as goal

pub returns : goal.returns
returns c = λ home t e.
    rw (c.new-names.ensures.items, c.deref.ensures) at c.in_ok-add_names.ensures
    ∙ ap (once same_name) (sym (names_in-each_corner (corner_at (base_of home)) (relative c.args.tree.now.value)) ∙ ap names_in e)
