use Rattle.std.proofs.Common.{◌∙◌, sym, ap, subst, option_map}
use Rattle.formula_tree.proofs.SameTexts.{proper-inside}
use Rattle.formula_tree.specs.Relative.{relative}
use Rattle.formula_tree.specs.StandsFor.{ArePlacesInside, at_home}
use Rattle.book_values.specs.Names.{key_of}
use Rattle.kept_book.specs.Formula.{tree_in_scope}
use Rattle.session_questions.proofs.listing.name_text.Goals as goal

pub print-requires : goal.print-requires
print-requires c =
    let t = tree_in_scope c.args.scope c.in-Some.tree in
    let named = sym (sym (ap (option_map (tree_in_scope c.args.scope)) c.in-Some.is) ∙ c.in_ok-tree.ensures.tree) in
    subst (λ h. ArePlacesInside (at_home h (relative c.in-Some.tree.value))) (sym c.home_in.ensures) (proper-inside t (c.requires.book.names (key_of c.args.scope c.args.name.now) t named).1.0)
