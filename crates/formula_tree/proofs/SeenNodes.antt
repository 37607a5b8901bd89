-- The terms of a plain call's arguments. Serves whatever walks through plain trees.
use Rattle.std.proofs.Common.{◌≡◌, map}
use Rattle.formula_tree.specs.declared.reference.Corner.{Corner}
use Rattle.formula_tree.specs.declared.plain.Plain.TheFolds.{fold_out-PlainList}
use Rattle.formula_tree.specs.declared.plain.PlainList.{PlainList}
use Rattle.formula_tree.specs.Arguments.{arguments}
use Rattle.formula_tree.specs.Seen.{seen_node, seen_arguments, seen, seen_list}
use Rattle.formula_tree.specs.Term.{Term, Terms, terms_of}

pub seen_list-arguments : (l : PlainList) → seen_list l ≡ terms_of (map seen (arguments l))
seen_list-arguments l = fold_out-PlainList (Term Corner) (Terms Corner) seen_node seen_arguments l
