-- What a tree of the program stands for: its term, without boxes.
use Rattle.formula_tree.specs.Term.{Term, number, text, truth, fault, cell, area, name, prefix, percent, binary, call, paren, Terms, terms_of}
use Rattle.formula_tree.specs.Whole.{whole_term}
use Rattle.formula_tree.specs.declared.reference.Corner.{Corner}
use Rattle.formula_tree.specs.declared.plain.Plain.{Plain}
use Rattle.formula_tree.specs.declared.plain.PlainList.{PlainList}
use Rattle.formula_tree.specs.declared.plain.Plain.TheOpen.{Plain-F, PlainList-F}
use Rattle.formula_tree.specs.declared.plain.Plain.TheFolds.{fold-Plain, fold-PlainList}

-- one node, where its parts are terms already
abbrev pub seen_node : Plain-F (Term Corner) (Terms Corner) → Term Corner
seen_node (Plain-F.Number m) = number m
seen_node (Plain-F.Text w) = text w
seen_node (Plain-F.Truth b) = truth b
seen_node (Plain-F.Fault f) = fault f
seen_node (Plain-F.Cell c) = cell c
seen_node (Plain-F.Area c d) = area c d
seen_node (Plain-F.Whole w f g) = whole_term w f g
seen_node (Plain-F.Name w) = name w
seen_node (Plain-F.Prefix s t) = prefix s t.value
seen_node (Plain-F.Percent t) = percent t.value
seen_node (Plain-F.Binary o l r) = binary o l.value r.value
seen_node (Plain-F.Call w l) = call w l
seen_node (Plain-F.Paren t) = paren t.value

-- the arguments of a call, where they are terms already
abbrev pub seen_arguments : PlainList-F (Term Corner) (Terms Corner) → Terms Corner
seen_arguments l = terms_of l.list.items

-- the term of a tree
abbrev pub seen : Plain → Term Corner
seen = fold-Plain (Term Corner) (Terms Corner) seen_node seen_arguments

-- the terms of a call's arguments
abbrev pub seen_list : PlainList → Terms Corner
seen_list = fold-PlainList (Term Corner) (Terms Corner) seen_node seen_arguments
