-- The terms of shared trees. Serves whatever walks through them.
use Rattle.std.proofs.Common.{◌≡◌, ◌∙◌, sym, ap, refl, ℕ, suc, List, [], ◌∷◌, map, length, Global}
use Rattle.std.specs.declared.rc.Rc.{Rc}
use Rattle.std.proofs.lemmas.Simd.{map-map}
use Rattle.formula_tree.specs.Arguments.{trees}
use Rattle.formula_tree.specs.Relative.{relative_node, relative_arguments, relative, relative_list}
use Rattle.formula_tree.specs.Term.{Term, binary, call, paren, Terms, no_terms, term, terms_of}
use Rattle.formula_tree.specs.declared.node.Node.{Node}
use Rattle.formula_tree.specs.declared.node.Node.TheFolds.{fold-roll-Node, fold_out-TreeList}
use Rattle.formula_tree.specs.declared.node.Node.TheOpen.{Node-F}
use Rattle.formula_tree.specs.declared.node.Node.TheVariants as nodes
use Rattle.formula_tree.specs.declared.node.Node.TheVariants.{rolls-Binary, rolls-Call, rolls-Paren}
use Rattle.formula_tree.specs.declared.node.TreeList.{TreeList}
use Rattle.formula_tree.specs.declared.operator.Op.{Op}
use Rattle.formula_tree.specs.declared.reference.Ref.{Ref}

-- the terms of trees that are shared
abbrev pub relatives : List (Rc Node Global) → Terms Ref
relatives ts = terms_of (map (λ t. relative t.value) ts)

pub relative-Binary : (o : Op) (l r : Rc Node Global) → relative (nodes.Binary o l r) ≡ binary o (relative l.value) (relative r.value)
relative-Binary o l r = ap relative (sym (rolls-Binary o l r)) ∙ fold-roll-Node (Term Ref) (Terms Ref) relative_node relative_arguments (Node-F.Binary o l r)

pub relative-Call : (w : List ℕ) (l : TreeList) → relative (nodes.Call w l) ≡ call w (relative_list l)
relative-Call w l = ap relative (sym (rolls-Call w l)) ∙ fold-roll-Node (Term Ref) (Terms Ref) relative_node relative_arguments (Node-F.Call w l)

pub relative-Paren : (t : Rc Node Global) → relative (nodes.Paren t) ≡ paren (relative t.value)
relative-Paren t = ap relative (sym (rolls-Paren t)) ∙ fold-roll-Node (Term Ref) (Terms Ref) relative_node relative_arguments (Node-F.Paren t)

pub relative_list-trees : (l : TreeList) → relative_list l ≡ relatives (trees l)
relative_list-trees l = fold_out-TreeList (Term Ref) (Terms Ref) relative_node relative_arguments l ∙ ap terms_of (map-map _ _ (trees l))

count : Terms Ref → ℕ
count no_terms = 0
count (term t ts) = suc (count ts)

count-relatives : (ts : List (Rc Node Global)) → count (relatives ts) ≡ length ts
unfolding count
count-relatives [] = refl
count-relatives (t ∷ ts) = ap (λ n. suc n) (count-relatives ts)

-- equal arguments are as many
pub relatives-long : (ts us : List (Rc Node Global)) → relatives ts ≡ relatives us → length ts ≡ length us
relatives-long ts us e = sym (count-relatives ts) ∙ ap count e ∙ count-relatives us

-- the terms of the arguments that a list has
pub relatives-listed : (l : TreeList) (ts : List (Rc Node Global)) → ts ≡ trees l → relatives ts ≡ relative_list l
relatives-listed l ts e = ap relatives e ∙ sym (relative_list-trees l)
