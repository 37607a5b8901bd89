-- What a hasher is fed of a node.
use Rattle.std.specs.Prelude.{◌≡◌, ◌==◌, ℕ, true, List, ◌++◌, refl}
use Rattle.std.specs.Hash as fed
use Rattle.std.specs.Cmp.{IsEquivalence, decided}
use Rattle.std.proofs.Common.{ap, eqb-true, subst}
use Rattle.std.proofs.lemmas.Bool.{and_from, and_parts, eq-eqb, false≢true}
use Rattle.cell_addr.proofs.SamePlaces.{same_block-decides, same_place-decides, same_whole-decides}
use Rattle.dep_graph.specs.Nodes.{same_node}
use Rattle.dep_graph.specs.declared.node.Node.{Node}
use Rattle.dep_graph.specs.declared.node.Node.TheVariants.{Cell, Name, Range, Whole}
use Rattle.dep_graph.specs.internal.Wholes.{tag_of}

abbrev pub fed_node : Node → List (List ℕ)
fed_node (Cell p) = fed.u8 0 ++ (fed.u32 p.sheet ++ (fed.u32 p.row ++ fed.u32 p.col))
fed_node (Name scope word) = fed.u8 1 ++ (fed.u32 scope ++ fed.u64 word)
fed_node (Range b) = fed.u8 2 ++ (fed.u32 b.sheet ++ (fed.u32 b.top ++ (fed.u32 b.left ++ (fed.u32 b.bottom ++ fed.u32 b.right))))
fed_node (Whole w) = fed.u8 (tag_of w.axis) ++ (fed.u32 w.sheet ++ (fed.u32 w.first ++ fed.u32 w.last))

-- the test of nodes decides whether they are equal
pub same_nodes : (a b : Node) → same_node a b ≡ true → a ≡ b
same_nodes (Cell p) (Cell q) h = ap Cell ((same_place-decides p q).0 h)
same_nodes (Cell p) (Name scope word) h = absurd (false≢true h)
same_nodes (Cell p) (Range c) h = absurd (false≢true h)
same_nodes (Cell p) (Whole w) h = absurd (false≢true h)
same_nodes (Name scope word) (Cell q) h = absurd (false≢true h)
same_nodes (Name scope word) (Name other_scope other_word) h =
    let (s, w) = and_parts (scope == other_scope) (word == other_word) h in
    let e1 = eqb-true scope other_scope s in
    let e2 = eqb-true word other_word w in
    λ i. Name (e1 i) (e2 i)
same_nodes (Name scope word) (Range c) h = absurd (false≢true h)
same_nodes (Name scope word) (Whole w) h = absurd (false≢true h)
same_nodes (Range b) (Cell q) h = absurd (false≢true h)
same_nodes (Range b) (Name scope word) h = absurd (false≢true h)
same_nodes (Range b) (Range c) h = ap Range ((same_block-decides b c).0 h)
same_nodes (Range b) (Whole w) h = absurd (false≢true h)
same_nodes (Whole v) (Cell q) h = absurd (false≢true h)
same_nodes (Whole v) (Name scope word) h = absurd (false≢true h)
same_nodes (Whole v) (Range c) h = absurd (false≢true h)
same_nodes (Whole v) (Whole w) h = ap Whole ((same_whole-decides v w).0 h)

pub same_node_fed : (a b : Node) → same_node a b ≡ true → fed_node a ≡ fed_node b
same_node_fed a b h = ap fed_node (same_nodes a b h)

-- a node is the same as itself
pub own_node : (a : Node) → same_node a a ≡ true
own_node (Cell p) = (same_place-decides p p).1 refl
own_node (Name scope word) = and_from (scope == scope) (word == word) (eq-eqb scope scope refl) (eq-eqb word word refl)
own_node (Range b) = (same_block-decides b b).1 refl
own_node (Whole w) = (same_whole-decides w w).1 refl

pub nodes_are_alike : IsEquivalence same_node
nodes_are_alike = decided same_node (λ a b. (same_nodes a b, λ e. subst (λ c. same_node a c ≡ true) e (own_node a)))
