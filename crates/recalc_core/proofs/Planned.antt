-- Orders of the same nodes in another order. Serves the order in which nodes are worked out.
use Rattle.std.proofs.Common.{◌≡◌, sym, subst, Bool, true, List}
use Rattle.dep_graph.specs.Needs.{Links}
use Rattle.dep_graph.specs.Nodes.{has}
use Rattle.dep_graph.specs.Walks.{IsOrdered}
use Rattle.dep_graph.specs.declared.node.Node.{Node}

-- what is in order of some nodes is so of all lists that have the same
pub same_order : (links : Links) (these nodes order : List Node) → ((a : Node) → has a these ≡ has a nodes) → IsOrdered links these order → IsOrdered links nodes order
same_order links these nodes order same ordered = record {
  which = λ a. (
    (λ in_it. (subst (λ (t : Bool). t ≡ true) (same a) ((ordered.which a).0 in_it).0, ((ordered.which a).0 in_it).1)),
    (λ both. (ordered.which a).1 (subst (λ (t : Bool). t ≡ true) (sym (same a)) both.0, both.1)),
  );
  once = ordered.once;
  in_order = ordered.in_order;
}
