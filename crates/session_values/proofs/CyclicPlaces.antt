-- Which places are on a cycle, by links that are up to date. Serves the cells on a cycle.
use Rattle.std.proofs.Common.{◌≡◌, ◌∙◌, sym, refl, ℕ, ℤ, List}
use Rattle.custom_fn.specs.declared.rule.Rule.{Rule}
use Rattle.value_network.specs.Network.{cyclic}
use Rattle.book_values.specs.Values.{network}
use Rattle.book_values.specs.Workbook.{Workbook, place}
use Rattle.dep_graph.specs.Needs.{Links}
use Rattle.dep_graph.specs.Nodes.{has}
use Rattle.dep_graph.specs.declared.node.Node.{Node}
use Rattle.dep_graph.specs.declared.node.Node.TheVariants.{Cell}
use Rattle.recalc_core.proofs.Bridge.{cycles_are_same}
use Rattle.recalc_core.specs.Links.{AreLinksOf}
use Rattle.recalc_core.specs.Nodes.{AreNumbered}
use Rattle.kept_values.proofs.Following.{at_holds, at_tested}
use Rattle.kept_values.specs.Cycles.{TellsCycles}
use Rattle.kept_values.specs.Values.{is_link_at}

-- where all nodes are linked to what their formulas are linked to, a place is on a cycle of links exactly where it is on one of needs
pub cycles_tell : (b : Workbook) (words : List (List ℕ)) (links : Links) (customs : List (List ℕ × Rule)) (today : ℤ) → AreNumbered words b.names → ((a c : Node) → has c (links a) ≡ is_link_at b words a c)
    → TellsCycles links (λ p. cyclic (network b customs today) (place p))
cycles_tell b words links customs today numbered linked p =
    let exact : AreLinksOf b words links = record { numbered = numbered; exact = λ a c. ((λ h. at_holds b words a c (sym (linked a c) ∙ h)), (λ h. linked a c ∙ at_tested b words a c h)) } in
    let same = cycles_are_same b words links customs today (Cell p) (place p) exact refl in
    (same.1, same.0)
