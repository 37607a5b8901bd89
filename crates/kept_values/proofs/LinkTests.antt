-- Links of a workbook, as tests. Serves what links anew.
use Rattle.std.proofs.Common.{◌≡◌, ℕ, List}
use Rattle.book_values.specs.Workbook.{Workbook}
use Rattle.dep_graph.specs.Needs.{Links}
use Rattle.dep_graph.specs.Nodes.{has}
use Rattle.dep_graph.specs.declared.node.Node.{Node}
use Rattle.recalc_core.specs.Links.{AreLinksOf}
use Rattle.kept_values.specs.Values.{is_link_at}
use Rattle.kept_values.proofs.Following.{at_holds, at_tested, same_tests}

pub all_tested : (b : Workbook) (words : List (List ℕ)) (links : Links) → AreLinksOf b words links → (a c : Node) → has c (links a) ≡ is_link_at b words a c
all_tested b words links are a c =
    let both = are.exact a c in
    same_tests (has c (links a)) (is_link_at b words a c) (λ h. at_tested b words a c (both.0 h)) (λ h. both.1 (at_holds b words a c h))
