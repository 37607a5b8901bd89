use Rattle.std.proofs.Common.{◌≡◌, ◌∙◌, sym, ap, refl, Bool, true, false, cond, not, None, rules}
use Rattle.std.specs.Map.{lookup}
use Rattle.std.proofs.lemmas.Map.Entries.{lookup-filter-keys}
use Rattle.std.proofs.lemmas.Map.Made.{filter_same_pairs}
use Rattle.dep_graph.specs.Nodes.{same_node}
use Rattle.dep_graph.specs.internal.Hashed.{same_nodes}
use Rattle.recalc_core.specs.internal.KeptTables.{is_of_scope}
use Rattle.recalc_core.proofs.shifting.drop_scope.Goals as goal

turned : {X : Type 0} (t : Bool) (x y : X) → cond (not t) x y ≡ cond t y x
turned true x y = refl
turned false x y = refl

pub returns : goal.returns
returns c = λ a.
    let scope = c.args.scope in
    let names = c.args.names.now in
    ap (lookup (same_node a)) (filter_same_pairs _ (λ e. not (is_of_scope scope e.0)) _ (λ k v b w g call. search rules) _ _ c.retain.ensures.filtered)
    ∙ lookup-filter-keys (same_node a) (λ k. not (is_of_scope scope k)) (not (is_of_scope scope a)) (λ k same. ap (λ n. not (is_of_scope scope n)) (sym (same_nodes a k same))) names.entries
    ∙ turned (is_of_scope scope a) (lookup (same_node a) names.entries) None
