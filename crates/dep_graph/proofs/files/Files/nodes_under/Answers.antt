use Rattle.std.proofs.Common.{◌∙◌, ap, sym, take, ◌++◌}
use Rattle.std.specs.List.{filter_map}
use Rattle.std.specs.Option.{option_to_list}
use Rattle.block_index.proofs.Tests.{filter_map_more}
use Rattle.dep_graph.specs.internal.Files.{owner_of}
use Rattle.dep_graph.proofs.files.Files.nodes_under.Goals as goal

pub filed-preserved : goal.filed-preserved
filed-preserved c =
    c.in_ok-push_some.ensures
    ∙ (ap (λ xs. xs ++ option_to_list c.owner.result) c.filed.invariant
    ∙ (ap (λ r. filter_map (owner_of c.args.self.now) (take c.filed.filing-index c.filed-filing-items.result.now) ++ option_to_list r) c.owner.ensures
    ∙ sym (filter_map_more (owner_of c.args.self.now) c.filed-filing-items.result.now c.filed.filing-index _ c.filed-test.true)))
