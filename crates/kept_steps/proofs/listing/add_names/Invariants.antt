use Rattle.std.proofs.Common.{take}
use Rattle.std.specs.List.{flat_map}
use Rattle.std.specs.Option.{option_to_list}
use Rattle.kept_steps.specs.internal.Listed.{Adds, id_on}
use Rattle.kept_steps.proofs.listing.add_names.Given as goal

abbrev pub invariant-loop-change : goal.invariant-loop-change
invariant-loop-change l = Adds (flat_map (λ c. option_to_list (id_on l.side c)) (take l.change-index l.changes)) l.fn.ids l.ids
