use Rattle.std.proofs.Common.{drop}
use Rattle.std.specs.BTreeSet.{btree_set_len, contains}
use Rattle.std.specs.List.{filter_map}
use Rattle.cell_addr.specs.Order.{place_cmp}
use Rattle.session_operations.specs.internal.Pasting.{ArePlaces, place_pasted}
use Rattle.session_operations.proofs.copying.places_of.Given as goal

abbrev pub invariant-loop-index : goal.invariant-loop-index
invariant-loop-index l = ArePlaces (filter_map (place_pasted l.area l.at) (drop l.index l.cells)) (contains place_cmp l.places) (btree_set_len l.places)
