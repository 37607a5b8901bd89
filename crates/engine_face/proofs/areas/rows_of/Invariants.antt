use Rattle.std.proofs.Common.{◌≡◌, map, take}
use Rattle.engine_face.specs.Areas.{place_row}
use Rattle.engine_face.proofs.areas.rows_of.Given as goal

-- the places gone by
abbrev pub invariant-places : goal.invariant-places
invariant-places l = l.rows.items ≡ map place_row (take l.at-index l.places)
