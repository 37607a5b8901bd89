use Rattle.std.proofs.Common.{◌≡◌, None, drop}
use Rattle.session_questions.specs.internal.Areas.{area_over}
use Rattle.session_questions.proofs.areas.area_over.Given as goal

-- with the places to come it is the block over all
abbrev pub invariant-places : goal.invariant-places
invariant-places l = area_over l.area (drop l.at-index l.places) ≡ area_over None l.places
