-- The line of an engine over reads. Serves the engine's calls.
use Rattle.std.proofs.Common.{◌≡◌, ◌∙◌, sym, ap}
use Rattle.shift_line.specs.Track.{Track, with_spare}

-- what stays, stays but for its room
pub line_kept : (old new : Track) → new ≡ old → new ≡ with_spare new.spare old
line_kept old new same = same ∙ ap (λ (t : Track). with_spare t.spare old) (sym same)
