use Rattle.std.proofs.Common.{◌≡◌, length}
use Rattle.formula_parse.specs.internal.Progress.{frames_of, settled}
use Rattle.formula_parse.proofs.frames.Frames.settle.Given as goal

-- what is left to settle is settled as all was
abbrev pub invariant-frames : goal.invariant-frames
invariant-frames l = settled l.level l.reach (frames_of l.self) ≡ settled l.level l.deepest (frames_of l.fn.self)

abbrev pub decreases-frames : goal.decreases-frames
decreases-frames l = length (frames_of l.self)
