use Rattle.std.proofs.Common.{◌∙◌}
use Rattle.formula_parse.specs.internal.Progress.{frames_of}
use Rattle.formula_parse.proofs.OpenFrames.{settled-none, settled-stays}
use Rattle.formula_parse.proofs.frames.Frames.settle.Goals as goal

pub returns-in_default-joined : goal.returns-in_default-joined
returns-in_default-joined c =
    settled-stays c.args.level c.frames.reach c.in-Some.frame (frames_of c.frames.self) c.in-Some.ensures c.in_default-joined.ensures ∙ c.frames.invariant

pub returns : goal.returns
returns c = settled-none c.args.level c.frames.reach (frames_of c.frames.self) c.in_default.ensures ∙ c.frames.invariant
