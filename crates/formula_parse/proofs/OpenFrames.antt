-- Where no more frames end. Serves the settling of frames.
use Rattle.std.proofs.Common.{◌≡◌, refl, ℕ, List, [], ◌∷◌, Some, None}
use Rattle.std.specs.List.{slice_get}
use Rattle.formula_parse.specs.declared.frames.Frame.{Frame}
use Rattle.formula_parse.specs.internal.Progress.{joined, settled}

pub settled-none : (level deepest : ℕ) (frames : List Frame) → None ≡ slice_get frames 0 → ◌≡◌ {A = ℕ × List Frame} (deepest, frames) (settled level deepest frames)
settled-none level deepest [] e = refl
settled-none level deepest (frame ∷ frames) e = cc

pub settled-stays : (level deepest : ℕ) (frame : Frame) (frames : List Frame) → Some frame ≡ slice_get frames 0 → None ≡ joined level deepest frame
    → ◌≡◌ {A = ℕ × List Frame} (deepest, frames) (settled level deepest frames)
settled-stays level deepest frame [] e f = cc
settled-stays level deepest frame (first ∷ frames) e f =
    let same : frame ≡ first = cc in
    let none : joined level deepest first ≡ None = cc in
    rw none refl
