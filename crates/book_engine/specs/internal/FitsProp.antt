-- That parts fit has one proof at most.
use Rattle.session_questions.specs.Seen.{Fits, state_of}
use Rattle.session_questions.specs.Parts.{Parts}
use Rattle.book_engine.specs.internal.Props.{is_sound-prop}

pub fits-prop : (p : Parts) → IsProp (Fits p)
fits-prop p = is_sound-prop (state_of p)
