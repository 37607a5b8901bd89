-- Several changes, one after the other. Source: this project's own.
use Rattle.std.specs.Prelude.{◌≡◌, List, [], ◌∷◌}
use Rattle.kept_book.specs.Change.{Change, Joins, back, forth}
use Rattle.kept_book.specs.Frame.{Frame, Line, Words}

-- changes lead from one frame to another
abbrev pub Leads : Line → Words → List Change → Frame → Frame → Type 0
Leads line words [] f g = f ≡ g
Leads line words (c ∷ cs) f g = (h : Frame) × Joins line words c f h × Leads line words cs h g

-- the frame before all changes, the last one taken back first
abbrev pub back_all : Line → List Change → Frame → Frame
back_all line [] f = f
back_all line (c ∷ cs) f = back line c (back_all line cs f)

-- the frame after all changes
abbrev pub forth_all : Line → List Change → Frame → Frame
forth_all line [] f = f
forth_all line (c ∷ cs) f = forth_all line cs (forth line c f)
