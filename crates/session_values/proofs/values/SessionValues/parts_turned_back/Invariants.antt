use Rattle.std.proofs.Common.{drop, take}
use Rattle.kept_book.specs.Kept.{changes_of, line_of}
use Rattle.session_values.specs.Following.{words_in}
use Rattle.session_values.specs.Parts.{MarksPartsBack}
use Rattle.session_values.specs.internal.Way.{IsBackTo}
use Rattle.session_values.proofs.values.SessionValues.parts_turned_back.Given as goal

-- the parts from this one on were taken back
abbrev pub invariant-loop-index : goal.invariant-loop-index
invariant-loop-index l = IsBackTo (line_of l.session.book) (words_in l.session) (changes_of l.parts) (changes_of (take l.index l.parts)) l.fn.self.values l.self.values
    × MarksPartsBack l.session (changes_of (drop l.index l.parts)) l.fn.self.values l.self.values
