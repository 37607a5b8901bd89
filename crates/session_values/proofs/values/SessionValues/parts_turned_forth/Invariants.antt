use Rattle.std.proofs.Common.{drop}
use Rattle.kept_book.specs.Kept.{changes_of, line_of}
use Rattle.session_values.specs.Following.{words_in}
use Rattle.session_values.specs.internal.Way.{IsForthTo, IsLeftForth}
use Rattle.session_values.proofs.values.SessionValues.parts_turned_forth.Given as goal

-- the parts before this one were done again
abbrev pub invariant-parts : goal.invariant-parts
invariant-parts l = IsForthTo (line_of l.session.book) (words_in l.session) (changes_of l.parts) (changes_of (drop l.part-index l.parts)) l.fn.self.values l.self.values
    × IsLeftForth l.session (changes_of l.parts) (changes_of (drop l.part-index l.parts)) l.fn.self.values l.self.values
