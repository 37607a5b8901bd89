use Rattle.std.proofs.Common.{rules, w32}
use mir.Val.{SFits}
use Rattle.std.proofs.lemmas.Int.{to_z-of_z}
use Rattle.book_engine.specs.Engine.{StandsFor}
use Rattle.session_questions.specs.Seen.{with_rules}
use Rattle.session_questions.specs.Seen.{clip_of, state_of, with_clipboard}
use Rattle.book_engine.proofs.KeptLine.{line_kept}
use Rattle.session_questions.proofs.ShownCells.{answered_as, answered_on}
use Rattle.book_engine.proofs.engine.Engine.values.Goals as goal

pub returns-clause-answered : goal.returns-clause-answered
unfolding StandsFor
returns-clause-answered g c = λ d stands.
    let e = c.args.self.now in
    let day : SFits w32 e.day = search rules in
    let customs = g.C.Customs.customs e.customs in
    answered_as c.args.area (with_rules customs e.day (with_clipboard (clip_of e.waiting.clip) (state_of e.parts))) d stands c.values.result
    (answered_on c.args.area customs (state_of e.parts) _ e.day (to_z-of_z w32 e.day day) c.values.result c.values.ensures.answered)

pub returns-clause-line : goal.returns-clause-line
returns-clause-line g c = line_kept c.args.self.now.parts.session.book.lazy.line c.values.new.parts.session.book.lazy.line c.values.ensures.line
