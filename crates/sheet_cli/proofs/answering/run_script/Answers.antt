-- Where there is no memory for a session, nothing was printed.
use Rattle.std.proofs.Common.{ap, sym, subst, w32, ℤ}
use Rattle.std.proofs.lemmas.Int.{to_z-of_z}
use Rattle.book_engine.specs.Engine.{StandsFor}
use Rattle.command_words.specs.Words.{seen}
use Rattle.book_model.specs.Given.{given_sheets, session_given}
use Rattle.sheet_cli.specs.Run.{script_outcome}
use Rattle.sheet_cli.specs.internal.Ends.{Printed}
use Rattle.sheet_cli.proofs.Outcomes.{no_memory, part-none}
use Rattle.sheet_cli.proofs.answering.run_script.Goals as goal

pub returns-in_err-session-clause-printed : goal.returns-in_err-session-clause-printed
returns-in_err-session-clause-printed g c =
    let o = script_outcome (g.C.Customs.customs c.args.registry) c.args.day (seen c.args.said.now) (given_sheets c.args.sheets.items) c.args.script.now in
    let old = g.O.Sink.taken c.args.out.now in
    no_memory o old old c.from_residual.result c.from_residual.ensures.1 (part-none old o.0)

pub returns-clause-printed : goal.returns-clause-printed
returns-clause-printed g c =
    let customs = g.C.Customs.customs c.args.registry in
    let limit = c.args.said.now.undo_limit in
    let old = g.O.Sink.taken c.args.out.now in
    let new = g.O.Sink.taken c.run_records.new.out in
    subst (λ sheets. Printed (script_outcome customs c.args.day (seen c.args.said.now) sheets c.args.script.now) old new c.run_records.result) (ap given_sheets c.deref.ensures.value)
    (c.run_records.ensures.printed (session_given limit customs c.args.day (given_sheets c.deref.result.now))
    (subst (λ session. StandsFor g.C.Customs.customs session.engine (session_given limit customs c.args.day (given_sheets c.deref.result.now))) (sym c.deref_mut.ensures.value)
    (subst (λ (n : ℤ). StandsFor g.C.Customs.customs c.in_ok-session.session.value.engine (session_given limit customs n (given_sheets c.deref.result.now))) (to_z-of_z w32 c.args.day c.ranges.day) c.in_ok-session.ensures)))
