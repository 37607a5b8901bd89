-- A session can begin with one empty sheet; for want of memory nothing was printed.
use Rattle.std.proofs.Common.{◌∙◌, ap, sym, subst, w32, ℤ, List, [], ◌∷◌}
use Rattle.std.proofs.lemmas.Int.{to_z-of_z}
use Rattle.book_engine.specs.Engine.{StandsFor}
use Rattle.book_model.specs.Given.{given_sheets, session_given}
use Rattle.script_lang.specs.declared.commands.Command.{Command}
use Rattle.command_words.specs.Words.{seen}
use Rattle.run_inputs.specs.Opening.{empty_sheet}
use Rattle.sheet_cli.specs.Answering.{answers_from, summary_outcome}
use Rattle.sheet_cli.specs.Run.{generated_outcome}
use Rattle.sheet_cli.specs.internal.Ends.{Printed}
use Rattle.run_inputs.proofs.SheetsRead.{empty-can}
use Rattle.sheet_cli.proofs.Outcomes.{no_memory, part-none}
use Rattle.sheet_cli.proofs.answering.run_generated.Goals as goal

pub returns-in_err-sheets-clause-printed : goal.returns-in_err-sheets-clause-printed
returns-in_err-sheets-clause-printed g c =
    let all = generated_outcome (g.C.Customs.customs c.args.registry) c.args.day (seen c.args.said.now) c.args.size in
    let old = g.O.Sink.taken c.args.out.now in
    no_memory all old old c.from_residual-in_err-sheets.result c.from_residual-in_err-sheets.ensures.1 (part-none old all.0)

pub new-requires-clause-can : goal.new-requires-clause-can
new-requires-clause-can g c = rw (ap given_sheets c.deref.ensures.value ∙ c.in_ok-sheets.ensures) empty-can

pub returns-in_err-session-clause-printed : goal.returns-in_err-session-clause-printed
returns-in_err-session-clause-printed g c =
    let all = generated_outcome (g.C.Customs.customs c.args.registry) c.args.day (seen c.args.said.now) c.args.size in
    let old = g.O.Sink.taken c.args.out.now in
    no_memory all old old c.from_residual-in_err-session.result c.from_residual-in_err-session.ensures.1 (part-none old all.0)

pub returns-clause-printed : goal.returns-clause-printed
returns-clause-printed g c =
    let customs = g.C.Customs.customs c.args.registry in
    let limit = c.args.said.now.undo_limit in
    let old = g.O.Sink.taken c.args.out.now in
    let new = g.O.Sink.taken c.run_commands.new.out in
    subst (λ (commands : List Command). Printed (summary_outcome c.args.said.now.strict (answers_from (session_given limit customs c.args.day (empty_sheet ∷ [])) commands)) old new c.run_commands.result) (c.deref-2.ensures.value ∙ c.in_ok-commands.ensures.commands)
    (subst (λ sheets. Printed (summary_outcome c.args.said.now.strict (answers_from (session_given limit customs c.args.day sheets) c.deref-2.result.now)) old new c.run_commands.result) (ap given_sheets c.deref.ensures.value ∙ c.in_ok-sheets.ensures)
    (c.run_commands.ensures.printed (session_given limit customs c.args.day (given_sheets c.deref.result.now))
    (subst (λ session. StandsFor g.C.Customs.customs session.engine (session_given limit customs c.args.day (given_sheets c.deref.result.now))) (sym c.deref_mut.ensures.value)
    (subst (λ (n : ℤ). StandsFor g.C.Customs.customs c.in_ok-session.session.value.engine (session_given limit customs n (given_sheets c.deref.result.now))) (to_z-of_z w32 c.args.day c.ranges.day) c.in_ok-session.ensures))))
