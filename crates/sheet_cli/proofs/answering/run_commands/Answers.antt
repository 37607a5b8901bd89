-- Each answer is counted. The summary of all, or the refusal that ends the run, is what is printed.
use Rattle.std.proofs.Common.{◌≡◌, ◌∙◌, sym, ap, refl, ◌+◌, suc, ◌∷◌, drop, add-one, drop-cons}
use Rattle.std.proofs.lemmas.List.{drop_all}
use Rattle.script_lang.specs.declared.commands.Command.{Command}
use Rattle.sheet_cli.specs.Answering.{answers_from, summary_outcome}
use Rattle.sheet_cli.proofs.Outcomes.{no_memory, part-none}
use Rattle.sheet_cli.proofs.Tallies.{tallied-all, tallied-ends, tallied-more, tallied-start}
use Rattle.sheet_cli.proofs.answering.run_commands.Goals as goal

pub commands-init : goal.commands-init
commands-init g c = record {
  leads = λ d stands. tallied-start g.C.Customs.customs c.args.strict c.args.session.now.engine d c.args.commands.now c.none-tally.result c.none-tally.ensures stands;
  taken = refl;
  faults = refl;
}

pub commands-preserved : goal.commands-preserved
commands-preserved g c =
    let i = c.commands.command-index in
    let commands = c.args.commands.now in
    let command = c.command-item.result in
    let next : drop i commands ≡ command ∷ drop (i + 1) commands = rw add-one (drop-cons commands i command c.commands-test.true ∙ ap (λ (x : Command). x ∷ drop (suc i) commands) (sym c.command-item.is)) in
    record {
      leads = λ d stands. tallied-more g.C.Customs.customs c.args.strict c.commands.session.engine c.execute.new.self.engine c.commands.tally c.in_ok-tally.tally command c.in_ok-answer.answer.line.items c.in_ok-answer.answer.refused (drop i commands) (drop (i + 1) commands) (answers_from d commands)
          next c.in_ok-answer.ensures.ok (sym c.is_last.ensures ∙ c.if-is_last.false) c.in_ok-tally.ensures (c.commands.invariant.leads d stands);
      taken = c.commands.invariant.taken;
      faults = c.commands.invariant.faults;
    }

pub returns-then-is_last-clause-printed : goal.returns-then-is_last-clause-printed
returns-then-is_last-clause-printed g c = λ d stands.
    let i = c.commands.command-index in
    let commands = c.args.commands.now in
    let command = c.command-item.result in
    let next : drop i commands ≡ command ∷ drop (i + 1) commands = rw add-one (drop-cons commands i command c.commands-test.true ∙ ap (λ (x : Command). x ∷ drop (suc i) commands) (sym c.command-item.is)) in
    let last = tallied-ends g.C.Customs.customs c.args.strict c.commands.session.engine c.execute.new.self.engine c.commands.tally command c.in_ok-answer.answer.line.items c.in_ok-answer.answer.refused (drop i commands) (drop (i + 1) commands) (answers_from d commands)
    next c.in_ok-answer.ensures.ok (sym c.is_last.ensures ∙ c.if-is_last.true) (c.commands.invariant.leads d stands) in
    rw (last, sym c.deref.ensures.value, sym c.commands.invariant.taken) c.print_last.ensures.printed

pub returns-in_err-answer-clause-printed : goal.returns-in_err-answer-clause-printed
returns-in_err-answer-clause-printed g c = λ d stands.
    let o = summary_outcome c.args.strict (answers_from d c.args.commands.now) in
    let old = g.O.Sink.taken c.args.out.now in
    rw c.commands.invariant.taken (no_memory o old old c.from_residual.result c.from_residual.ensures.1 (part-none old o.0))

pub returns-in_err-tally-clause-printed : goal.returns-in_err-tally-clause-printed
returns-in_err-tally-clause-printed g c = λ d stands.
    let o = summary_outcome c.args.strict (answers_from d c.args.commands.now) in
    let old = g.O.Sink.taken c.args.out.now in
    rw c.commands.invariant.taken (no_memory o old old c.from_residual-in_err-tally.result c.from_residual-in_err-tally.ensures.1 (part-none old o.0))

pub returns-clause-printed : goal.returns-clause-printed
returns-clause-printed g c = λ d stands.
    let commands = c.args.commands.now in
    let none = drop_all c.commands.command-index commands c.commands-test.false in
    let all = tallied-all g.C.Customs.customs c.args.strict c.commands.session.engine c.commands.tally (drop c.commands.command-index commands) (answers_from d commands) none (c.commands.invariant.leads d stands) in
    rw (all, sym c.in_ok-lines.ensures, sym c.deref-2.ensures.value, sym c.commands.invariant.taken) c.print_last-2.ensures.printed
