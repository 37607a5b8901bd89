-- The books, the script and its records make the whole run, or one of them ends it.
use Rattle.std.proofs.Common.{◌≡◌, ap, subst, inl, inr, ℕ, List, Err, None, Some}
use Rattle.std.specs.declared.alloc.Global.{Global}
use Rattle.std.specs.declared.vec.Vec.{Vec}
use Rattle.std.proofs.lemmas.Int.{to_z-of_z}
use Rattle.book_files.specs.Folder.{Files}
use Rattle.book_model.specs.Given.{given_sheets}
use Rattle.book_model.specs.declared.given.BookSheet.{BookSheet}
use Rattle.command_words.specs.Words.{seen}
use Rattle.run_inputs.specs.Ends.{ComesTo}
use Rattle.run_inputs.specs.Opening.{sheets_told, told_by}
use Rattle.sheet_cli.specs.Run.{outcome_said, script_outcome}
use Rattle.sheet_cli.proofs.Endings.{books_say, end_runs, printed_runs, rose_later, script_is, script_says, told_parts}
use Rattle.sheet_cli.proofs.SourceRead.{reads_is, script_end_leave, script_leave, script_read, script_unread}
use Rattle.sheet_cli.proofs.program.run_told.Goals as goal

pub returns-in-Err-clause-runs : goal.returns-in-Err-clause-runs
returns-in-Err-clause-runs g c =
    let customs = g.C.Customs.customs c.args.registry in
    let said = seen c.args.said.now in
    let files = g.F.Folder.files c.args.folder.now in
    let source = g.I.Source.left c.args.input.now in
    let opens = subst (λ (names : List (List ℕ)). (told : Files) → files ≡ Some told → ComesTo (λ (sheets : Vec BookSheet Global). given_sheets sheets.items) (sheets_told told names) (Err c.in-Err.ending)) c.deref.ensures.value c.in-Err.ensures.opens in
    end_runs (told_by files source) (outcome_said customs c.args.day None said) _ c.in-Err.ending _ _ _
    (books_say customs c.args.day said (λ (sheets : Vec BookSheet Global). given_sheets sheets.items) files source c.in-Err.ending opens)
    (λ fault. inl (c.in-Err.ensures.fault (ap Err fault))) c.end-in-Err.ensures.printed

pub returns-in-Err-open_script-clause-runs : goal.returns-in-Err-open_script-clause-runs
returns-in-Err-open_script-clause-runs g c =
    let customs = g.C.Customs.customs c.args.registry in
    let said = seen c.args.said.now in
    let files = g.F.Folder.files c.args.folder.now in
    let source = g.I.Source.left c.args.input.now in
    let books = rw c.deref.ensures.value at c.in-Ok.ensures.opens in
    let opens = rw c.in-Ok.ensures.stays at c.in-Err-open_script.ensures.opens in
    end_runs (told_by files source) (outcome_said customs c.args.day None said) _ c.in-Err-open_script.ending _ _ _
    (λ t is. script_says customs c.args.day said (given_sheets c.in-Ok.sheets.items) (λ (bytes : Vec ℕ Global). bytes.items) c.in-Err-open_script.ending t (books t.files (told_parts files source t is).0) (opens t is))
    (λ fault. elim (c.in-Err-open_script.ensures.fault (ap Err fault)) [
      | inl rose ↦ inl (rose_later _ _ _ c.in-Ok.ensures.later rose)
      | inr rose ↦ inr rose
    ]) c.end.ensures.printed

pub returns-in-Ok-open_script-clause-runs : goal.returns-in-Ok-open_script-clause-runs
returns-in-Ok-open_script-clause-runs g c =
    let customs = g.C.Customs.customs c.args.registry in
    let said = seen c.args.said.now in
    let files = g.F.Folder.files c.args.folder.now in
    let source = g.I.Source.left c.args.input.now in
    let sheets = given_sheets c.in-Ok.sheets.items in
    let bytes = c.in-Ok-open_script.script.items in
    let books = rw c.deref.ensures.value at c.in-Ok.ensures.opens in
    let opens = rw c.in-Ok.ensures.stays at c.in-Ok-open_script.ensures.opens in
    let printed = rw (to_z-of_z _ _ c.ranges.day, c.deref-in-Ok-open_script.ensures.value) at c.run_script.ensures.printed in
    printed_runs (told_by files source) (outcome_said customs c.args.day None said) _ (script_outcome customs c.args.day said sheets bytes) _ _ _
    (λ t is. script_is customs c.args.day said sheets bytes t (books t.files (told_parts files source t is).0) (opens t is)) printed

pub returns-in-Err-open_script-clause-source : goal.returns-in-Err-open_script-clause-source
returns-in-Err-open_script-clause-source g c =
    let said = seen c.args.said.now in
    script_unread (Vec ℕ Global) said said.script c.in-Err-open_script.ending (g.O.Sink.taken c.args.out.now) (g.O.Sink.taken c.end.new.out) _ _ _
    (reads_is said c.requires.script) c.in-Err-open_script.ensures.source c.in-Err-open_script.ensures.status c.end.ensures.printed

pub returns-in-Ok-open_script-clause-source : goal.returns-in-Ok-open_script-clause-source
returns-in-Ok-open_script-clause-source g c =
    let said = seen c.args.said.now in
    script_read said said.script c.in-Ok-open_script.script _ _ _ (reads_is said c.requires.script) c.in-Ok-open_script.ensures.source c.run_script.ensures.status

pub returns-in-Err-open_script-clause-left : goal.returns-in-Err-open_script-clause-left
returns-in-Err-open_script-clause-left g c =
    let said = seen c.args.said.now in
    let books = rw c.deref.ensures.value at c.in-Ok.ensures.opens in
    script_end_leave (Vec ℕ Global) said (given_sheets c.in-Ok.sheets.items) c.in-Err-open_script.ending (g.F.Folder.files c.args.folder.now) (g.O.Sink.taken c.args.out.now) (g.O.Sink.taken c.end.new.out) _ _ _ said.script
    (reads_is said c.requires.script) books c.in-Err-open_script.ensures.source c.end.ensures.printed

pub returns-in-Ok-open_script-clause-left : goal.returns-in-Ok-open_script-clause-left
returns-in-Ok-open_script-clause-left g c =
    let said = seen c.args.said.now in
    let books = rw c.deref.ensures.value at c.in-Ok.ensures.opens in
    let opens = rw c.in-Ok.ensures.stays at c.in-Ok-open_script.ensures.opens in
    script_leave said (given_sheets c.in-Ok.sheets.items) (λ (bytes : Vec ℕ Global). bytes.items) c.in-Ok-open_script.script (g.F.Folder.files c.args.folder.now) _ _ _ said.script
    (reads_is said c.requires.script) books opens c.in-Ok-open_script.ensures.source
