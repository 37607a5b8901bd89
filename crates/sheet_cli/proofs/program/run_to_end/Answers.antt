-- What words mean decides what a run is told to print.
use Rattle.std.proofs.Common.{ap, Some, Option, map}
use Rattle.std.specs.Prelude.{string_bytes}
use Rattle.std.proofs.lemmas.Int.{to_z-of_z}
use Rattle.command_words.specs.Words.{Said, seen}
use Rattle.run_inputs.specs.Opening.{told_by}
use Rattle.sheet_cli.specs.Run.{outcome, outcome_meant, usage}
use Rattle.sheet_cli.proofs.Endings.{printed_runs, runs_alike}
use Rattle.sheet_cli.proofs.program.run_to_end.Goals as goal

pub returns-in-Ok-clause-runs : goal.returns-in-Ok-clause-runs
returns-in-Ok-clause-runs g c =
    let customs = g.C.Customs.customs c.args.registry in
    let said = seen c.in-Ok.said in
    let runs = rw (to_z-of_z _ _ c.ranges.day) at c.run_said.ensures.runs in
    runs_alike (told_by (g.F.Folder.files c.args.folder.now) (g.I.Source.left c.args.input.now)) (outcome customs c.args.day (map string_bytes c.args.words.now)) (outcome_meant customs c.args.day (Some said)) _ _ _ _
    (λ t. ap (λ (m : Option Said). outcome_meant customs c.args.day m t) c.in-Ok.ensures.answers) runs

pub returns-in-Err-Usage-clause-runs : goal.returns-in-Err-Usage-clause-runs
returns-in-Err-Usage-clause-runs g c =
    let customs = g.C.Customs.customs c.args.registry in
    let none = rw c.in-Err-Usage.field-0-is at c.in-Err-Usage.ensures.answers in
    printed_runs (told_by (g.F.Folder.files c.args.folder.now) (g.I.Source.left c.args.input.now)) (outcome customs c.args.day (map string_bytes c.args.words.now)) _ usage _ _ _
    (λ t is. ap (λ (m : Option Said). outcome_meant customs c.args.day m t) none) c.print_end.ensures.printed
