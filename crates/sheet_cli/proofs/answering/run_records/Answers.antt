-- Each record that is answered takes the output one step further, and the last one completes it.
use Rattle.std.proofs.Common.{ap, refl, arith, length, Ok, Err}
use Rattle.script_lang.specs.declared.commands.Version.TheVariants.{Two}
use Rattle.csv.specs.Reading.{records, default_config, strip_bom}
use Rattle.book_files.proofs.RecordCounts.{few_records}
use Rattle.sheet_cli.specs.Answering.{outcome_from}
use Rattle.sheet_cli.proofs.Outcomes.{breaks, completes-start, ends, goes_on, no_memory, so_far, stopped, stops}
use Rattle.sheet_cli.proofs.answering.run_records.Goals as goal

pub records-init : goal.records-init
records-init g c =
    let few = few_records c.args.script.now in
    rw c.open-records.ensures (record {
      leads = λ d stands. (d, (stands, completes-start _ _, refl));
      counted = omega (arith, few, c.requires);
      later = omega arith;
    })

pub records-preserved : goal.records-preserved
records-preserved g c =
    let inv = c.records.invariant in
    let found = c.in_ok-advance.ensures.found (ap Ok c.if-branch.true) in
    let did = rw (c.in-Ok-None.field-0-is, c.fields.ensures) at c.in-Ok-None.ensures.answered in
    let behind = rw c.fields.ensures at c.in-Ok-None.ensures.version in
    let shorter = ap length found in
    record {
      leads = λ d stands. rw behind (goes_on g.C.Customs.customs _ _ _ _ _ _ _ _ _ _ _ _ found did (inv.leads d stands));
      counted = omega (arith, shorter, inv.counted);
      later = omega (arith, inv.later, c.in-Ok-None.ensures.later);
    }

pub returns-in_err-advance-clause-printed : goal.returns-in_err-advance-clause-printed
returns-in_err-advance-clause-printed g c =
    λ d stands. no_memory (outcome_from c.args.strict Two d 1 (records default_config (strip_bom c.args.script.now))) (g.O.Sink.taken c.args.out.now) (g.O.Sink.taken c.records.out) c.from_residual.result c.from_residual.ensures.1
    (so_far g.C.Customs.customs _ _ _ _ _ _ _ _ (c.records.invariant.leads d stands))

pub returns-in-Ok-Some-clause-printed : goal.returns-in-Ok-Some-clause-printed
returns-in-Ok-Some-clause-printed g c =
    let found = c.in_ok-advance.ensures.found (ap Ok c.if-branch.true) in
    let did = rw (c.in-Ok-Some.field-0-is, c.fields.ensures) at c.in-Ok-Some.ensures.answered in
    λ d stands. stops g.C.Customs.customs _ _ _ _ _ _ _ _ _ _ _ _ _ found did (c.records.invariant.leads d stands)

pub returns-in-Err-clause-printed : goal.returns-in-Err-clause-printed
returns-in-Err-clause-printed g c =
    let found = c.in_ok-advance.ensures.found (ap Ok c.if-branch.true) in
    let part = rw c.fields.ensures at c.in-Err.ensures.part in
    λ d stands. stopped (outcome_from c.args.strict Two d 1 (records default_config (strip_bom c.args.script.now))) (g.O.Sink.taken c.args.out.now) (g.O.Sink.taken c.run_record.new.out) c.in-Err.stop
    (λ fault. c.in-Err.ensures.no_read_fault (ap Err fault))
    (breaks g.C.Customs.customs _ _ _ _ _ _ _ _ _ _ _ found part (c.records.invariant.leads d stands))

pub returns-clause-printed : goal.returns-clause-printed
returns-clause-printed g c =
    let end = c.in_ok-advance.ensures.end (ap Ok c.if-branch.false) in
    λ d stands. ends g.C.Customs.customs _ _ _ _ c.records.session.engine _ _ _ end (c.records.invariant.leads d stands)
