use Rattle.std.proofs.Common.{◌≡◌, ◌∙◌, ◌∷◌, ℕ, sym, ap, option_and_then, arith}
use Rattle.std.proofs.lemmas.Result.{IfOk-weaker}
use Rattle.stable_lines.specs.Runs.{image}
use Rattle.stable_lines.specs.internal.Levels.{all_runs, through}
use Rattle.stable_lines.specs.internal.Tables.{composed}
use Rattle.stable_lines.proofs.Compositions.{composed_table}
use Rattle.stable_lines.proofs.Reading.{merged_leads}
use Rattle.stable_lines.proofs.TableLemmas.{table_fits}
use Rattle.stable_lines.proofs.far.+deepened.Goals as goal

pub composed-requires-clause-first : goal.composed-requires-clause-first
composed-requires-clause-first t c = rw c.deref-in-Some.ensures.value (table_fits 0 c.args.table.items c.requires.table)

pub deepened-requires : goal.deepened-requires
deepened-requires t c =
    let less = c.in-Some.ensures.cases.1 in (
      omega arith,
      rw (c.in_ok-merged-in-Some.ensures, c.deref-in-Some.ensures.value) (composed_table 0 c.args.table.items c.runs-in-Some.result.now c.requires.table c.runs-in-Some.ensures.table),
    )

pub returns-in_ok-merged-in-Some : goal.returns-in_ok-merged-in-Some
returns-in_ok-merged-in-Some t c =
    let table = c.args.table.items in
    let nearest = c.runs-in-Some.result.now in
    let farther = all_runs c.in-Some.farther.now in
    let all : nearest ∷ farther ≡ all_runs c.args.far.now = ap (λ r. r ∷ farther) c.runs-in-Some.ensures.runs ∙ sym (ap all_runs c.in-Some.ensures.cases.0) in
    let merged : c.in_ok-merged-in-Some.merged.items ≡ composed table nearest = c.in_ok-merged-in-Some.ensures ∙ ap (λ z. composed z nearest) c.deref-in-Some.ensures.value in
    IfOk-weaker c.deepened.result
    (λ new. (x : ℕ) → through (all_runs new.value.items) x ≡ option_and_then (through farther) (image c.in_ok-merged-in-Some.merged.items x))
    (λ new. (x : ℕ) → through (all_runs new.value.items) x ≡ option_and_then (through (all_runs c.args.far.now)) (image table x))
    (λ new h x.
    h x ∙ ap (λ m. option_and_then (through farther) (image m x)) merged ∙ merged_leads table nearest farther x c.requires.table
    ∙ ap (λ ts. option_and_then (through ts) (image table x)) all)
    c.deepened.ensures
