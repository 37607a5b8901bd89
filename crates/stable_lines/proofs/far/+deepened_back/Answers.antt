use Rattle.std.proofs.Common.{◌≡◌, ◌∙◌, ◌∷◌, ℕ, sym, ap, option_and_then, arith}
use Rattle.std.proofs.lemmas.Result.{IfOk-weaker}
use Rattle.stable_lines.specs.Runs.{image}
use Rattle.stable_lines.specs.internal.Levels.{all_runs, back_through}
use Rattle.stable_lines.specs.internal.Tables.{composed}
use Rattle.stable_lines.proofs.Compositions.{composed_table}
use Rattle.stable_lines.proofs.Reading.{merged_leads_back}
use Rattle.stable_lines.proofs.TableLemmas.{table_fits}
use Rattle.stable_lines.proofs.far.+deepened_back.Goals as goal

pub composed-requires-clause-first : goal.composed-requires-clause-first
composed-requires-clause-first t c = table_fits 0 c.runs-in-Some.result.now c.runs-in-Some.ensures.table

pub deepened_back-requires : goal.deepened_back-requires
deepened_back-requires t c =
    let less = c.in-Some.ensures.cases.1 in (
      omega arith,
      rw (c.in_ok-merged-in-Some.ensures, c.deref-in-Some.ensures.value) (composed_table 0 c.runs-in-Some.result.now c.args.table.items c.runs-in-Some.ensures.table c.requires.table),
    )

pub returns-in_ok-merged-in-Some : goal.returns-in_ok-merged-in-Some
returns-in_ok-merged-in-Some t c =
    let table = c.args.table.items in
    let nearest = c.runs-in-Some.result.now in
    let farther = all_runs c.in-Some.farther.now in
    let all : nearest ∷ farther ≡ all_runs c.args.far.now = ap (λ r. r ∷ farther) c.runs-in-Some.ensures.runs ∙ sym (ap all_runs c.in-Some.ensures.cases.0) in
    let merged : c.in_ok-merged-in-Some.merged.items ≡ composed nearest table = c.in_ok-merged-in-Some.ensures ∙ ap (λ z. composed nearest z) c.deref-in-Some.ensures.value in
    IfOk-weaker c.deepened_back.result
    (λ new. (x : ℕ) → back_through (all_runs new.value.items) x ≡ option_and_then (image c.in_ok-merged-in-Some.merged.items) (back_through farther x))
    (λ new. (x : ℕ) → back_through (all_runs new.value.items) x ≡ option_and_then (image table) (back_through (all_runs c.args.far.now) x))
    (λ new h x.
    h x ∙ ap (λ m. option_and_then (image m) (back_through farther x)) merged ∙ merged_leads_back table nearest farther x c.runs-in-Some.ensures.table
    ∙ ap (λ ts. option_and_then (image table) (back_through ts x)) all)
    c.deepened_back.ensures
