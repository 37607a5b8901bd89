use Rattle.std.proofs.Common.{◌≡◌, ◌∙◌, sym, ap}
use Rattle.cell_addr.specs.Text.{folded}
use Rattle.run_inputs.proofs.Joined.{name_behind, name_here}
use Rattle.run_inputs.proofs.books.has_name.Goals as goal

pub returns-then-same_folded : goal.returns-then-same_folded
returns-then-same_folded c =
    let same : folded c.sheet-item.result.name ≡ folded c.args.name.now = ap folded (sym c.as_str.ensures) ∙ c.same_folded.ensures.0 c.if-same_folded.true in
    sym (name_here c.args.sheets.now c.sheets.sheet-index c.sheet-item.result c.args.name.now c.sheets-test.true c.sheet-item.is same) ∙ c.sheets.invariant

pub sheets-preserved : goal.sheets-preserved
sheets-preserved c =
    sym (name_behind c.args.sheets.now c.sheets.sheet-index c.sheet-item.result c.args.name.now c.sheets-test.true c.sheet-item.is
    (λ same. let told = c.same_folded.ensures.1 (ap folded c.as_str.ensures ∙ same) in let other = c.if-same_folded.false in cc))
    ∙ c.sheets.invariant
