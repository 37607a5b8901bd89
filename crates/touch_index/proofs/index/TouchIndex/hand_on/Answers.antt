use Rattle.std.proofs.Common.{◌≡◌, ◌∙◌, subst, sym}
use Rattle.std.proofs.lemmas.Bool.{ne_eqb}
use Rattle.shift_core.specs.Form.{form_of}
use Rattle.shift_core.specs.declared.form.Form.{Form}
use Rattle.shift_core.specs.declared.form.Form.TheVariants.{Cells, Lines, Sheet}
use Rattle.touch_index.specs.Handed.{IsHandedOn}
use Rattle.touch_index.proofs.Found.{on_ok}
use Rattle.touch_index.proofs.Handing.{kept_beside, kept_elsewhere, kept_here, kept_on_drop}
use Rattle.touch_index.proofs.index.TouchIndex.hand_on.Goals as goal

pub returns-then-sheet-after-clause-kept : goal.returns-then-sheet-after-clause-kept
returns-then-sheet-after-clause-kept c =
    let form : form_of c.args.s.now ≡ Lines c.in-Lines.sheet c.in-Lines.axis c.in-Lines.edit = sym c.form.ensures ∙ c.in-Lines.is in
    on_ok c.add_fresh.result _ _ c.add_fresh.ensures.added
    (λ added old b on kept. kept_here c.in-Lines.sheet c.in-Lines.axis c.in-Lines.edit old c.args.lines.now c.args.self.now c.add_fresh.new.self b c.args.after c.args.number
    c.if-sheet-after.true c.add_fresh.ensures.grown added (subst (λ f. IsHandedOn f old c.args.lines.now b c.args.after) form on) kept)

pub returns-else-sheet-after-clause-kept : goal.returns-else-sheet-after-clause-kept
returns-else-sheet-after-clause-kept c =
    let form : form_of c.args.s.now ≡ Lines c.in-Lines.sheet c.in-Lines.axis c.in-Lines.edit = sym c.form.ensures ∙ c.in-Lines.is in
    λ old b on kept. kept_elsewhere c.in-Lines.sheet c.in-Lines.axis c.in-Lines.edit old c.args.lines.now c.args.self.now b c.args.after c.args.number
    (ne_eqb c.in-Lines.sheet c.args.after.sheet c.if-sheet-after.false) (subst (λ f. IsHandedOn f old c.args.lines.now b c.args.after) form on) kept

pub returns-in-Cells-clause-kept : goal.returns-in-Cells-clause-kept
returns-in-Cells-clause-kept c =
    let form : form_of c.args.s.now ≡ Cells c.in-Cells.source c.in-Cells.to = sym c.form.ensures ∙ c.in-Cells.is in
    λ old b on kept. kept_beside c.in-Cells.source c.in-Cells.to old c.args.lines.now c.args.self.now b c.args.after c.args.number (subst (λ f. IsHandedOn f old c.args.lines.now b c.args.after) form on) kept

pub returns-in-Sheet-clause-kept : goal.returns-in-Sheet-clause-kept
returns-in-Sheet-clause-kept c =
    let form : form_of c.args.s.now ≡ Sheet c.in-Sheet.sheet = sym c.form.ensures ∙ c.in-Sheet.is in
    λ old b on kept. kept_on_drop c.in-Sheet.sheet old c.args.lines.now c.args.self.now b c.args.after c.args.number (subst (λ f. IsHandedOn f old c.args.lines.now b c.args.after) form on) kept
