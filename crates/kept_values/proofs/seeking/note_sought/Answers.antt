use Rattle.std.proofs.Common.{◌≡◌, ◌∙◌, ◌&&◌, ap, refl, ℕ, List}
use Rattle.std.specs.List.{list_any}
use Rattle.std.specs.Option.{is_none}
use Rattle.cell_addr.specs.Sheets.{same_name}
use Rattle.formula_tree.specs.Reference.{sheet_of}
use Rattle.formula_tree.specs.Relative.{relative}
use Rattle.formula_tree.specs.StandsFor.{at_home}
use Rattle.book_values.specs.Names.{found}
use Rattle.kept_values.proofs.Following.{on_ok}
use Rattle.kept_values.proofs.SeekingNames.{seeks_once}
use Rattle.kept_values.proofs.seeking.note_sought.Goals as goal

pub returns-clause-seeks : goal.returns-clause-seeks
returns-clause-seeks g c =
    let b = g.T.Trees.workbook c.args.trees.now in
    let home = c.args.home in
    let t = at_home home (relative c.args.tree.now.value) in
    let asked = c.in_ok-words.words.items in
    on_ok c.note_words.result _ _
    (λ notes w h.
    notes w
    (ap (list_any (λ v. same_name w v && is_none (found b.names v c.sheet.result))) c.deref.ensures.value ∙ ap (λ (n : ℕ). list_any (λ v. same_name w v && is_none (found b.names v n)) asked) c.sheet.ensures
    ∙ seeks_once b.names (sheet_of home) w t asked (c.in_ok-words.ensures home t refl) ∙ h))
    c.note_words.ensures.seeks
