-- What the draft stands for is carried along with its changes; what is put over it then leaves the lines.
use Rattle.std.proofs.Common.{◌∙◌, sym, ap, subst, IsSome, ◌⊎◌, ◌≡◌, true}
use Rattle.std.specs.FinMap as fin
use Rattle.std.proofs.lemmas.Result.{on_ok_weaker}
use Rattle.shift_core.specs.declared.form.Form.TheVariants.{Lines}
use Rattle.grid_store.specs.Draft.{AreGivenOut, IsDraftOf, is_one_of, with_changes}
use Rattle.grid_store.specs.Grid.{cells_of, items_of, with_entries}
use Rattle.grid_store.specs.Keys.{place_at}
use Rattle.grid_store.specs.declared.draft.Draft.{Draft}
use Rattle.grid_store.specs.declared.grid.Grid.{Grid}
use Rattle.grid_store.specs.internal.Ways.{carried_map, form_goes}
use Rattle.grid_store.proofs.Drafts.{draft_kept, lines_carried, lines_draft_of}
use Rattle.grid_store.proofs.Views.{seen}
use Rattle.grid_store.proofs.draft.Draft.carry_lines.Goals as goal

pub returns-clause-carried : goal.returns-clause-carried
returns-clause-carried _ c =
    let g = c.args.grid.now in
    let old = c.note_lost.new.self.changes in
    let new = c.carry_lines.new.self in
    let same = c.note_lost.ensures.changes in
    let goes = form_goes c.args.way (Lines c.args.sheet c.args.axis c.args.edit) in
    let carried =
    lines_carried c.args.way c.args.sheet c.args.axis c.args.edit c.requires.sound g old new c.in_ok-carry_lines.ensures.lines c.in_ok-carry_lines.ensures.carried
    (λ k some. subst (λ (ch : Grid _). AreGivenOut ch.rows ch.cols k) (sym same) (c.requires.of k some).0) in
    on_ok_weaker c.place.result (λ made.
    made g ∙ ap (with_entries (items_of c.args.more)) (carried ∙ ap (λ (ch : Grid _). carried_map goes (with_changes (fin.entries (cells_of ch)) (seen ch.rows ch.cols g.cells.entries))) same)) c.place.ensures.ok

pub returns-clause-of : goal.returns-clause-of
returns-clause-of _ c =
    let g = c.args.grid.now in
    let before = c.args.self.now in
    let noted = c.note_lost.new.self in
    let new = c.carry_lines.new.self in
    let same = c.note_lost.ensures.changes in
    let after : Draft _ = record { changes = new; lost = noted.lost } in
    let of : IsDraftOf g after = λ k some.
    lines_draft_of c.args.way c.args.sheet c.args.axis c.args.edit c.requires.sound g noted.changes new c.in_ok-carry_lines.ensures.lines before.lost.items noted.lost.items k
    (subst (λ (ch : Grid _). AreGivenOut ch.rows ch.cols k × (IsSome (place_at ch.rows ch.cols k) ⊎ (is_one_of before.lost.items k ≡ true))) (sym same) (c.requires.of k some))
    (λ p at gone. c.in_ok-note_lost.ensures.noted k p some (ap (λ (ch : Grid _). place_at ch.rows ch.cols k) (sym same) ∙ at) gone) (c.in_ok-note_lost.ensures.still k) in
    on_ok_weaker c.place.result (λ made. draft_kept g after c.place.new.self c.place.ensures.base of) c.place.ensures.ok
