-- A place past the sheet is empty already.
use Rattle.std.proofs.Common.{◌∙◌, sym, ap, drop, get_or, ◌+◌}
use Rattle.std.proofs.lemmas.Bool.{both_ways}
use Rattle.std.proofs.lemmas.List.{drop_more}
use Rattle.grid_store.specs.Draft.{drafted}
use Rattle.grid_store.specs.Grid.{without_places}
use Rattle.grid_store.proofs.ChangedMaps.{outside-emptied}
use Rattle.grid_store.proofs.Drafts.{drafted_inside}
use Rattle.grid_store.proofs.Exchanges.{no_item}
use Rattle.grid_store.proofs.draft.Draft.empty.Goals as goal
use Rattle.grid_store.proofs.draft.Draft.empty.Goals.{then-inside+in_ok-change, else-inside}

pub loop-at-preserved : goal.loop-at-preserved
loop-at-preserved _ c =
    let i = c.loop-at.invariant in
    let places = c.args.places.now in
    let n = c.loop-at.at-index in
    let old = c.loop-at.self in
    let rest = drop (n + 1) places in
    elim c.if-inside.branch [
      | then-inside+in_ok-change w ↦
          let b = w.change.ensures.base in record {
            made = λ g. ap (λ d. without_places rest (drafted g d)) w.self-is ∙ ap (without_places rest) (w.in_ok-change.ensures.ok g) ∙ ap (λ ps. without_places ps (drafted g old)) (sym (drop_more places n no_item c.loop-at-test.true)) ∙ i.made g;
            base = (ap (λ d. d.changes.rows) w.self-is ∙ b.0 ∙ i.base.0, ap (λ d. d.changes.cols) w.self-is ∙ b.1 ∙ i.base.1, ap (λ d. d.lost) w.self-is ∙ b.2 ∙ i.base.2);
          }
      | else-inside w ↦ record {
        made = λ g.
            ap (λ d. without_places rest (drafted g d)) w.self-is
            ∙ ap (without_places rest) (sym (outside-emptied (drafted g old) (get_or places n no_item) (drafted_inside g old) (λ inside. both_ways _ w.if-inside.false (c.inside.ensures.1 inside)))) ∙ ap (λ ps. without_places ps (drafted g old)) (sym (drop_more places n no_item c.loop-at-test.true)) ∙ i.made g;
        base = (ap (λ d. d.changes.rows) w.self-is ∙ i.base.0, ap (λ d. d.changes.cols) w.self-is ∙ i.base.1, ap (λ d. d.lost) w.self-is ∙ i.base.2);
      }
    ]
