use Rattle.std.proofs.Common.{◌≡◌, ◌∙◌, ℕ, true, ap, refl, subst, sym}
use Rattle.cell_value.specs.declared.summary.Summary.{Summary}
use Rattle.needs_order.specs.Needs.{has}
use Rattle.place_lines.specs.Moved as lines
use Rattle.shift_core.specs.Form.{form_of}
use Rattle.range_table.specs.Blocks.{BlockMap}
use Rattle.range_table.specs.Shifted.{AreMoved}
use Rattle.range_table.specs.internal.Kept.{map_of}
use Rattle.range_table.specs.internal.Shifting.{AreChanges}
use Rattle.range_table.specs.internal.States.{state_at}
use Rattle.range_table.specs.internal.Tables.{kept_below, map_in}
use Rattle.range_table.proofs.Finding.{on_err}
use Rattle.range_table.proofs.Growing.{same_map_both}
use Rattle.range_table.proofs.Taking.{all_done, are_moved, arrives_low, bounded_moved, found_moved, stand_moved}
use Rattle.range_table.proofs.kept.KeptSummaries.shift.Goals as goal

pub returns-in_err-found-clause-err : goal.returns-in_err-found-clause-err
unfolding kept_below
returns-in_err-found-clause-err c = on_err _ _ refl

pub returns-in_err-changes-clause-err : goal.returns-in_err-changes-clause-err
unfolding kept_below
returns-in_err-changes-clause-err c =
    let same : map_of c.changes.new.self ≡ map_of c.args.self.now = same_map_both _ c.changes.new.self c.changes.ensures.grown in on_err _ _ same

pub change-requires : goal.change-requires
change-requires c = arrives_low c.args.s.now c.in_ok-lines.lines c.changes.new.self c.in_ok-changes.changes c.deref.result.now c.in_ok-changes.ensures.changes

pub invariant_of-self-3 : goal.invariant_of-self-3
invariant_of-self-3 c =
    let s = c.args.s.now in
    let to = c.in_ok-lines.lines in
    let k = c.changes.new.self in
    let ch = c.in_ok-changes.changes in
    let gone = c.deref.result.now in
    let new = c.set_lines.new.self in
    let are : AreChanges s to k gone ch = c.in_ok-changes.ensures.changes in
    let moved = subst (λ l. lines.AreMoved (form_of s) l to) (sym c.changes.ensures.grown.table.lines) c.in_ok-lines.ensures in
    let done = all_done s to _ k ch gone c.changes.ensures.grown (λ b n inside kept touched. subst (λ l. has n l ≡ true) (sym c.deref.ensures.value) (c.in_ok-found.ensures b n inside kept touched)) are in
    let keys = c.set_lines.ensures.keys ∙ c.change.ensures.keys in
    let states = λ (n : ℕ). ap (λ l. state_at l n) c.set_lines.ensures.states ∙ c.change.ensures.states n in record {
      stands = stand_moved s to k ch gone new c.requires moved done are c.set_lines.ensures.lines keys states;
      found = found_moved s to k ch gone new c.requires moved done are c.set_lines.ensures.lines keys states;
      bounded = bounded_moved s to k ch gone new c.requires moved done are c.set_lines.ensures.lines keys states k.bounded;
    }

pub returns-clause-ok : goal.returns-clause-ok
unfolding kept_below
returns-clause-ok c =
    let s = c.args.s.now in
    let to = c.in_ok-lines.lines in
    let k = c.changes.new.self in
    let ch = c.in_ok-changes.changes in
    let gone = c.deref.result.now in
    let new = c.set_lines.new.self in
    let are : AreChanges s to k gone ch = c.in_ok-changes.ensures.changes in
    let moved = subst (λ l. lines.AreMoved (form_of s) l to) (sym c.changes.ensures.grown.table.lines) c.in_ok-lines.ensures in
    let done = all_done s to _ k ch gone c.changes.ensures.grown (λ b n inside kept touched. subst (λ l. has n l ≡ true) (sym c.deref.ensures.value) (c.in_ok-found.ensures b n inside kept touched)) are in
    let keys = c.set_lines.ensures.keys ∙ c.change.ensures.keys in
    let states = λ (n : ℕ). ap (λ l. state_at l n) c.set_lines.ensures.states ∙ c.change.ensures.states n in
    subst (λ (m : BlockMap Summary). AreMoved s m (map_in new)) (same_map_both _ k c.changes.ensures.grown)
    (are_moved s to k ch gone new c.requires moved done are c.set_lines.ensures.lines keys states)
