use Rattle.std.proofs.Common.{◌≡◌, ◌∙◌, true, sym, subst}
use Rattle.cell_addr.specs.declared.axis.Axis.TheVariants.{Rows}
use Rattle.place_lines.specs.Spots.{spot_of}
use Rattle.shift_core.specs.Carried.{first_place}
use Rattle.touch_index.specs.internal.Points.{has_point}
use Rattle.touch_index.proofs.Found.{on_ok}
use Rattle.touch_index.proofs.index.TouchIndex.add_block.Goals as goal

pub returns-clause-kept : goal.returns-clause-kept
returns-clause-kept c = on_ok c.add_lines-2.result _ _ c.add_lines-2.ensures.kept (λ cols. (
  subst (λ f. has_point f (spot_of c.args.lines.now (first_place c.args.block)) c.args.number ≡ true) (sym (c.add_lines-2.ensures.firsts ∙ c.in_ok-add_lines.ensures.firsts))
      (subst (λ s. has_point c.add.new.self s c.args.number ≡ true) c.spot.ensures c.in_ok-add.ensures.added),
  λ line low high. c.add_lines-2.ensures.grown.2 Rows _ _ _ (c.in_ok-add_lines.ensures.kept line low high),
  cols,
))
