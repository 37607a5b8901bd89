use Rattle.std.proofs.Common.{◌≡◌, ◌∙◌, ◌∷◌, [], ap, refl}
use Rattle.stable_lines.specs.internal.Deepened.{LeadBack, LeadOn}
use Rattle.stable_lines.specs.internal.Levels.{back_through, through}
use Rattle.stable_lines.specs.internal.Turns.{whole}
use Rattle.stable_lines.proofs.Leveling.{all_below, all_filled, all_inverse, all_within}
use Rattle.stable_lines.proofs.TableLevels.{deepened_levels, deepened_line, deepened_position}
use Rattle.stable_lines.proofs.table.LineTable.deepened.Goals as goal

pub invariant_of-result : goal.invariant_of-result
invariant_of-result c =
    let t = c.args.self.now in
    let near : c.new.result.near ≡ whole t.limit ∷ [] = c.new.ensures.near ∙ c.in_ok-clone.ensures.cases ∙ c.in_ok-sheet.ensures in
    let near_back : c.new-2.result.near ≡ whole t.limit ∷ [] = c.new-2.ensures.near ∙ c.in_ok-sheet.ensures in
    let far : LeadOn t c.new.result.far = λ x. ap (λ fs. through fs x) c.new.ensures.far ∙ c.in_ok-lines.ensures x in
    let far_back : LeadBack t c.new-2.result.far = λ x. ap (λ fs. back_through fs x) c.new-2.ensures.far ∙ c.in_ok-positions.ensures x in
    let all = deepened_levels t c.new.result c.new-2.result near near_back far far_back c.new.ensures.read c.new-2.ensures.read in
    record {
      narrow = t.narrow;
      first = all.first;
      older = all.older;
      low = all.low;
      near_lines = all.near.lines_are_table;
      near_lines_end = all.near.lines_end;
      near_positions = all.near.positions_are_table;
      near_positions_end = all.near.positions_end;
      near_inverse = all.near.inverse;
      near_filled = all.near.filled;
      near_within = all.near.within;
      near_below = all.near.below;
      far_inverse = all.far.inverse;
      far_filled = all.far.filled;
      far_below = all.far.below;
      far_fresh = all.far.fresh;
      read = all.read;
      read_back = all.read_back;
      inverse = all_inverse t.limit t.next t.next c.new.result c.new-2.result all;
      filled = all_filled t.limit t.next t.next c.new.result c.new-2.result all;
      within = all_within t.limit t.next t.next c.new.result c.new-2.result all;
      below = all_below t.limit t.next t.next c.new.result c.new-2.result all;
    }

pub returns : goal.returns
returns c =
    let t = c.args.self.now in
    let near : c.new.result.near ≡ whole t.limit ∷ [] = c.new.ensures.near ∙ c.in_ok-clone.ensures.cases ∙ c.in_ok-sheet.ensures in
    let near_back : c.new-2.result.near ≡ whole t.limit ∷ [] = c.new-2.ensures.near ∙ c.in_ok-sheet.ensures in
    let far : LeadOn t c.new.result.far = λ x. ap (λ fs. through fs x) c.new.ensures.far ∙ c.in_ok-lines.ensures x in
    let far_back : LeadBack t c.new-2.result.far = λ x. ap (λ fs. back_through fs x) c.new-2.ensures.far ∙ c.in_ok-positions.ensures x in (
      refl,
      refl,
      deepened_line t c.new.result c.new-2.result near near_back far far_back c.new.ensures.read c.new-2.ensures.read,
      deepened_position t c.new.result c.new-2.result near near_back far far_back c.new.ensures.read c.new-2.ensures.read,
    )
