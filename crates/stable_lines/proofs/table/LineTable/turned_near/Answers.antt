use Rattle.std.proofs.Common.{◌≡◌, ◌∙◌, ◌+◌, ◌-◌, ◌≤◌, ap, refl, arith}
use Rattle.stable_lines.specs.internal.Deepened.{near_next}
use Rattle.stable_lines.specs.internal.Levels.{all_runs}
use Rattle.stable_lines.specs.internal.Turns.{new_lines, new_positions}
use Rattle.stable_lines.proofs.Leveling.{all_below, all_filled, all_inverse, all_within}
use Rattle.stable_lines.proofs.TableLevels.{near_of, turned_fresh, turned_kept, turned_levels}
use Rattle.stable_lines.proofs.Turning.{longer_back_fits, longer_table, owed}
use Rattle.stable_lines.proofs.table.LineTable.turned_near.Goals as goal

pub new_lines-requires-clause-lines : goal.new_lines-requires-clause-lines
new_lines-requires-clause-lines c =
    let t = c.args.self.now in
    let a = t.first in
    let b = t.older in
    let l = t.low in
    rw (c.near.ensures, c.near_next-next.ensures.next)
    (longer_table t.limit (near_next t) (c.args.turn.end - t.limit) t.lines.near t.positions.near c.args.turn (near_of t) c.requires.turn t.narrow (omega arith) (omega arith))

pub new_positions-requires-clause-positions : goal.new_positions-requires-clause-positions
new_positions-requires-clause-positions c =
    let t = c.args.self.now in
    let a = t.first in
    let b = t.older in
    let l = t.low in
    rw (c.near-2.ensures, c.near_next-next.ensures.next)
    (longer_back_fits t.limit (near_next t) (c.args.turn.end - t.limit) t.lines.near t.positions.near c.args.turn (near_of t) c.requires.turn t.narrow (omega arith) (omega arith))

pub new-requires : goal.new-requires
new-requires c =
    let t = c.args.self.now in
    let a = t.first in
    let b = t.older in
    let l = t.low in
    let room = c.args.turn.end - t.limit in
    let lines : c.in_ok-lines.lines.items ≡ new_lines t.limit (near_next t) room c.args.turn t.lines.near =
    c.in_ok-lines.ensures ∙ ap (new_lines t.limit c.near_next-next.result room c.args.turn) c.near.ensures ∙ ap (λ m. new_lines t.limit m room c.args.turn t.lines.near) c.near_next-next.ensures.next in
    let positions : c.in_ok-positions.positions.items ≡ new_positions t.limit (near_next t) room c.args.turn t.positions.near =
    c.in_ok-positions.ensures ∙ ap (new_positions t.limit c.near_next-next.result room c.args.turn) c.near-2.ensures ∙ ap (λ m. new_positions t.limit m room c.args.turn t.positions.near) c.near_next-next.ensures.next in
    (owed t.limit (near_next t) room t.lines.near t.positions.near c.args.turn (near_of t) c.requires.turn t.narrow (omega arith) (omega arith) (near_next t + room) c.in_ok-lines.lines.items c.in_ok-positions.positions.items refl lines positions).lines_are_table

pub new-requires-3 : goal.new-requires-3
new-requires-3 c =
    let t = c.args.self.now in
    let a = t.first in
    let b = t.older in
    let l = t.low in
    let room = c.args.turn.end - t.limit in
    let lines : c.in_ok-lines.lines.items ≡ new_lines t.limit (near_next t) room c.args.turn t.lines.near =
    c.in_ok-lines.ensures ∙ ap (new_lines t.limit c.near_next-next.result room c.args.turn) c.near.ensures ∙ ap (λ m. new_lines t.limit m room c.args.turn t.lines.near) c.near_next-next.ensures.next in
    let positions : c.in_ok-positions.positions.items ≡ new_positions t.limit (near_next t) room c.args.turn t.positions.near =
    c.in_ok-positions.ensures ∙ ap (new_positions t.limit c.near_next-next.result room c.args.turn) c.near-2.ensures ∙ ap (λ m. new_positions t.limit m room c.args.turn t.positions.near) c.near_next-next.ensures.next in
    (owed t.limit (near_next t) room t.lines.near t.positions.near c.args.turn (near_of t) c.requires.turn t.narrow (omega arith) (omega arith) (near_next t + room) c.in_ok-lines.lines.items c.in_ok-positions.positions.items refl lines positions).positions_are_table

pub invariant_of-result : goal.invariant_of-result
invariant_of-result c =
    let t = c.args.self.now in
    let low = t.low in
    let room = c.args.turn.end - t.limit in
    let end : c.args.turn.end ≡ t.limit + room = omega arith in
    let sum : t.next + room ≤ 9223372036854775808 = omega arith in
    let near : c.new-2.result.near ≡ new_lines t.limit (near_next t) room c.args.turn t.lines.near =
    c.new-2.ensures.near ∙ c.in_ok-new.ensures ∙ c.in_ok-lines.ensures ∙ ap (new_lines t.limit c.near_next-next.result room c.args.turn) c.near.ensures
    ∙ ap (λ m. new_lines t.limit m room c.args.turn t.lines.near) c.near_next-next.ensures.next in
    let near_back : c.new-4.result.near ≡ new_positions t.limit (near_next t) room c.args.turn t.positions.near =
    c.new-4.ensures.near ∙ c.in_ok-new-2.ensures ∙ c.in_ok-positions.ensures ∙ ap (new_positions t.limit c.near_next-next.result room c.args.turn) c.near-2.ensures
    ∙ ap (λ m. new_positions t.limit m room c.args.turn t.positions.near) c.near_next-next.ensures.next in
    let far : c.new-2.result.far ≡ t.lines.far = c.new-2.ensures.far ∙ ap (λ v. all_runs v.items) c.in_ok-clone.ensures.cases ∙ c.far.ensures in
    let far_back : c.new-4.result.far ≡ t.positions.far = c.new-4.ensures.far ∙ ap (λ v. all_runs v.items) c.in_ok-clone-2.ensures.cases ∙ c.far-2.ensures in
    let all = turned_levels t c.args.turn room c.new-2.result c.new-4.result c.requires.turn end sum near near_back far far_back c.new-2.ensures.read c.new-4.ensures.read in
    record {
      narrow = t.narrow;
      first = all.first;
      older = all.older;
      low = all.low;
      near_lines = all.near.lines_are_table;
      near_lines_end = all.near.lines_end;
      near_positions = all.near.positions_are_table;
      near_positions_end = all.near.positions_end;
      near_inverse = all.near.inverse;
      near_filled = all.near.filled;
      near_within = all.near.within;
      near_below = all.near.below;
      far_inverse = all.far.inverse;
      far_filled = all.far.filled;
      far_below = all.far.below;
      far_fresh = all.far.fresh;
      read = all.read;
      read_back = all.read_back;
      inverse = all_inverse t.limit t.base (t.next + room) c.new-2.result c.new-4.result all;
      filled = all_filled t.limit t.base (t.next + room) c.new-2.result c.new-4.result all;
      within = all_within t.limit t.base (t.next + room) c.new-2.result c.new-4.result all;
      below = all_below t.limit t.base (t.next + room) c.new-2.result c.new-4.result all;
    }

pub returns : goal.returns
returns c =
    let t = c.args.self.now in
    let low = t.low in
    let room = c.args.turn.end - t.limit in
    let end : c.args.turn.end ≡ t.limit + room = omega arith in
    let sum : t.next + room ≤ 9223372036854775808 = omega arith in
    let near : c.new-2.result.near ≡ new_lines t.limit (near_next t) room c.args.turn t.lines.near =
    c.new-2.ensures.near ∙ c.in_ok-new.ensures ∙ c.in_ok-lines.ensures ∙ ap (new_lines t.limit c.near_next-next.result room c.args.turn) c.near.ensures
    ∙ ap (λ m. new_lines t.limit m room c.args.turn t.lines.near) c.near_next-next.ensures.next in
    let near_back : c.new-4.result.near ≡ new_positions t.limit (near_next t) room c.args.turn t.positions.near =
    c.new-4.ensures.near ∙ c.in_ok-new-2.ensures ∙ c.in_ok-positions.ensures ∙ ap (new_positions t.limit c.near_next-next.result room c.args.turn) c.near-2.ensures
    ∙ ap (λ m. new_positions t.limit m room c.args.turn t.positions.near) c.near_next-next.ensures.next in
    let far : c.new-2.result.far ≡ t.lines.far = c.new-2.ensures.far ∙ ap (λ v. all_runs v.items) c.in_ok-clone.ensures.cases ∙ c.far.ensures in
    let far_back : c.new-4.result.far ≡ t.positions.far = c.new-4.ensures.far ∙ ap (λ v. all_runs v.items) c.in_ok-clone-2.ensures.cases ∙ c.far-2.ensures in
    record {
      limit = refl;
      next = omega arith;
      kept = turned_kept t c.args.turn room c.new-2.result c.new-4.result c.requires.turn end sum near near_back far far_back c.new-2.ensures.read c.new-4.ensures.read;
      fresh = turned_fresh t c.args.turn room c.new-2.result c.new-4.result c.requires.turn end sum near near_back far far_back c.new-2.ensures.read c.new-4.ensures.read;
    }
