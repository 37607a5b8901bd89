use Rattle.std.proofs.Common.{◌≡◌, ◌∙◌, ◌-◌, ◌++◌, ◌∷◌, [], ap, arith}
use Rattle.stable_lines.specs.internal.Deepened.{near_next, room_of}
use Rattle.stable_lines.specs.internal.Turns.{fresh_back}
use Rattle.stable_lines.proofs.Leveling.{tail_back_table}
use Rattle.stable_lines.proofs.table.LineTable.deepened_positions.Goals as goal

pub deepened_back-requires : goal.deepened_back-requires
deepened_back-requires c =
    let t = c.args.self.now in
    let n = c.near_next-next in
    let made : c.in_ok-table.table.items ≡ t.positions.near ++ fresh_back t.limit (near_next t) (room_of t) ∷ [] =
    c.in_ok-table.ensures ∙ ap (λ x. x ++ fresh_back t.limit n.result (9223372036854775808 - n.result) ∷ []) c.near.ensures
    ∙ ap (λ m. t.positions.near ++ fresh_back t.limit m (9223372036854775808 - m) ∷ []) n.ensures.next in
    let small = t.narrow in
    let a = t.first in
    let b = t.older in
    let l = t.low in
    record { table = rw made (tail_back_table t.limit (near_next t) (room_of t) t.positions.near t.near_positions t.near_positions_end (omega arith) (omega arith)) }
