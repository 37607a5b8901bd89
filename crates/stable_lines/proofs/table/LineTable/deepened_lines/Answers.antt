use Rattle.std.proofs.Common.{◌≡◌, ◌∙◌, ◌-◌, ◌++◌, ◌∷◌, [], ap, arith}
use Rattle.stable_lines.specs.internal.Deepened.{near_next, room_of}
use Rattle.stable_lines.specs.internal.Turns.{fresh}
use Rattle.stable_lines.proofs.Leveling.{tail_table}
use Rattle.stable_lines.proofs.table.LineTable.deepened_lines.Goals as goal

pub deepened-requires : goal.deepened-requires
deepened-requires c =
    let t = c.args.self.now in
    let n = c.near_next-next in
    let made : c.in_ok-table.table.items ≡ t.lines.near ++ fresh t.limit (near_next t) (room_of t) ∷ [] =
    c.in_ok-table.ensures ∙ ap (λ x. x ++ fresh t.limit n.result (9223372036854775808 - n.result) ∷ []) c.near.ensures
    ∙ ap (λ m. t.lines.near ++ fresh t.limit m (9223372036854775808 - m) ∷ []) n.ensures.next in
    let small = t.narrow in
    let a = t.first in
    let b = t.older in
    let l = t.low in
    record { table = rw made (tail_table t.limit (near_next t) (room_of t) t.lines.near t.near_lines t.near_lines_end (omega arith) (omega arith)) }
