use Rattle.std.proofs.Common.{subst, w32, ℕ, ℤ}
use Rattle.std.proofs.lemmas.Int.{to_z-of_z}
use Rattle.rule_table.specs.Table.{rules_told}
use Rattle.engine_face.specs.Session.{IsOpened}
use Rattle.engine_face.proofs.session.Session.build.Goals as goal

pub returns-in-Some : goal.returns-in-Some
returns-in-Some c =
    let P : ℕ → Type 0 = λ limit. IsOpened limit c.args.day (rules_told c.args.table.now) c.with_table.result in
    let Q : ℤ → Type 0 = λ day. IsOpened c.in-Some.limit day (rules_told c.args.table.now) c.with_table.result in
    subst P c.in-Some.ensures.0 (subst Q (to_z-of_z w32 c.args.day c.ranges.day) c.with_table.ensures)
