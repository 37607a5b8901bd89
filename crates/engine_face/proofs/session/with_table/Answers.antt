use Rattle.std.proofs.Common.{subst, sym, w32, ℕ, ℤ, List, Option, Some}
use Rattle.std.proofs.lemmas.Int.{to_z-of_z}
use Rattle.custom_fn.specs.declared.rule.Rule.{Rule}
use Rattle.rule_table.specs.Rules.{rules_of}
use Rattle.engine_face.specs.Session.{IsOpened}
use Rattle.engine_face.proofs.session.with_table.Goals as goal

pub returns-in-Ok : goal.returns-in-Ok
returns-in-Ok c =
    let P : Option (List (List ℕ × Rule)) → Type 0 = λ told. IsOpened c.args.limit c.args.day told c.with_rules.result in
    let Q : ℤ → Type 0 = λ day. IsOpened c.args.limit day (Some (rules_of c.in-Ok.rules)) c.with_rules.result in
    subst P (sym c.in-Ok.ensures) (subst Q (to_z-of_z w32 c.args.day c.ranges.day) c.with_rules.ensures)
