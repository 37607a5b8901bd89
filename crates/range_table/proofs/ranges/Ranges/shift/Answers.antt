use Rattle.std.proofs.Common.{◌∙◌, OnOk, ap, subst, sym}
use Rattle.cell_addr.specs.declared.place.Place.{Place}
use Rattle.cell_value.specs.declared.scalar.Scalar.{Scalar}
use Rattle.range_table.specs.Shifted.{AreMoved, TakesValues}
use Rattle.range_table.specs.Table.{AreFolds}
use Rattle.range_table.specs.internal.Kept.{map_if, map_of}
use Rattle.range_table.proofs.Moving.{nothing_moved}
use Rattle.range_table.proofs.Staying.{nothing_right}
use Rattle.range_table.proofs.ranges.Ranges.shift.Goals as goal

pub returns-in-Some-clause-moved : goal.returns-in-Some-clause-moved
returns-in-Some-clause-moved c =
    subst (λ m. OnOk c.shift_and_renew.result (AreMoved c.args.s.now m (map_of c.shift_and_renew.new.self))) (ap map_of c.deref_mut.ensures.value ∙ ap map_if (sym c.in-Some.is)) c.shift_and_renew.ensures.ok

pub returns-in-Some-clause-right : goal.returns-in-Some-clause-right
returns-in-Some-clause-right c =
    subst (λ m. OnOk c.shift_and_renew.result ((before after : Place → Scalar) → TakesValues c.args.s.now before after → AreFolds before m → AreFolds after (map_of c.shift_and_renew.new.self)))
    (ap map_of c.deref_mut.ensures.value ∙ ap map_if (sym c.in-Some.is)) c.shift_and_renew.ensures.right

pub returns-in-None-clause-moved : goal.returns-in-None-clause-moved
returns-in-None-clause-moved c = subst (λ o. AreMoved c.args.s.now (map_if o) (map_if o)) (sym c.in-None.is) (nothing_moved c.args.s.now)

pub returns-in-None-clause-right : goal.returns-in-None-clause-right
returns-in-None-clause-right c = λ before now takes right. subst (λ o. AreFolds now (map_if o)) (sym c.in-None.is) (nothing_right now)
