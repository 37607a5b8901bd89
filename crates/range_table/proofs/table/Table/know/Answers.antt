use Rattle.std.proofs.Common.{◌∙◌, ap, refl, ◌++◌, ◌∷◌, []}
use Rattle.std.specs.Prelude.{slice_get}
use Rattle.range_table.specs.declared.state.State.TheVariants.{Left}
use Rattle.range_table.proofs.Growing.{grows_pushed}
use Rattle.range_table.proofs.Numbers.{gets-last}
use Rattle.range_table.proofs.table.Table.know.Goals as goal

pub returns-clause-grown : goal.returns-clause-grown
returns-clause-grown c = grows_pushed c.args.self.now _ c.args.area refl c.in_ok-add_key.ensures.keys (c.push_last.ensures ∙ ap (λ l. l ++ Left ∷ []) c.make_room.ensures.items)

pub returns-clause-number : goal.returns-clause-number
returns-clause-number c =
    let keys = c.args.self.now.keys.keys in
    ap (λ ks. slice_get ks c.len-number.result) c.in_ok-add_key.ensures.keys
    ∙ (ap (λ i. slice_get (keys ++ c.args.area ∷ []) i) c.len-number.ensures ∙ gets-last keys c.args.area)
