use Rattle.std.proofs.Common.{◌≡◌, ◌∙◌, subst, true}
use Rattle.std.specs.List.{list_any}
use Rattle.block_index.specs.Index.{filed_in}
use Rattle.needs_order.specs.Needs.{has}
use Rattle.place_lines.specs.Spots.{spot_of}
use Rattle.place_lines.specs.declared.spot.LineSpot.{LineSpot}
use Rattle.range_table.specs.internal.Filed.{finds_at}
use Rattle.range_table.specs.internal.GivenUp.{GivesUp}
use Rattle.range_table.proofs.GivingUp.{gives_all}
use Rattle.range_table.proofs.giving_up.give_up_found.Goals as goal

pub returns-in-Err : goal.returns-in-Err
returns-in-Err c = gives_all c.args.at _ c.args.table.now c.give_up_all.new.table c.give_up_all.ensures

pub returns-in-Ok : goal.returns-in-Ok
returns-in-Ok c =
    let found : (s : LineSpot) → s ≡ spot_of c.args.table.now.lines c.args.at → GivesUp c.args.at (λ n. finds_at c.args.files.now.cells s n ≡ true) c.args.table.now c.give_up_under.new.table → GivesUp c.args.at (λ n. finds_at c.args.files.now.cells (spot_of c.args.table.now.lines c.args.at) n ≡ true) c.args.table.now c.give_up_under.new.table
    = λ s is. subst (λ z. GivesUp c.args.at (λ n. finds_at c.args.files.now.cells z n ≡ true) c.args.table.now c.give_up_under.new.table) is in
    found c.spot-spot.result c.spot-spot.ensures
    (subst (λ l. GivesUp c.args.at (λ n. list_any (λ s. has n (filed_in c.args.files.now.cells s)) l ≡ true) c.args.table.now c.give_up_under.new.table) (c.deref.ensures.value ∙ c.in-Ok.ensures.slots) c.give_up_under.ensures)

pub give_up_under-requires : goal.give_up_under-requires
give_up_under-requires c = λ s h. c.in-Ok.ensures.inside s (subst (λ l. has s l ≡ true) (c.deref.ensures.value ∙ c.in-Ok.ensures.slots) h)
