use Rattle.std.proofs.Common.{◌≡◌, ◌∙◌, sym, ap, []}
use Rattle.std.specs.Option.{option_copied, option_map_or}
use Rattle.sheet_shifts.specs.Listed.{list_in}
use Rattle.sheet_shifts.proofs.Listing.{none-on}
use Rattle.sheet_shifts.proofs.lists.on_sheet.Goals as goal

pub returns-in-None : goal.returns-in-None
returns-in-None g c = λ pick run are within.
    let empty : list_in c.args.lists.now c.args.sheet ≡ [] = ap (λ o. option_map_or (λ l. l.items) o []) (sym c.get.ensures.value ∙ ap option_copied c.in-None.is) in
    sym (none-on (pick c.args.sheet) c.args.from run within (sym (are c.args.sheet) ∙ empty))
