-- A sheet of the list can join those in front of it, which the copy has.
use Rattle.std.proofs.Common.{◌∙◌, ◌++◌, ◌∷◌, sym, ap, subst}
use Rattle.cell_addr.specs.Sheets.{AreSheets}
use Rattle.name_table.proofs.SheetEntries.{front-joins}
use Rattle.name_table.proofs.copy.copied_sheets.Goals as goal

pub put_in-requires-clause-new : goal.put_in-requires-clause-new
put_in-requires-clause-new c =
    front-joins c.sheets.copy.entries c.next.new.self c.in-Some.id.now c.in_ok-name.name
    (subst AreSheets
    (sym c.sheets.invariant.front ∙ ap (λ r. c.sheets.copy.entries ++ r) c.in-Some.ensures.steps ∙ ap (λ w. c.sheets.copy.entries ++ (c.in-Some.id.now, w) ∷ c.next.new.self) (sym c.in_ok-name.ensures))
    c.requires)
