use Rattle.std.proofs.Common.{◌≡◌, ◌∙◌, ◌++◌, ◌∷◌, [], None, Some, map, sym, ap, subst}
use Rattle.name_table.specs.Listed.{listed}
use Rattle.kept_book.specs.Change.{HaveSlots, sheets_with}
use Rattle.kept_book.specs.Kept.{sheet_change}
use Rattle.kept_book.proofs.SheetSlots.{none-lacks, same-left, slot-back, slot-joins}
use Rattle.kept_book.proofs.shifting.leave_sheet.Goals as goal

listed-so : (c : goal.After-push_reserved) → c.push_reserved.new.self.items ≡ record { id = c.in-Sheet.sheet; before = Some c.in-Some.before; after = None } ∷ []
listed-so c = c.push_reserved.ensures.items ∙ ap (λ l. l ++ record { id = c.in-Sheet.sheet; before = Some c.in-Some.before; after = None } ∷ []) c.requires.empty

pub returns-in-Some-clause-back : goal.returns-in-Some-clause-back
returns-in-Some-clause-back c =
    ap (λ l. sheets_with (λ x. x.0) (map sheet_change l) (listed c.remove_sheet.new.self)) (listed-so c)
    ∙ slot-back (listed c.args.names.now) (listed c.remove_sheet.new.self) c.in-Sheet.sheet c.in-Some.before.0 c.in-Some.before.1 c.proper.ensures c.remove_sheet.ensures.rest (sym c.in-Some.ensures.index)
    (sym c.in-Some.ensures.name)

pub returns-in-Some-clause-returns : goal.returns-in-Some-clause-returns
returns-in-Some-clause-returns c =
    subst (λ l. HaveSlots (λ x. x.0) (map sheet_change l) (listed c.remove_sheet.new.self)) (sym (listed-so c)) (
      slot-joins (listed c.args.names.now) (listed c.remove_sheet.new.self) c.in-Sheet.sheet c.in-Some.before.0 c.in-Some.before.1 c.proper.ensures c.remove_sheet.ensures.rest (sym c.in-Some.ensures.index)
          (sym c.in-Some.ensures.name),
      tt,
    )

same : (c : goal.In_default-remove_sheet) → listed c.remove_sheet.new.self ≡ listed c.args.names.now
same c =
    c.remove_sheet.ensures.rest
    ∙ same-left c.in-Sheet.sheet (listed c.args.names.now) (none-lacks c.in-Sheet.sheet (listed c.args.names.now) (sym c.in_default-remove_sheet.ensures.index))

pub returns-in_default-remove_sheet-clause-back : goal.returns-in_default-remove_sheet-clause-back
returns-in_default-remove_sheet-clause-back c = ap (λ l. sheets_with (λ x. x.0) (map sheet_change l) (listed c.remove_sheet.new.self)) c.requires.empty ∙ same c

pub returns-in_default-remove_sheet-clause-forth : goal.returns-in_default-remove_sheet-clause-forth
returns-in_default-remove_sheet-clause-forth c = ap (λ l. sheets_with (λ x. x.1) (map sheet_change l) (listed c.args.names.now)) c.requires.empty ∙ sym (same c)
