-- The sheets are put first, and then the names.
use Rattle.std.proofs.Common.{sym, subst, ℕ, ◌<◌, length, map, Option}
use Rattle.std.proofs.lemmas.Result.{on_ok_weaker}
use Rattle.std.specs.List.{AllByRecursion}
use Rattle.name_table.specs.declared.key.NameKey.{NameKey}
use Rattle.kept_book.specs.Change.{AreKnown}
use Rattle.kept_book.specs.Kept.{name_change}
use Rattle.kept_book.proofs.renaming.put.Goals as goal

pub returns-clause-known : goal.returns-clause-known
returns-clause-known c =
    on_ok_weaker c.put_names.result (λ made words known before.
    made words (subst (λ l. AreKnown words (map name_change l)) (sym c.as_slice-2.ensures.value) known)
    (subst (λ b. AllByRecursion (λ (e : NameKey × Option ℕ). e.0.word < length words) b.entries) (sym c.in_ok-put_sheets.ensures.names) before)) c.put_names.ensures.known
