use Rattle.std.proofs.Common.{◌≡◌, drop}
use Rattle.std.specs.List.{find}
use Rattle.cell_addr.specs.Sheets.{same_name}
use Rattle.recalc_core.proofs.seen.FormulaSightView.name.Given as goal

-- none of the names so far has the word
abbrev pub invariant-names : goal.invariant-names
invariant-names l = find (λ name. same_name name.word l.word) (drop l.name-index l.name-items) ≡ find (λ name. same_name name.word l.word) l.name-items
