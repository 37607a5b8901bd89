-- The number and the name of each refusal. Source: this project's own.
use Rattle.std.specs.Prelude.{ℕ, List, codes}
use Rattle.book_model.specs.declared.refusal.Refusal.{Refusal}
use Rattle.book_model.specs.declared.refusal.Refusal.TheVariants as refusal

-- the line of a refusal: its number and its name
abbrev pub refusal_line : Refusal → ℕ × List ℕ
refusal_line refusal.NoSheet = (1, codes "NoSheet")
refusal_line refusal.SheetNameTaken = (2, codes "SheetNameTaken")
refusal_line refusal.SheetNameInvalid = (3, codes "SheetNameInvalid")
refusal_line refusal.Outside = (4, codes "Outside")
refusal_line refusal.SizeLimit = (5, codes "SizeLimit")
refusal_line refusal.CellLimit = (6, codes "CellLimit")
refusal_line refusal.NameTaken = (7, codes "NameTaken")
refusal_line refusal.NameInvalid = (8, codes "NameInvalid")
refusal_line refusal.NoSuchName = (9, codes "NoSuchName")
refusal_line refusal.RelativeAddress = (10, codes "RelativeAddress")
refusal_line refusal.NothingToUndo = (11, codes "NothingToUndo")
refusal_line refusal.NothingToRedo = (12, codes "NothingToRedo")
refusal_line refusal.NothingToPaste = (13, codes "NothingToPaste")
refusal_line refusal.Suspended = (14, codes "Suspended")
refusal_line refusal.BatchOpen = (15, codes "BatchOpen")
refusal_line refusal.NoBatch = (16, codes "NoBatch")
refusal_line refusal.BadSpan = (17, codes "BadSpan")
refusal_line refusal.TextLimit = (18, codes "TextLimit")
refusal_line refusal.SheetLimit = (19, codes "SheetLimit")
refusal_line refusal.BadFormula = (20, codes "BadFormula")

abbrev pub refusal_number : Refusal → ℕ
refusal_number r = (refusal_line r).0

abbrev pub refusal_name : Refusal → List ℕ
refusal_name r = (refusal_line r).1
