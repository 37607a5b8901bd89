-- The status of a refusal's number is that refusal. Serves the numbers of statuses.
use Rattle.std.specs.Prelude.{◌≡◌, refl}
use Rattle.book_model.specs.RefusalNames.{refusal_number}
use Rattle.book_model.specs.declared.refusal.Refusal.{Refusal}
use Rattle.book_model.specs.declared.refusal.Refusal.TheVariants as refusal
use Rattle.engine_face.specs.Status.{status_numbered}
use Rattle.engine_face.specs.declared.status.Status.TheVariants.{Refused}

pub refused_numbered : (r : Refusal) → status_numbered (refusal_number r) ≡ Refused r
unfolding status_numbered
refused_numbered refusal.NoSheet = refl
refused_numbered refusal.SheetNameTaken = refl
refused_numbered refusal.SheetNameInvalid = refl
refused_numbered refusal.Outside = refl
refused_numbered refusal.SizeLimit = refl
refused_numbered refusal.CellLimit = refl
refused_numbered refusal.NameTaken = refl
refused_numbered refusal.NameInvalid = refl
refused_numbered refusal.NoSuchName = refl
refused_numbered refusal.RelativeAddress = refl
refused_numbered refusal.NothingToUndo = refl
refused_numbered refusal.NothingToRedo = refl
refused_numbered refusal.NothingToPaste = refl
refused_numbered refusal.Suspended = refl
refused_numbered refusal.BatchOpen = refl
refused_numbered refusal.NoBatch = refl
refused_numbered refusal.BadSpan = refl
refused_numbered refusal.TextLimit = refl
refused_numbered refusal.SheetLimit = refl
refused_numbered refusal.BadFormula = refl
