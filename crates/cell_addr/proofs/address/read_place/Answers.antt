use Rattle.cell_addr.proofs.Spots.{spot-Some, spot-IsSome}
use Rattle.std.proofs.Common.{◌∙◌, ap}
use Rattle.cell_addr.specs.Address.{area_of}
use Rattle.cell_addr.specs.SheetName.{sheet_and_rest}
use Rattle.cell_addr.proofs.address.read_place.Goals as goal

pub returns-in-Ok : goal.returns-in-Ok
returns-in-Ok c =
    spot-Some (sheet_and_rest c.args.text.now) _ _ _ c.in-Some.ensures (c.in-Some-read_area.ensures ∙ ap area_of c.as_bytes.ensures.value) c.in-Ok.ensures

pub returns : goal.returns
returns c = spot-IsSome (sheet_and_rest c.args.text.now) _ _ c.in-Some.ensures (c.in-Some-read_area.ensures ∙ ap area_of c.as_bytes.ensures.value)
