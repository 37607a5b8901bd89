-- Frames that are the same place by place and name by name are one. Serves the steps of a session.
use Rattle.std.proofs.Common.{◌≡◌, ap}
use Rattle.std.specs.FinMap as fin
use Rattle.std.specs.FinMap.{same_map}
use Rattle.cell_addr.proofs.Places.{place_cmp-IsTotalOrder, place_cmp-IsAntisymmetric}
use Rattle.name_table.proofs.KeyOrder.{key_cmp-IsTotalOrder, key_cmp-IsAntisymmetric}
use Rattle.kept_book.specs.Frame.{Frame}
use Rattle.kept_steps.specs.Steps.{SameFrame}

pub one_frame : (f g : Frame) → SameFrame f g → f ≡ g
one_frame f g same =
    let cells = same_map place_cmp-IsTotalOrder place_cmp-IsAntisymmetric f.cells g.cells same.cells in
    let names = same_map key_cmp-IsTotalOrder key_cmp-IsAntisymmetric f.names g.names same.names in
    λ i. record { position = same.position i; cells = cells i; sheets = same.sheets i; names = names i }

pub same_frame : (f g : Frame) → f ≡ g → SameFrame f g
same_frame f g e = record {
  position = ap (λ (x : Frame). x.position) e;
  cells = λ p. ap (λ (x : Frame). fin.get x.cells p) e;
  sheets = ap (λ (x : Frame). x.sheets) e;
  names = λ key. ap (λ (x : Frame). fin.get x.names key) e;
}
