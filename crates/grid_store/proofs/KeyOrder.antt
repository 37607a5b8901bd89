-- The order of keys is total, and equal keys alone tie. Serves the map of cells under their keys.
use Rattle.std.proofs.Common.{◌≡◌, refl}
use Rattle.std.specs.declared.cmp.Ordering.{Ordering}
use Rattle.std.specs.declared.cmp.Ordering.TheVariants.{Less, Equal, Greater}
use Rattle.std.specs.Ordering.{nat_cmp, ordering_then}
use Rattle.std.specs.Cmp.{IsTotalOrder, nat_cmp_total}
use Rattle.std.proofs.lemmas.Cmp.{then_total, on_total}
use Rattle.std.specs.FinMap.{IsAntisymmetric, nat_cmp-IsAntisymmetric}
use Rattle.grid_store.specs.Keys.{key_cmp}
use Rattle.grid_store.specs.declared.key.CellKey.{CellKey}

pub key_cmp-IsTotalOrder : IsTotalOrder key_cmp
key_cmp-IsTotalOrder =
    then_total (on_total (λ (k : CellKey). k.sheet) nat_cmp_total) (then_total (on_total (λ (k : CellKey). k.row) nat_cmp_total) (on_total (λ (k : CellKey). k.col) nat_cmp_total))

first-equal : (a b : Ordering) → ordering_then a b ≡ Equal → a ≡ Equal
first-equal Less b e = cc
first-equal Equal b e = refl
first-equal Greater b e = cc

second-equal : (a b : Ordering) → ordering_then a b ≡ Equal → b ≡ Equal
second-equal Less b e = cc
second-equal Equal b e = e
second-equal Greater b e = cc

pub key_cmp-IsAntisymmetric : IsAntisymmetric key_cmp
key_cmp-IsAntisymmetric x y e =
    let rest = second-equal (nat_cmp x.sheet y.sheet) (ordering_then (nat_cmp x.row y.row) (nat_cmp x.col y.col)) e in
    let sheet = nat_cmp-IsAntisymmetric x.sheet y.sheet (first-equal _ (ordering_then (nat_cmp x.row y.row) (nat_cmp x.col y.col)) e) in
    let row = nat_cmp-IsAntisymmetric x.row y.row (first-equal _ (nat_cmp x.col y.col) rest) in
    let col = nat_cmp-IsAntisymmetric x.col y.col (second-equal (nat_cmp x.row y.row) _ rest) in
    λ i. record { sheet = sheet i; row = row i; col = col i }
