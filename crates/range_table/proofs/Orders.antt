-- The order of blocks is total, and equal ones alone tie. Serves the maps.
use Rattle.std.proofs.Common.{◌≡◌, refl}
use Rattle.std.specs.declared.cmp.Ordering.{Ordering}
use Rattle.std.specs.declared.cmp.Ordering.TheVariants.{Less, Equal, Greater}
use Rattle.std.specs.Ordering.{nat_cmp, ordering_then}
use Rattle.std.specs.Cmp.{IsTotalOrder, nat_cmp_total}
use Rattle.std.proofs.lemmas.Cmp.{then_total, on_total}
use Rattle.std.specs.FinMap.{IsAntisymmetric, nat_cmp-IsAntisymmetric}
use Rattle.cell_addr.specs.declared.place.Block.{Block}
use Rattle.range_table.specs.Blocks.{block_cmp}

first-equal : (a b : Ordering) → ordering_then a b ≡ Equal → a ≡ Equal
first-equal Less b e = cc
first-equal Equal b e = refl
first-equal Greater b e = cc

second-equal : (a b : Ordering) → ordering_then a b ≡ Equal → b ≡ Equal
second-equal Less b e = cc
second-equal Equal b e = e
second-equal Greater b e = cc

pub block_cmp-IsTotalOrder : IsTotalOrder block_cmp
block_cmp-IsTotalOrder =
    then_total (on_total (λ (b : Block). b.sheet) nat_cmp_total)
    (then_total (on_total (λ (b : Block). b.top) nat_cmp_total)
    (then_total (on_total (λ (b : Block). b.left) nat_cmp_total)
    (then_total (on_total (λ (b : Block). b.bottom) nat_cmp_total) (on_total (λ (b : Block). b.right) nat_cmp_total))))

pub block_cmp-IsAntisymmetric : IsAntisymmetric block_cmp
block_cmp-IsAntisymmetric x y e =
    let last = ordering_then (nat_cmp x.bottom y.bottom) (nat_cmp x.right y.right) in
    let lefts = ordering_then (nat_cmp x.left y.left) last in
    let tops = ordering_then (nat_cmp x.top y.top) lefts in
    let rest = second-equal (nat_cmp x.sheet y.sheet) tops e in
    let below = second-equal (nat_cmp x.top y.top) lefts rest in
    let ends = second-equal (nat_cmp x.left y.left) last below in
    let sheet = nat_cmp-IsAntisymmetric x.sheet y.sheet (first-equal (nat_cmp x.sheet y.sheet) tops e) in
    let top = nat_cmp-IsAntisymmetric x.top y.top (first-equal (nat_cmp x.top y.top) lefts rest) in
    let left = nat_cmp-IsAntisymmetric x.left y.left (first-equal (nat_cmp x.left y.left) last below) in
    let bottom = nat_cmp-IsAntisymmetric x.bottom y.bottom (first-equal (nat_cmp x.bottom y.bottom) (nat_cmp x.right y.right) ends) in
    let right = nat_cmp-IsAntisymmetric x.right y.right (second-equal (nat_cmp x.bottom y.bottom) (nat_cmp x.right y.right) ends) in
    λ i. record { sheet = sheet i; top = top i; left = left i; bottom = bottom i; right = right i }
