use Rattle.std.proofs.Common.{◌≡◌, subst, sym}
use Rattle.range_table.specs.Table.{without_holders}
use Rattle.range_table.specs.internal.Kept.{map_if}
use Rattle.range_table.proofs.Numbers.{nothing_touched}
use Rattle.range_table.proofs.ranges.Ranges.touch.Goals as goal

pub returns-in-None : goal.returns-in-None
returns-in-None c =
    let old = c.args.self.now in
    let same : map_if old.kept ≡ without_holders c.args.at (map_if old.kept) = subst (λ o. map_if o ≡ without_holders c.args.at (map_if o)) (sym c.in-None.is) (nothing_touched c.args.at) in
    λ i. record { kept = same i; merged = old.merged }
