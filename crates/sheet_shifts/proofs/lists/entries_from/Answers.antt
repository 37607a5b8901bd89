use Rattle.std.proofs.Common.{rules, of_calls, ◌≡◌, ◌-◌, sym, ap, subst, arith, length, drop, ◌∙◌}
use Rattle.std.proofs.lemmas.Fn.{always_returns_same}
use Rattle.std.specs.List.Sorted.{IsPartitionedBy}
use Rattle.sheet_shifts.specs.Listed.{listed}
use Rattle.sheet_shifts.proofs.Listing.{IsParted, is_before, is-parted, parted, take-rest}
use Rattle.sheet_shifts.proofs.lists.entries_from.Goals as goal

pub returns : goal.returns
returns g c = λ pick run is within.
    let from = c.args.from in
    let n = c.partition_point-start.result in
    let ordered = subst (IsPartitionedBy (is_before from)) (sym is) (is-parted pick from run) in
    let point = c.partition_point-start.ensures.partitioned (is_before from) (always_returns_same _ _ _ (λ a r f k. search (rules, of_calls))) ordered in
    let whole : from - 0 ≡ from = omega arith in
    let long : length c.args.list.now ≡ length (listed pick 0 run) = ap length is in
    let parts : IsParted from (listed pick 0 run) n = subst (λ l. IsParted from l n) is point in
    take-rest n c.args.list.now ∙ ap (drop n) is ∙ parted pick from run 0 n (omega (arith, long, c.partition_point-start.ensures.bound)) (omega arith) (omega (arith, within)) parts ∙ ap (λ k. listed pick from (drop k run)) whole
