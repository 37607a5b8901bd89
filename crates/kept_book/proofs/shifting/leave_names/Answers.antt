use Rattle.std.proofs.Common.{◌≡◌, ◌∙◌, ◌-◌, ◌+◌, ◌<◌, ap, arith, length, map, drop, None}
use Rattle.name_table.specs.Named.{names_of}
use Rattle.kept_book.specs.Change.{names_with}
use Rattle.kept_book.specs.Kept.{name_change}
use Rattle.kept_book.specs.declared.part.NameChange.{NameChange}
use Rattle.kept_book.proofs.ChangesInOrder.{left-step}
use Rattle.kept_book.proofs.shifting.leave_names.Goals as goal

abbrev none : NameChange
none = record { scope = None; word = 0; before = None; after = None }

pub loop-index-preserved : goal.loop-index-preserved
loop-index-preserved c =
    let i = c.loop-index.index - 1 in
    let cs = c.args.left.now in
    let last : c.loop-index.index ≡ i + 1 = omega (arith, c.loop-index-test.true) in
    let below : i < length cs = omega (arith, c.loop-index-test.true, c.loop-index.auto.index) in
    let there = c.loop-index.invariant.0 ∙ ap (λ n. names_with (λ x. x.1) (map name_change (drop n cs)) (names_of c.args.names.now)) last in (
      left-step cs i none (names_of c.args.names.now) (names_of c.loop-index.names) (names_of c.remove.new.self) c.requires below there c.remove.ensures.removed,
      c.remove.ensures.words ∙ c.loop-index.invariant.1,
      c.remove.ensures.sheets ∙ c.loop-index.invariant.2,
    )
