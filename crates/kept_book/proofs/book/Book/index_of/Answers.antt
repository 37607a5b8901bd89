use Rattle.std.proofs.Common.{◌≡◌, ◌∙◌, ◌+◌, sym, subst, arith, suc}
use Rattle.name_table.specs.Listed.{listed}
use Rattle.kept_book.proofs.ChangedSheets.{StandsFrom, other-number, same-number, stands-behind, stands-here, stands-within}
use Rattle.kept_book.proofs.book.Book.index_of.Goals as goal

pub loop-index-init : goal.loop-index-init
loop-index-init c = c.requires

pub loop-index-preserved : goal.loop-index-preserved
loop-index-preserved c =
    let es = listed c.args.self.now.names in
    let i = c.loop-index.index in
    let next : suc i ≡ i + 1 = omega arith in
    subst (λ n. StandsFrom c.args.sheet n es) next
    (stands-behind c.args.sheet i es c.loop-index.invariant (λ same. other-number c.sheet_at.result c.args.sheet c.if-eq.ensures (c.sheet_at.ensures ∙ same)))

pub unreachable-requires : goal.unreachable-requires
unreachable-requires c =
    let less = stands-within c.args.sheet c.loop-index.index (listed c.args.self.now.names) c.loop-index.invariant in
    omega (arith, less, c.loop-index-test.false, c.len-index-end.ensures)

pub returns-then-eq : goal.returns-then-eq
returns-then-eq c =
    stands-here c.args.sheet c.loop-index.index (listed c.args.self.now.names) c.loop-index.invariant
    (sym c.sheet_at.ensures ∙ same-number c.sheet_at.result c.args.sheet c.if-eq.ensures)
