use Rattle.std.proofs.Common.{◌≡◌, ◌∙◌, ◌+◌, ◌-◌, ◌++◌, ◌∷◌, [], ap, sym, subst, arith, take, None, rules}
use Rattle.shift_line.specs.Track.{shift_at}
use Rattle.kept_book.specs.Change.{shift_of}
use Rattle.kept_book.specs.Kept.{change_of, changes_of}
use Rattle.kept_book.specs.internal.Exchange.{exchanged}
use Rattle.kept_book.specs.internal.Stepping.{cells_forth}
use Rattle.kept_book.proofs.ChangesInOrder.{forth-last, parts-before}
use Rattle.kept_book.proofs.passing.exchange_forth.Goals as goal

pub loop-index-preserved : goal.loop-index-preserved
loop-index-preserved c =
    let line = shift_at c.args.line.now in
    let ps = c.args.parts.now in
    let i = c.loop-index.index - 1 in
    let p = c.index-parts-index.result in
    let next : i + 1 ≡ c.loop-index.index = omega arith in
    let front : changes_of (take c.loop-index.index ps) ≡ changes_of (take i ps) ++ change_of p ∷ [] =
    subst (λ k. changes_of (take k ps) ≡ changes_of (take i ps) ++ change_of p ∷ []) next (parts-before ps i p (omega arith) c.index-parts-index.is) in
    let none : shift_of line (change_of p) ≡ None = search rules in
    record {
      forth = λ m. c.in_ok-put_before.ensures.changes (cells_forth line (changes_of (take i ps)) m)
          ∙ ap (exchanged c.loop-index.exchange) (sym (ap (λ cs. cells_forth line cs m) front ∙ forth-last line (changes_of (take i ps)) (change_of p) m none)) ∙ c.loop-index.invariant.forth m;
      inside = c.in_ok-put_before.ensures.inside;
    }
