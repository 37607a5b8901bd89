use Rattle.std.proofs.Common.{◌∙◌, sym, arith}
use Rattle.lazy_store.proofs.Stepping.{fewer, not-equal}
use Rattle.lazy_store.proofs.holder.drop_before.Goals as goal

pub saved-preserved-else-position-first : goal.saved-preserved-else-position-first
saved-preserved-else-position-first c = λ k from. c.remove.ensures.updates.2 k (not-equal c.in-Some.first k (λ e. omega (arith, e, from, c.if-position-first.false))) ∙ c.saved.invariant k from

pub saved-smaller : goal.saved-smaller
saved-smaller c = fewer c.remove.result _ _ (λ none. c.in-Some.ensures.there (sym c.remove.ensures.value ∙ none)) c.remove.ensures.len
