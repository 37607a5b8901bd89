use Rattle.std.proofs.Common.{◌∙◌, sym}
use Rattle.std.proofs.lemmas.Bool.{and_parts, false≢true}
use Rattle.kept_values.proofs.Following.{on_ok}
use Rattle.kept_values.proofs.seeking.note_word.Goals as goal

pub returns-then-none-clause-seeks : goal.returns-then-none-clause-seeks
returns-then-none-clause-seeks g c = on_ok c.put_under.result _ _ (λ there w h. there w (and_parts _ _ h).0) c.put_under.ensures.there

pub returns-else-none-clause-seeks : goal.returns-else-none-clause-seeks
returns-else-none-clause-seeks g c = λ w h. absurd (false≢true (sym c.if-none.false ∙ c.in_ok-none.ensures.none ∙ (and_parts _ _ h).1))
