use Rattle.std.proofs.Common.{◌∙◌, ap, ◌++◌, ◌∷◌, []}
use Rattle.kept_book.specs.Kept.{changes_of}
use Rattle.kept_steps.proofs.noting.push_step.Goals as goal

pub returns : goal.returns
returns c = (
  record { parts = c.push_reserved.new.self },
  ap changes_of (c.push_reserved.ensures.items ∙ ap (λ l. l ++ c.args.part ∷ []) c.requires.empty),
  ap (λ h. h.done) c.push.ensures,
  ap (λ h. h.undone) c.push.ensures,
  ap (λ h. h.limit) c.push.ensures,
)
