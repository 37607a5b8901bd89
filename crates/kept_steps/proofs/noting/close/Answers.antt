use Rattle.std.proofs.Common.{◌≡◌, sym, ap, refl, subst, arith, ◌==◌, length, List, [], ◌∷◌}
use Rattle.std.proofs.lemmas.Bool.Decides.{nat_tests}
use Rattle.std.proofs.lemmas.List.{length-map}
use Rattle.std.specs.Prelude.{false}
use Rattle.undo_book.specs.History.{History}
use Rattle.kept_book.specs.Change.{Change}
use Rattle.kept_book.specs.Kept.{change_of}
use Rattle.kept_steps.specs.Fits.{changes_in}
use Rattle.kept_steps.specs.declared.entry.Entry.{Entry}
use Rattle.kept_steps.specs.internal.Noted.{Adds, Closes, ClosesWith}
use Rattle.kept_steps.proofs.noting.close.Goals as goal

closes : (cs : List Change) (old new : History Entry) → (length cs == 0) ≡ false → Adds cs old new → ClosesWith cs old new
closes [] old new some adds = absurd (grind (arith, nat_tests))
closes (c ∷ cs) old new some adds = adds

pub returns-then-not-is_empty : goal.returns-then-not-is_empty
returns-then-not-is_empty c =
    let entry = c.in-Some.entry in
    let long = length-map entry.parts.items change_of in
    let some : (length (changes_in entry) == 0) ≡ false = grind (arith, nat_tests, c.is_empty.ensures, c.if-not-is_empty.true, entry.parts.ok.0, long) in
    let adds : Adds (changes_in entry) c.args.steps.now c.push.new.self = (entry, refl, ap (λ h. h.done) c.push.ensures, ap (λ h. h.undone) c.push.ensures, ap (λ h. h.limit) c.push.ensures) in
    subst (λ b. Closes b c.args.steps.now c.push.new.self) (sym c.in-Some.is) (closes (changes_in entry) c.args.steps.now c.push.new.self some adds)
