use Rattle.std.proofs.Common.{◌≡◌, sym, subst, []}
use Rattle.kept_values.proofs.UnderWords.{IsMoving, at_end, at_start, goes_on, none_left}
use Rattle.kept_values.proofs.sought.move_words.Goals as goal

pub words-init : goal.words-init
words-init c =
    subst (λ left. IsMoving c.args.s.now c.args.sought.now left c.replace-left.new.dest) (sym c.replace-left.ensures.value)
    (at_start c.args.s.now c.args.sought.now c.replace-left.new.dest (subst (λ m. m.entries ≡ []) (sym c.replace-left.ensures.after) c.new.ensures.empty))

pub words-preserved : goal.words-preserved
words-preserved c =
    goes_on c.args.s.now c.args.sought.now c.words.left c.pop.new.self c.words.sought c.move_word.new.moved c.in-Some.key c.in-Some.nodes c.in-Some.ensures.entries c.in-Some.ensures.updates.0 c.in_ok-move_word.ensures.here c.in_ok-move_word.ensures.others c.words.invariant

pub returns : goal.returns
returns c = at_end c.args.s.now c.args.sought.now c.words.left c.words.sought (none_left c.words.left.entries c.in_default.ensures.found.1) c.words.invariant
