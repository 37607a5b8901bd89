use Rattle.std.proofs.Common.{◌≡◌, ◌≢◌, ◌<◌, ◌∙◌, sym, ap, subst, [], length, reverse, rules}
use Rattle.std.proofs.lemmas.List.{length-map}
use Rattle.needs_order.specs.declared.search.Mark.TheVariants.{Unseen}
use Rattle.needs_order.specs.Needs.{lists_of}
use Rattle.needs_order.specs.internal.Search.{mark_at, IsSound}
use Rattle.needs_order.proofs.Steps.{begins, met_is_closed}
use Rattle.needs_order.proofs.search.Search.close_from.Goals as goal

pub walking-init : goal.walking-init
walking-init c =
    let lists = lists_of c.args.needs.now in
    let s = c.args.self.now in
    let t = c.open.new.self in
    let inside : c.args.node < length lists = rw length-map c.requires.inside in
    let unmet : mark_at s.marks.items c.args.node ≡ Unseen = ap (λ marks. mark_at marks c.args.node) (sym c.deref.ensures.value) ∙ sym c.mark_of.ensures ∙ c.in-Unseen.is in
    begins lists s t c.args.node c.requires.idle inside unmet c.in_ok-open.ensures

pub returns-in_default-pop-clause-closed : goal.returns-in_default-pop-clause-closed
returns-in_default-pop-clause-closed c =
    let lists = lists_of c.args.needs.now in
    let s = c.walking.self in
    let none : s.visits.items ≡ [] = search rules in
    met_is_closed lists s c.args.node (subst (λ visits. IsSound lists s (reverse visits)) none c.walking.invariant.0, none) c.walking.invariant.2

pub returns-in_default-clause-closed : goal.returns-in_default-clause-closed
returns-in_default-clause-closed c =
    let met : mark_at c.args.self.now.marks.items c.args.node ≢ Unseen = λ new. c.in_default.not-Unseen (c.mark_of.ensures ∙ ap (λ marks. mark_at marks c.args.node) c.deref.ensures.value ∙ new) in
    met_is_closed (lists_of c.args.needs.now) c.args.self.now c.args.node c.requires.idle met
