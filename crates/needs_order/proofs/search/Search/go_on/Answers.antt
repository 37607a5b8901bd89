use Rattle.std.proofs.Common.{◌≡◌, ◌<◌, ◌≤◌, sym, subst, length, get_or, rules}
use Rattle.std.proofs.lemmas.Result.{on_ok_weaker}
use Rattle.needs_order.specs.Needs.{lists_of}
use Rattle.needs_order.specs.internal.Search.{needs_of, GoesThrough}
use Rattle.needs_order.proofs.Steps.{gone_sound, goes_on_opening}
use Rattle.needs_order.proofs.search.Search.go_on.Goals as goal

pub returns-in_ok-push-in-Some : goal.returns-in_ok-push-in-Some
returns-in_ok-push-in-Some c =
    let lists = lists_of c.args.needs.now in
    let list = needs_of lists c.args.visit.node in
    let gone = c.gone_through-visit.result in
    let same : c.list_of-list.result.now ≡ list = c.list_of-list.ensures in
    let goes : GoesThrough list c.args.self.now.marks.items c.args.visit gone =
    subst (λ marks. GoesThrough list marks c.args.visit gone) c.deref.ensures.value (subst (λ xs. GoesThrough xs c.deref.result.now c.args.visit gone) same c.gone_through-visit.ensures) in
    let inside : gone.next < length c.list_of-list.result.now = search rules in
    let at : get_or c.list_of-list.result.now gone.next 0 ≡ c.in-Some.need.now = search rules in
    on_ok_weaker c.open.result
    (goes_on_opening lists c.args.self.now c.open.new.self c.push.new.self c.args.visit gone c.in-Some.need.now c.requires.nodes c.requires.sound goes
    (subst (λ xs. gone.next < length xs) same inside) (subst (λ xs. get_or xs gone.next 0 ≡ c.in-Some.need.now) same at) c.in_ok-push-in-Some.ensures.items)
    c.open.ensures

pub returns-in-None : goal.returns-in-None
returns-in-None c =
    let lists = lists_of c.args.needs.now in
    let list = needs_of lists c.args.visit.node in
    let gone = c.gone_through-visit.result in
    let same : c.list_of-list.result.now ≡ list = c.list_of-list.ensures in
    let goes : GoesThrough list c.args.self.now.marks.items c.args.visit gone =
    subst (λ marks. GoesThrough list marks c.args.visit gone) c.deref.ensures.value (subst (λ xs. GoesThrough xs c.deref.result.now c.args.visit gone) same c.gone_through-visit.ensures) in
    let done : length c.list_of-list.result.now ≤ gone.next = search rules in
    c.finish.ensures lists (gone_sound lists c.args.self.now c.args.self.now.visits c.args.visit gone c.requires.sound goes)
    (subst (λ a. length (needs_of lists a) ≤ gone.next) (sym goes.node) (subst (λ xs. length xs ≤ gone.next) same done))
