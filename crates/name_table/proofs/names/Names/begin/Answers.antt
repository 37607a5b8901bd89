-- Names are added that have no holder, and are changed.
use Rattle.std.proofs.Common.{◌∙◌, sym, ap, subst, ℕ, ◌<◌, length}
use Rattle.std.specs.List.{AllByRecursion}
use Rattle.name_table.specs.Drafts.{without}
use Rattle.name_table.specs.Named.{names_of, words_of}
use Rattle.name_table.specs.declared.key.NameKey.{NameKey}
use Rattle.name_table.specs.internal.Fresh.{KeepsOthers, with_added}
use Rattle.name_table.proofs.DraftedNames.{all-held, back-again, fresh-known, same-in-the-end}
use Rattle.name_table.proofs.names.Names.begin.Goals as goal

pub add_all-requires : goal.add_all-requires
add_all-requires c =
    let n = length (words_of c.args.self.now) in
    subst (AllByRecursion (λ (e : NameKey × ℕ). e.0.word < n)) (sym (c.deref.ensures.value ∙ c.in_ok-fresh.ensures))
    (fresh-known (names_of c.args.self.now) n c.args.draft.names.entries c.requires.known)

pub returns-in-Ok-clause-ready : goal.returns-in-Ok-clause-ready
returns-in-Ok-clause-ready c =
    let names = names_of c.args.self.now in
    let mid = names_of c.add_all.new.self in
    let others = subst (λ l. KeepsOthers l names mid) c.deref.ensures.value c.in-Ok.ensures.others in
    all-held names c.args.draft.names c.in_ok-fresh.fresh.items c.in_ok-fresh.ensures mid others (c.in-Ok.ensures.added ∙ ap (λ l. with_added l names) c.deref.ensures.value)

pub returns-in-Ok-clause-finished : goal.returns-in-Ok-clause-finished
returns-in-Ok-clause-finished c =
    let names = names_of c.args.self.now in
    let mid = names_of c.add_all.new.self in
    same-in-the-end names c.args.draft.names c.in_ok-fresh.fresh.items c.in_ok-fresh.ensures mid (subst (λ l. KeepsOthers l names mid) c.deref.ensures.value c.in-Ok.ensures.others)

pub returns-in-Ok-clause-cancelled : goal.returns-in-Ok-clause-cancelled
returns-in-Ok-clause-cancelled c =
    let names = names_of c.args.self.now in
    let mid = names_of c.add_all.new.self in
    back-again names c.args.draft.names c.in_ok-fresh.fresh.items c.in_ok-fresh.ensures mid (subst (λ l. KeepsOthers l names mid) c.deref.ensures.value c.in-Ok.ensures.others)

pub returns-in-Err-clause-err : goal.returns-in-Err-clause-err
returns-in-Err-clause-err c =
    let names = names_of c.args.self.now in
    let mid = names_of c.add_all.new.self in
    c.remove_all.ensures.names ∙ ap (λ l. without l mid) c.deref-in-Err.ensures.value
    ∙ back-again names c.args.draft.names c.in_ok-fresh.fresh.items c.in_ok-fresh.ensures mid (subst (λ l. KeepsOthers l names mid) c.deref.ensures.value c.in-Err.ensures.others)
