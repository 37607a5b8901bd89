use Rattle.std.proofs.Common.{◌∙◌, sym, ap, option_map, rules}
use Rattle.std.proofs.lemmas.Option.{same_Some}
use Rattle.std.proofs.lemmas.Result.{on_ok_weaker}
use Rattle.lazy_store.specs.Holders.{kept_of}
use Rattle.lazy_store.specs.Kept.{Kept}
use Rattle.lazy_store.proofs.Tables.{brings, brings-none}
use Rattle.lazy_store.proofs.holders.bring.Goals as goal

pub returns-in-Some-clause-brings : goal.returns-in-Some-clause-brings
returns-in-Some-clause-brings c =
    let after = c.go_to.new.self in
    let wrote = c.get_mut.follows.holds after in
    let updates = wrote.3 (search rules) in
    brings c.args.line.now c.args.id c.args.holders.now (c.get_mut.follows.lender after) c.in-Some.holder.now after (sym c.in-Some.ensures.value) updates.1 updates.2 wrote.1 wrote.6 c.requires.coherent c.go_to.ensures.along

pub returns-in-Some-clause-ok : goal.returns-in-Some-clause-ok
returns-in-Some-clause-ok c =
    let after = c.go_to.new.self in
    let updates = (c.get_mut.follows.holds after).3 (search rules) in
    on_ok_weaker c.go_to.result (λ place (h : Kept) is. ap (λ k. k.position) (sym (same_Some (kept_of after) h (sym (ap (option_map kept_of) updates.1) ∙ is))) ∙ place) c.go_to.ensures.ok

pub returns-in-None-clause-brings : goal.returns-in-None-clause-brings
returns-in-None-clause-brings c = rw c.get_mut.follows.holds-at-none (brings-none c.args.line.now c.args.id c.args.holders.now c.requires.coherent)

pub go_to-requires-clause-coherent : goal.go_to-requires-clause-coherent
go_to-requires-clause-coherent c = c.requires.coherent c.args.id c.in-Some.holder.now (sym c.in-Some.ensures.value)

pub go_to-requires-clause-there : goal.go_to-requires-clause-there
go_to-requires-clause-there c = c.requires.there (kept_of c.in-Some.holder.now) (ap (option_map kept_of) (sym c.in-Some.ensures.value))
