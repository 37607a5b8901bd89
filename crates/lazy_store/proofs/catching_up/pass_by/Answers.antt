use Rattle.std.proofs.Common.{◌≡◌, ◌∙◌, sym, arith, rules, true, false, true≢false, not, inl, inr}
use Rattle.std.specs.HashMap as hash
use Rattle.std.proofs.lemmas.Bool.{not-false, not-true}
use Rattle.lazy_store.specs.Holders.{kept_under}
use Rattle.lazy_store.proofs.Budgets.{none-lags, one-stands, pass-brought, pass-stays, pass-up}
use Rattle.lazy_store.proofs.Noted.{noted-after, noted-brought}
use Rattle.lazy_store.proofs.catching_up.pass_by.Goals as goal

pub returns-in_default-clause-passed : goal.returns-in_default-clause-passed
returns-in_default-clause-passed c = λ budget first.
    let line = c.args.line.now in
    pass-up line line.cursor (hash.keys c.args.holders.now) budget c.requires.distinct c.args.index c.args.pass.left c.args.pass.all first (kept_under c.args.holders.now) (c.behind_at.ensures.none c.in_default.is)

pub returns-then-pass-clause-passed : goal.returns-then-pass-clause-passed
returns-then-pass-clause-passed c = λ budget first passed.
    let line = c.args.line.now in
    let k = line.cursor in
    let id = c.in-Some.id in
    let kept = kept_under c.args.holders.now in
    pass-stays line k (hash.keys c.args.holders.now) budget c.requires.distinct c.args.index c.args.pass.left c.args.pass.all first kept id c.in-Some.ensures.at passed (not c.stands_at.result)
    (λ h is lags. let far = (c.in-Some.ensures.behind h is).2 in let less = c.if-pass-ahead.true in omega (arith, far, less))
    (λ sure. (c.if-pass.true, none-lags line k (kept id) (sym c.stands_at.ensures ∙ not-true c.stands_at.result sure)))
    (λ unsure.
    let (h, is, there) = one-stands line k (kept id) (sym c.stands_at.ensures ∙ not-false c.stands_at.result unsure) in
    let behind = c.in-Some.ensures.behind h is in
    inr (h, is, record { live = behind.0; before = behind.1; there = there }))

pub returns-else-pass-clause-passed : goal.returns-else-pass-clause-passed
returns-else-pass-clause-passed c = λ budget first passed.
    let line = c.args.line.now in
    let id = c.in-Some.id in
    let kept = kept_under c.args.holders.now in
    pass-stays line line.cursor (hash.keys c.args.holders.now) budget c.requires.distinct c.args.index c.args.pass.left c.args.pass.all first kept id c.in-Some.ensures.at passed c.args.pass.all
    (λ h is lags. let far = (c.in-Some.ensures.behind h is).2 in let less = c.if-pass-ahead.true in omega (arith, far, less))
    (λ sure. absurd (true≢false (sym sure ∙ c.if-pass.false)))
    (λ unsure. inl unsure)

pub returns-then-not-stands_at-clause-passed : goal.returns-then-not-stands_at-clause-passed
returns-then-not-stands_at-clause-passed c = λ budget first passed.
    let line = c.args.line.now in
    let k = line.cursor in
    let id = c.in-Some.id in
    let kept = kept_under c.args.holders.now in
    let none : c.stands_at-2.result ≡ false = search rules in
    let up = none-lags line k (kept id) (sym c.stands_at-2.ensures ∙ none) in
    pass-stays line k (hash.keys c.args.holders.now) budget c.requires.distinct c.args.index c.args.pass.left c.args.pass.all first kept id c.in-Some.ensures.at passed c.args.pass.all
    (λ h is lags. absurd (up h is lags)) (λ sure. (sure, up)) (λ unsure. inl unsure)

pub returns-in_err-bring-clause-noted : goal.returns-in_err-bring-clause-noted
returns-in_err-bring-clause-noted c =
    let holders = c.args.holders.now in
    let line = c.args.line.now in
    noted-brought c.note.new.self holders c.bring.new.holders line c.in-Some.id c.bring.ensures.brings (λ k to. c.note.ensures.noted k (omega (arith, to, c.last.ensures)))
    (noted-after holders line c.args.recent.now c.note.new.self c.requires.coherent c.requires.noted (λ id k to. c.note.ensures.others id k (omega (arith, to, c.last.ensures))))

pub returns-clause-noted : goal.returns-clause-noted
returns-clause-noted c =
    let holders = c.args.holders.now in
    let line = c.args.line.now in
    noted-brought c.note.new.self holders c.bring.new.holders line c.in-Some.id c.bring.ensures.brings (λ k to. c.note.ensures.noted k (omega (arith, to, c.last.ensures)))
    (noted-after holders line c.args.recent.now c.note.new.self c.requires.coherent c.requires.noted (λ id k to. c.note.ensures.others id k (omega (arith, to, c.last.ensures))))

pub returns-clause-passed : goal.returns-clause-passed
returns-clause-passed c = λ budget first passed.
    let line = c.args.line.now in
    let k = line.cursor in
    let id = c.in-Some.id in
    let kept = kept_under c.args.holders.now in
    let some : c.stands_at-2.result ≡ true = search rules in
    let (h, is, there) = one-stands line k (kept id) (sym c.stands_at-2.ensures ∙ some) in
    let behind = c.in-Some.ensures.behind h is in
    pass-brought line k (hash.keys c.args.holders.now) budget c.requires.distinct c.args.index c.args.pass.left c.args.pass.all first c.args.holders.now c.bring.new.holders id c.in-Some.ahead h c.in-Some.ensures.at is behind.1 behind.2
    (omega (arith, c.if-pass-ahead.false)) c.bring.ensures.brings (λ g kept. c.in_ok-bring.ensures.ok g kept ∙ c.cursor.ensures.result) passed
