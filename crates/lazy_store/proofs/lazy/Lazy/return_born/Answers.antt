use Rattle.std.proofs.Common.{◌≡◌, ◌<◌, ◌≤◌, ◌⊎◌, ℕ, arith, subst, sym, Some, option_map}
use Rattle.std.proofs.lemmas.Result.{on_ok_weaker}
use Rattle.lazy_store.specs.Holders.{kept_under}
use Rattle.lazy_store.specs.Kept.{Kept}
use Rattle.lazy_store.specs.Store.{back_at}
use Rattle.lazy_store.specs.declared.holders.Side.TheVariants.{Returning}
use Rattle.lazy_store.specs.internal.Sweeps.{Sweeps}
use Rattle.lazy_store.proofs.Born.{can-return, keeps-behind, keeps-unborn, none-returning, returned-stay}
use Rattle.lazy_store.proofs.Noted.{noted-after, noted-back, off-among}
use Rattle.lazy_store.proofs.Positions.{behind-returned, on_ok_both, position_under, swept-positions}
use Rattle.lazy_store.proofs.Stores.{all-within}
use Rattle.lazy_store.proofs.lazy.Lazy.return_born.Goals as goal

pub returns-then-last-cursor-clause-placed : goal.returns-then-last-cursor-clause-placed
returns-then-last-cursor-clause-placed c =
    let store = c.args.self.now in
    behind-returned store.line.cursor store.holders (λ id h is.
    let within = all-within store.line store.holders store.coherent id h is in
    omega (arith, within, c.if-last-cursor.true, c.last-last.ensures, c.cursor-cursor.ensures.result))

pub returns-then-last-cursor-clause-returned : goal.returns-then-last-cursor-clause-returned
returns-then-last-cursor-clause-returned c = λ id h is above.
    let store = c.args.self.now in
    let within = all-within store.line store.holders store.coherent id h is in
    absurd (omega (arith, within, above, c.if-last-cursor.true, c.last-last.ensures, c.cursor-cursor.ensures.result))

pub bring_all-requires-clause-there : goal.bring_all-requires-clause-there
bring_all-requires-clause-there c =
    let store = c.args.self.now in
    can-return store.line c.cursor-cursor.result store.holders store.sound store.coherent c.cursor-cursor.ensures.first

pub beyond-among-requires : goal.beyond-among-requires
beyond-among-requires c =
    let store = c.args.self.now in
    noted-after store.holders store.line store.recent c.let_go_behind.new.self store.coherent store.noted (λ id k to. c.let_go_behind.ensures.noted id k (omega (arith, to, c.last-last.ensures)))

pub bring_all-requires-clause-among : goal.bring_all-requires-clause-among
bring_all-requires-clause-among c = off-among Returning c.cursor-cursor.result c.beyond-among.result c.args.self.now.holders tt c.beyond-among.ensures

pub invariant_of-self-2-clause-noted : goal.invariant_of-self-2-clause-noted
invariant_of-self-2-clause-noted c =
    let store = c.args.self.now in
    let recent = c.let_go_behind.new.self in
    let either = subst (λ l. (recent.from ≤ c.cursor-cursor.result) ⊎ (l ≤ recent.from)) c.last-last.ensures c.let_go_behind.ensures.either in
    noted-back store.line recent Returning c.cursor-cursor.result store.holders c.bring_all.new.holders tt c.bring_all.ensures.sweeps either
    (noted-after store.holders store.line store.recent recent store.coherent store.noted (λ id k to. c.let_go_behind.ensures.noted id k (omega (arith, to, c.last-last.ensures))))

pub returns-clause-placed : goal.returns-clause-placed
returns-clause-placed c =
    let store = c.args.self.now in
    let after = c.bring_all.new.holders in
    on_ok_both c.bring_all.result (λ on placed. subst (λ k. (id : ℕ) → position_under after id ≡ option_map (back_at k) (kept_under store.holders id)) c.cursor-cursor.ensures.result
    (swept-positions store.line Returning c.cursor-cursor.result store.holders after c.bring_all.ensures.sweeps on placed)) c.bring_all.ensures.ok c.bring_all.ensures.placed

pub returns-clause-returned : goal.returns-clause-returned
returns-clause-returned c =
    let store = c.args.self.now in
    let after = c.bring_all.new.holders in
    on_ok_weaker c.bring_all.result (λ on. subst (λ k. (id : ℕ) (h : Kept) → kept_under after id ≡ Some h → k < h.position → k < h.birth) c.cursor-cursor.ensures.result (none-returning store.line c.cursor-cursor.result after on)) c.bring_all.ensures.ok

pub returns-clause-kept : goal.returns-clause-kept
returns-clause-kept c =
    let store = c.args.self.now in
    keeps-behind store.line store.line.cursor store.holders c.bring_all.new.holders (subst (λ k. Sweeps store.line Returning k store.holders c.bring_all.new.holders) c.cursor-cursor.ensures.result c.bring_all.ensures.sweeps)

pub returns-clause-born : goal.returns-clause-born
returns-clause-born c =
    let store = c.args.self.now in
    keeps-unborn store.line store.line.cursor store.holders c.bring_all.new.holders (subst (λ k. Sweeps store.line Returning k store.holders c.bring_all.new.holders) c.cursor-cursor.ensures.result c.bring_all.ensures.sweeps)

pub returns-clause-free : goal.returns-clause-free
returns-clause-free c = λ returned.
    let store = c.args.self.now in
    c.bring_all.ensures.free (returned-stay store.line c.cursor-cursor.result store.holders (subst (λ k. (id : ℕ) (h : Kept) → kept_under store.holders id ≡ Some h → k < h.position → k < h.birth) (sym c.cursor-cursor.ensures.result) returned))
