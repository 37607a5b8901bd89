use Rattle.std.proofs.Common.{◌≡◌, ◌∙◌, ◌≤◌, ◌⊎◌, ap, ℕ, min, subst, arith, option_map}
use Rattle.lazy_store.specs.Holders.{kept_of, kept_under}
use Rattle.lazy_store.specs.declared.holders.Side.TheVariants.{Beyond}
use Rattle.lazy_store.specs.internal.Sweeps.{Sweeps}
use Rattle.lazy_store.proofs.Noted.{noted-after, noted-back, off-among}
use Rattle.lazy_store.proofs.Positions.{behind-positions, mapped-position, position_under, swept-positions}
use Rattle.lazy_store.proofs.Stores.{StandBehind, all-within, none-beyond, stays-behind}
use Rattle.lazy_store.proofs.lazy.Lazy.come_back.Goals as goal

pub returns-then-last-cursor-clause-behind : goal.returns-then-last-cursor-clause-behind
returns-then-last-cursor-clause-behind c = λ id h is.
    let store = c.args.self.now in
    let within = all-within store.line store.holders store.coherent id h is in
    omega (arith, within, c.if-last-cursor.true, c.last-last.ensures, c.cursor-cursor.ensures.result)

pub returns-then-last-cursor-clause-placed : goal.returns-then-last-cursor-clause-placed
returns-then-last-cursor-clause-placed c =
    let store = c.args.self.now in
    behind-positions store.line.cursor store.holders (λ id h is.
    let within = all-within store.line store.holders store.coherent id h is in
    omega (arith, within, c.if-last-cursor.true, c.last-last.ensures, c.cursor-cursor.ensures.result))

pub beyond-among-requires : goal.beyond-among-requires
beyond-among-requires c =
    let store = c.args.self.now in
    noted-after store.holders store.line store.recent c.let_go_behind.new.self store.coherent store.noted (λ id k to. c.let_go_behind.ensures.noted id k (omega (arith, to, c.last-last.ensures)))

pub bring_all-requires-clause-among : goal.bring_all-requires-clause-among
bring_all-requires-clause-among c = off-among Beyond c.cursor-cursor.result c.beyond-among.result c.args.self.now.holders tt c.beyond-among.ensures

pub invariant_of-self-in-Break-1 : goal.invariant_of-self-in-Break-1
invariant_of-self-in-Break-1 c =
    let store = c.args.self.now in
    let recent = c.let_go_behind.new.self in
    let either = subst (λ l. (recent.from ≤ c.cursor-cursor.result) ⊎ (l ≤ recent.from)) c.last-last.ensures c.let_go_behind.ensures.either in
    record {
      sound = store.sound;
      coherent = c.bring_all.ensures.sweeps.along.coherent;
      noted = noted-back store.line recent Beyond c.cursor-cursor.result store.holders c.bring_all.new.holders tt c.bring_all.ensures.sweeps either
          (noted-after store.holders store.line store.recent recent store.coherent store.noted (λ id k to. c.let_go_behind.ensures.noted id k (omega (arith, to, c.last-last.ensures))));
    }

pub returns-in_err-bring_all-clause-kept : goal.returns-in_err-bring_all-clause-kept
returns-in_err-bring_all-clause-kept c =
    let store = c.args.self.now in
    stays-behind store.line store.holders store.line.cursor c.bring_all.new.holders
    (subst (λ k. Sweeps store.line Beyond k store.holders c.bring_all.new.holders) c.cursor-cursor.ensures.result c.bring_all.ensures.sweeps)

pub invariant_of-self-2-clause-noted : goal.invariant_of-self-2-clause-noted
invariant_of-self-2-clause-noted c = λ id h is.
    let behind = none-beyond c.args.self.now.line c.bring_all.new.holders c.cursor-cursor.result c.in_ok-bring_all.ensures.ok in
    c.let_go.ensures.noted id h.position (behind id (kept_of h) (ap (option_map kept_of) is))

pub returns-clause-placed : goal.returns-clause-placed
returns-clause-placed c =
    let store = c.args.self.now in
    let after = c.bring_all.new.holders in
    subst (λ k. (id : ℕ) → position_under after id ≡ option_map (min k) (position_under store.holders id)) c.cursor-cursor.ensures.result
    (λ id. swept-positions store.line Beyond c.cursor-cursor.result store.holders after c.bring_all.ensures.sweeps c.in_ok-bring_all.ensures.ok c.in_ok-bring_all.ensures.placed id ∙ mapped-position (min c.cursor-cursor.result) (kept_under store.holders id))

pub returns-clause-behind : goal.returns-clause-behind
returns-clause-behind c =
    subst (λ k. StandBehind k c.bring_all.new.holders) c.cursor-cursor.ensures.result (none-beyond c.args.self.now.line c.bring_all.new.holders c.cursor-cursor.result c.in_ok-bring_all.ensures.ok)

pub returns-clause-kept : goal.returns-clause-kept
returns-clause-kept c =
    let store = c.args.self.now in
    stays-behind store.line store.holders store.line.cursor c.bring_all.new.holders
    (subst (λ k. Sweeps store.line Beyond k store.holders c.bring_all.new.holders) c.cursor-cursor.ensures.result c.bring_all.ensures.sweeps)
