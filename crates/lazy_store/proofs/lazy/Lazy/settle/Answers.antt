use Rattle.std.proofs.Common.{◌≤◌, ◌∙◌, ap, sym, arith, le-ltb, max, nat_eq, option_map}
use Rattle.std.specs.HashMap as hash
use Rattle.shift_line.specs.Track.{last}
use Rattle.lazy_store.specs.Holders.{kept_of, kept_under}
use Rattle.lazy_store.specs.declared.holders.Side.TheVariants.{Before}
use Rattle.lazy_store.proofs.Noted.{forgotten-last, noted-within}
use Rattle.lazy_store.proofs.Positions.{cut-positions, mapped-position, swept-positions}
use Rattle.lazy_store.proofs.Stores.{settled-at, settled-coherent, settled-live, settled-shown, settled-sound}
use Rattle.lazy_store.proofs.Tables.{found-in, mapped-some}
use Rattle.lazy_store.proofs.lazy.Lazy.settle.Goals as goal

pub bring_all-requires-clause-within : goal.bring_all-requires-clause-within
bring_all-requires-clause-within c = omega (arith, c.requires.cursor, c.cursor.ensures.result, c.cursor.ensures.last)

pub bring_all-requires-clause-among : goal.bring_all-requires-clause-among
bring_all-requires-clause-among c = λ id h is off.
    let holders = c.args.self.now.holders in
    let (x, found, same) = mapped-some kept_of (hash.get nat_eq holders id) h is in
    found-in holders id x found

pub invariant_of-self : goal.invariant_of-self
invariant_of-self c =
    let store = c.args.self.now in
    record {
      sound = store.sound;
      coherent = c.bring_all.ensures.sweeps.along.coherent;
      noted = noted-within c.bring_all.new.holders store.line c.let_go.new.self c.bring_all.ensures.sweeps.along.coherent (λ id k to. c.let_go.ensures.noted id k (omega (arith, to, c.last-2.ensures)));
    }

pub returns-in_err-bring_all-clause-kept : goal.returns-in_err-bring_all-clause-kept
returns-in_err-bring_all-clause-kept c = λ id h is above.
    ap (option_map (λ k. (k.position, (k.home, k.tree)))) (c.bring_all.ensures.sweeps.others id h is (le-ltb h.position c.args.position above) ∙ sym is)

pub invariant_of-self-2 : goal.invariant_of-self-2
invariant_of-self-2 c =
    let store = c.args.self.now in
    let within : c.args.position ≤ last store.line = omega (arith, c.requires.cursor, c.cursor.ensures.result, c.cursor.ensures.last) in
    record {
      sound = settled-sound c.args.position store.line c.forget_before.new.self store.holders c.bring_all.new.holders c.cut_all.new.holders c.requires.first within store.sound c.forget_before.ensures.kept
          c.bring_all.ensures.sweeps c.in_ok-bring_all.ensures.ok c.cut_all.ensures.cuts;
      coherent = settled-coherent c.args.position store.line c.forget_before.new.self store.holders c.bring_all.new.holders c.cut_all.new.holders c.requires.first within store.sound c.forget_before.ensures.kept
          c.bring_all.ensures.sweeps c.in_ok-bring_all.ensures.ok c.cut_all.ensures.cuts;
      noted = noted-within c.cut_all.new.holders c.forget_before.new.self c.let_go.new.self
          (settled-coherent c.args.position store.line c.forget_before.new.self store.holders c.bring_all.new.holders c.cut_all.new.holders c.requires.first within store.sound c.forget_before.ensures.kept
          c.bring_all.ensures.sweeps c.in_ok-bring_all.ensures.ok c.cut_all.ensures.cuts)
          (λ id k to. c.let_go.ensures.noted id k (omega (arith, to, c.last-2.ensures, forgotten-last c.args.position store.line c.forget_before.new.self c.forget_before.ensures.kept c.requires.first within)));
    }

pub returns-clause-standings : goal.returns-clause-standings
returns-clause-standings c =
    let store = c.args.self.now in
    let within : c.args.position ≤ last store.line = omega (arith, c.requires.cursor, c.cursor.ensures.result, c.cursor.ensures.last) in
    record {
      live = settled-live c.args.position store.line c.forget_before.new.self store.holders c.bring_all.new.holders c.cut_all.new.holders c.requires.first within store.sound c.forget_before.ensures.kept
          c.bring_all.ensures.sweeps c.in_ok-bring_all.ensures.ok c.cut_all.ensures.cuts;
      at = settled-at c.args.position store.line c.forget_before.new.self store.holders c.bring_all.new.holders c.cut_all.new.holders c.requires.first within store.sound c.forget_before.ensures.kept
          c.bring_all.ensures.sweeps c.in_ok-bring_all.ensures.ok c.cut_all.ensures.cuts;
    }

pub returns-clause-placed : goal.returns-clause-placed
returns-clause-placed c =
    let store = c.args.self.now in
    λ id. cut-positions c.args.position c.bring_all.new.holders c.cut_all.new.holders c.cut_all.ensures.cuts id
    ∙ swept-positions store.line Before c.args.position store.holders c.bring_all.new.holders c.bring_all.ensures.sweeps c.in_ok-bring_all.ensures.ok c.in_ok-bring_all.ensures.placed id
    ∙ mapped-position (max c.args.position) (kept_under store.holders id)

pub returns-clause-kept : goal.returns-clause-kept
returns-clause-kept c =
    let store = c.args.self.now in
    let within : c.args.position ≤ last store.line = omega (arith, c.requires.cursor, c.cursor.ensures.result, c.cursor.ensures.last) in
    settled-shown c.args.position store.line c.forget_before.new.self store.holders c.bring_all.new.holders c.cut_all.new.holders c.requires.first within store.sound c.forget_before.ensures.kept
    c.bring_all.ensures.sweeps c.in_ok-bring_all.ensures.ok c.cut_all.ensures.cuts
