use Rattle.std.proofs.Common.{◌≤◌, arith}
use Rattle.shift_line.specs.Track.{last}
use Rattle.lazy_store.specs.Holders.{kept_of}
use Rattle.lazy_store.proofs.Born.{all-born, born-before, born-behind, born-coherent, born-kept, born-standings, found-here}
use Rattle.lazy_store.proofs.Noted.{noted-born}
use Rattle.lazy_store.proofs.Stores.{all-within}
use Rattle.lazy_store.proofs.lazy.Lazy.forget_beyond.Goals as goal

pub returns-then-last-cursor-clause-kept : goal.returns-then-last-cursor-clause-kept
returns-then-last-cursor-clause-kept c =
    let store = c.args.self.now in
    let past : last store.line ≤ store.line.cursor = omega (arith, c.if-last-cursor.true, c.last.ensures, c.cursor-cursor.ensures.result) in
    all-born store.line store.line.cursor store.holders store.coherent past

pub returns-then-last-cursor-clause-behind : goal.returns-then-last-cursor-clause-behind
returns-then-last-cursor-clause-behind c = λ returned id h is.
    let store = c.args.self.now in
    let within = all-within store.line store.holders store.coherent id h is in
    omega (arith, within, c.if-last-cursor.true, c.last.ensures, c.cursor-cursor.ensures.result)

pub drop_born_beyond-requires : goal.drop_born_beyond-requires
drop_born_beyond-requires c = λ id h is under.
    let born = born-before c.args.self.now.line (kept_of h) (c.args.self.now.coherent id h is) in
    c.beyond-among.ensures id h is (omega (arith, under, born))

pub invariant_of-self-2 : goal.invariant_of-self-2
invariant_of-self-2 c =
    let store = c.args.self.now in
    record { sound = store.sound; coherent = born-coherent store.line store.line.cursor store.holders c.drop_born_beyond.new.holders (found-here store.holders c.drop_born_beyond.new.holders c.cursor-cursor.result store.line.cursor c.cursor-cursor.ensures.result c.drop_born_beyond.ensures.found) store.coherent; noted = noted-born store.recent store.holders c.drop_born_beyond.new.holders c.cursor-cursor.result c.drop_born_beyond.ensures.found store.noted }

pub returns-clause-kept : goal.returns-clause-kept
returns-clause-kept c =
    let store = c.args.self.now in
    born-kept store.line store.line.cursor store.holders c.drop_born_beyond.new.holders (found-here store.holders c.drop_born_beyond.new.holders c.cursor-cursor.result store.line.cursor c.cursor-cursor.ensures.result c.drop_born_beyond.ensures.found)

pub returns-clause-standings : goal.returns-clause-standings
returns-clause-standings c =
    let store = c.args.self.now in
    born-standings store.line store.line.cursor store.holders c.drop_born_beyond.new.holders (found-here store.holders c.drop_born_beyond.new.holders c.cursor-cursor.result store.line.cursor c.cursor-cursor.ensures.result c.drop_born_beyond.ensures.found) store.coherent

pub returns-clause-behind : goal.returns-clause-behind
returns-clause-behind c =
    let store = c.args.self.now in
    born-behind store.line store.line.cursor store.holders c.drop_born_beyond.new.holders (found-here store.holders c.drop_born_beyond.new.holders c.cursor-cursor.result store.line.cursor c.cursor-cursor.ensures.result c.drop_born_beyond.ensures.found)
