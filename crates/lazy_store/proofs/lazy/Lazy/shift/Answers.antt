use Rattle.std.proofs.Common.{◌≤◌, ◌∙◌, ap, sym, subst, refl}
use Rattle.std.proofs.lemmas.Result.{on_err_weaker, on_ok_weaker}
use Rattle.shift_line.specs.Track.{Track, last}
use Rattle.lazy_store.specs.internal.Sweeps.{at_under}
use Rattle.lazy_store.proofs.Stores.{StandBehind, one-on, tried, tried-coherent, tried-sound}
use Rattle.lazy_store.proofs.lazy.Lazy.shift.Goals as goal

pub returns-clause-standings : goal.returns-clause-standings
returns-clause-standings c =
    let told = c.in_ok-come_back.ensures in
    on_ok_weaker c.push.result (λ got. one-on c.args.s c.args.self.now c.come_back.new.self _ c.requires.sound told.line told.from told.within got refl told.behind told.standings) c.push.ensures.ok

pub returns-clause-placed : goal.returns-clause-placed
returns-clause-placed c = on_ok_weaker c.push.result (λ got. c.in_ok-come_back.ensures.placed) c.push.ensures.ok

pub returns-clause-err : goal.returns-clause-err
returns-clause-err c =
    let told = c.in_ok-come_back.ensures in
    on_err_weaker c.push.result (λ kept. record {
      live = told.standings.live;
      at = λ id k. ap (λ (l : Track). at_under l c.come_back.new.self.holders id k) kept ∙ told.standings.at id k;
    }) c.push.ensures.err

pub invariant_of-self : goal.invariant_of-self
invariant_of-self c =
    let mid = c.come_back.new.self in
    let told = c.in_ok-come_back.ensures in
    let attempt = tried c.push.result c.args.s mid.line c.push.new.self c.push.ensures.ok c.push.ensures.err in
    let from = subst (λ (l : Track). l.first ≤ l.cursor) (sym told.line) told.from in
    let within = subst (λ (l : Track). l.cursor ≤ last l) (sym told.line) told.within in
    record {
      sound = tried-sound c.args.s mid.line c.push.new.self c.requires.sound mid.sound from within attempt;
      coherent = tried-coherent c.args.s mid.line c.push.new.self c.requires.sound mid.sound from within mid.holders mid.coherent (subst (λ (l : Track). StandBehind l.cursor mid.holders) (sym told.line) told.behind) attempt;
      noted = mid.noted;
    }
