use Rattle.std.proofs.Common.{subst}
use Rattle.std.proofs.lemmas.Option.{IfSome_then}
use Rattle.sheet_shifts.specs.internal.Going.{GoesBy, TakesPlace}
use Rattle.sheet_shifts.proofs.Going.{part-ahead, place-goes}
use Rattle.sheet_shifts.proofs.ahead.AheadWay.place.Goals as goal

pub returns : goal.returns
returns c =
    let w = c.args.self.now in
    let run = w.lists.now.run.items in
    IfSome_then c.place_over.result c.place_over.ensures (λ to goes. place-goes _ c.args.p to (subst (λ r. GoesBy TakesPlace r c.args.p to) (part-ahead w.from c.args.count run) goes))
