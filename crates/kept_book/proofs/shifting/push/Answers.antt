use Rattle.std.proofs.Common.{◌∙◌, sym, ap, option_map}
use Rattle.lazy_store.specs.Store.{kept_in}
use Rattle.kept_book.proofs.Inserted.{born-live}
use Rattle.kept_book.proofs.shifting.push.Goals as goal

pub returns-clause-live : goal.returns-clause-live
returns-clause-live c = λ live id e.
    live id
    (born-live c.args.lazy.now.line.cursor (kept_in c.args.lazy.now id) (ap (option_map (λ h. h.live)) (sym (c.forget_beyond.ensures.kept id)) ∙ sym (c.in-Ok.ensures.standings.live id) ∙ e))
