use Rattle.std.proofs.Common.{◌≤◌, arith, get_or, length}
use Rattle.std.proofs.lemmas.Option.{slice_get-get_or}
use Rattle.lazy_store.proofs.Noted.{all-dropped, drop-more}
use Rattle.lazy_store.proofs.holders.drop_these_born_beyond.Goals as goal

pub ids-preserved : goal.ids-preserved
ids-preserved c =
    let told = c.drop_if_born_beyond.ensures in
    drop-more c.args.position c.args.ids.now c.args.holders.now c.ids.holders c.drop_if_born_beyond.new.holders (get_or c.args.ids.now c.ids.index 0) c.ids.index c.ids.invariant (slice_get-get_or c.args.ids.now c.ids.index 0 c.ids-test.true) told.found told.others told.spare

pub returns-clause-found : goal.returns-clause-found
returns-clause-found c =
    let whole : length c.args.ids.now ≤ c.ids.index = omega (arith, c.ids-test.false) in
    all-dropped c.args.position c.args.ids.now c.args.holders.now c.ids.holders c.ids.index c.ids.invariant whole c.requires

pub returns-clause-spare : goal.returns-clause-spare
returns-clause-spare c = c.ids.invariant.spare
