use Rattle.std.proofs.Common.{◌∙◌, ap, arith, refl, ◌++◌, ◌∷◌, []}
use Rattle.std.specs.Prelude.{slice_get}
use Rattle.dep_graph.specs.internal.Files.{IsSpotOf}
use Rattle.dep_graph.specs.internal.Filings.{owner_at}
use Rattle.dep_graph.proofs.FiledCells.{count_pushed, files_on, got_last, only_new, owner_inside, owner_pushed, rooms_pushed, serves_pushed}
use Rattle.dep_graph.proofs.files.Files.file.Goals as goal

pub invariant_of-self : goal.invariant_of-self
invariant_of-self c =
    let old = c.args.self.now in
    let owners = c.push_filing.new.owners in
    let serves = c.push_filing.new.serves in
    record {
      rooms = rooms_pushed old.owners owners old.serves serves _ c.args.number c.push_filing.ensures.owners c.push_filing.ensures.serves old.rooms;
      owned = λ n f is. owner_pushed old.owners owners _ c.args.number f c.push_filing.ensures.owners (owner_inside old.owners.items f n (old.owned n f is)) ∙ old.owned n f is;
      served = λ n f is. serves_pushed old.serves serves _ f c.push_filing.ensures.serves ∙ old.served n f is;
      within = λ sheet row col f found. let low = old.within sheet row col f found in omega (arith, low, count_pushed old.owners owners _ c.args.number c.push_filing.ensures.owners);
      within_wholes = λ sheet row col f found. let low = old.within_wholes sheet row col f found in omega (arith, low, count_pushed old.owners owners _ c.args.number c.push_filing.ensures.owners);
    }

pub returns-in_err-file_spots-clause-on : goal.returns-in_err-file_spots-clause-on
returns-in_err-file_spots-clause-on c =
    files_on (IsSpotOf c.args.lines.now c.args.range) c.len-filing.result c.args.self.now _ c.file_spots.new.self refl refl (omega (arith, c.len-filing.ensures)) c.file_spots.ensures.filed
    c.push_filing.new.owners c.push_filing.new.serves _ c.args.number c.file_spots.ensures.current c.file_spots.ensures.owners c.file_spots.ensures.serves c.push_filing.ensures.owners c.push_filing.ensures.serves

pub returns-clause-on : goal.returns-clause-on
returns-clause-on c =
    files_on (IsSpotOf c.args.lines.now c.args.range) c.len-filing.result c.args.self.now _ c.file_spots.new.self refl refl (omega (arith, c.len-filing.ensures)) c.file_spots.ensures.filed
    c.push_filing.new.owners c.push_filing.new.serves _ c.args.number c.file_spots.ensures.current c.file_spots.ensures.owners c.file_spots.ensures.serves c.push_filing.ensures.owners c.push_filing.ensures.serves

pub returns-clause-owner : goal.returns-clause-owner
returns-clause-owner c =
    ap (λ v. owner_at v c.len-filing.result) c.file_spots.ensures.owners
    ∙ (ap (λ xs. slice_get xs c.len-filing.result) c.in_ok-push_filing.ensures.owners
    ∙ (ap (λ i. slice_get (c.args.self.now.owners.items ++ c.args.number ∷ []) i) (c.len-filing.ensures ∙ c.args.self.now.owners.ok.0) ∙ got_last c.args.self.now.owners.items c.args.number))

pub returns-clause-exact : goal.returns-clause-exact
returns-clause-exact c spot = (
  λ found. only_new (IsSpotOf c.args.lines.now c.args.range) c.len-filing.result c.args.self.now _ c.file_spots.new.self refl refl (omega (arith, c.len-filing.ensures)) c.file_spots.ensures.filed spot found,
  λ has. c.in_ok-file_spots.ensures.found spot has,
)
