use Rattle.std.proofs.Common.{◌∙◌, subst, sym, ◌<◌}
use Rattle.dep_graph.proofs.FiledCells.{owner_inside}
use Rattle.dep_graph.proofs.Put.{owned_serve, put_owned, put_served, then_given}
use Rattle.dep_graph.proofs.files.Files.put_few.Goals as goal

pub let_serve-requires : goal.let_serve-requires
let_serve-requires c = λ n all is.
    let files = c.args.self.now in
    let serving = c.requires.serving n all (then_given files c.args.filings.now n all is) in
    subst (λ k. all.last < k) (sym files.rooms) (owner_inside files.owners.items all.last n serving.1.0)

pub invariant_of-self : goal.invariant_of-self
invariant_of-self c =
    let files = c.args.self.now in
    let filings = c.args.filings.now in
    record {
      rooms = c.let_serve.ensures.count ∙ files.rooms;
      owned = put_owned files filings c.let_serve.new.serves c.requires.serving c.let_serve.ensures c.put_filings.new.current c.put_filings.ensures.kept;
      served = put_served files filings c.let_serve.new.serves c.requires.serving c.let_serve.ensures c.put_filings.new.current c.put_filings.ensures.kept;
      within = files.within;
      within_wholes = files.within_wholes;
    }

pub returns-clause-serves : goal.returns-clause-serves
returns-clause-serves c = owned_serve c.args.self.now c.args.filings.now c.let_serve.new.serves c.requires.serving c.let_serve.ensures
