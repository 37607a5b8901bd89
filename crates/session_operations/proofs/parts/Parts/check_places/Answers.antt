use Rattle.session_operations.specs.Seen.{state_of}
use Rattle.session_operations.proofs.WrittenCells.{all_passed, first_passed}
use Rattle.session_operations.proofs.parts.Parts.check_places.Goals as goal

pub loop-at-preserved : goal.loop-at-preserved
loop-at-preserved c = first_passed (state_of c.args.self.now) c.args.cells.now c.loop-at.at-index c.loop-at-item.result c.loop-at-test.true c.loop-at-item.is c.loop-at.invariant c.in_ok-check_place.ensures

pub returns : goal.returns
returns c = all_passed (state_of c.args.self.now) c.args.cells.now c.loop-at.at-index c.loop-at-test.false c.loop-at.invariant
