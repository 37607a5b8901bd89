use Rattle.std.proofs.Common.{◌≡◌, true, sym, subst}
use Rattle.cell_addr.specs.Place.{covers}
use Rattle.touch_index.proofs.Touching.{moved_blocks, moved_cells}
use Rattle.touch_index.proofs.index.TouchIndex.moved.Goals as goal

pub returns-clause-cells : goal.returns-clause-cells
returns-clause-cells c =
    moved_cells c.args.self.now c.args.lines.now c.args.source c.args.to c.find_in-4.new.found.items
    (λ p n kept here. c.in_ok-find_in-4.ensures.still n (c.in_ok-find_in-3.ensures.still n (c.in_ok-find_in-2.ensures.still n (c.in_ok-find_in.ensures.found p n kept here))))
    (λ p n kept there. c.in_ok-find_in-4.ensures.still n (c.in_ok-find_in-3.ensures.still n (c.in_ok-find_in-2.ensures.found p n kept (subst (λ b. covers b p ≡ true) (sym c.destination-destination.ensures) there))))

pub returns-clause-blocks : goal.returns-clause-blocks
returns-clause-blocks c =
    moved_blocks c.args.self.now c.args.lines.now c.args.source c.args.to c.find_in-4.new.found.items
    (λ p n kept here. c.in_ok-find_in-4.ensures.still n (c.in_ok-find_in-3.ensures.found p n kept here))
    (λ p n kept there. c.in_ok-find_in-4.ensures.found p n kept (subst (λ b. covers b p ≡ true) (sym c.destination-destination.ensures) there))
