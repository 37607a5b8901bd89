use Rattle.std.proofs.Common.{subst, sym}
use Rattle.place_lines.specs.Moved.{AreMoved}
use Rattle.shift_core.specs.Form.{form_of}
use Rattle.dep_graph.specs.internal.Nets.{links_in}
use Rattle.dep_graph.proofs.Adding.{err_on, on_err, on_ok}
use Rattle.dep_graph.proofs.Growing.{grown_links, grows_on, same_after}
use Rattle.dep_graph.proofs.Shifting.{shifted_after}
use Rattle.dep_graph.proofs.net.Net.shift.Goals as goal

pub returns-in_err-keep_fresh-clause-err : goal.returns-in_err-keep_fresh-clause-err
returns-in_err-keep_fresh-clause-err c = on_err c.from_residual.result _ (grown_links c.args.self.now c.keep_fresh.new.self c.keep_fresh.ensures)

pub returns-in_err-lines-clause-err : goal.returns-in_err-lines-clause-err
returns-in_err-lines-clause-err c = on_err c.from_residual-in_err-lines.result _ (grown_links c.args.self.now c.keep_fresh.new.self c.keep_fresh.ensures)

pub returns-in_err-aims-clause-err : goal.returns-in_err-aims-clause-err
returns-in_err-aims-clause-err c =
    on_err c.from_residual-in_err-aims.result _ (grown_links c.args.self.now c.aims.new.self (grows_on c.args.self.now c.keep_fresh.new.self c.aims.new.self c.keep_fresh.ensures c.aims.ensures.grown))

pub move_by-requires-clause-moved : goal.move_by-requires-clause-moved
move_by-requires-clause-moved c = subst (λ l. AreMoved (form_of c.args.s.now) l c.in_ok-lines.lines) (sym c.aims.ensures.grown.lines) c.in_ok-lines.ensures

pub returns-clause-ok : goal.returns-clause-ok
returns-clause-ok c =
    let grown = grows_on c.args.self.now c.keep_fresh.new.self c.aims.new.self c.keep_fresh.ensures c.aims.ensures.grown in
    on_ok c.move_by.result _ _ c.move_by.ensures.ok
    (λ shifted. shifted_after c.args.s.now (links_in c.args.self.now) (links_in c.aims.new.self) (links_in c.move_by.new.self) (grown_links c.args.self.now c.aims.new.self grown) shifted)

pub returns-clause-err : goal.returns-clause-err
returns-clause-err c =
    let grown = grows_on c.args.self.now c.keep_fresh.new.self c.aims.new.self c.keep_fresh.ensures c.aims.ensures.grown in
    err_on c.move_by.result _ _ c.move_by.ensures.err
    (λ same. same_after c.args.self.now c.aims.new.self c.move_by.new.self (grown_links c.args.self.now c.aims.new.self grown) same)
