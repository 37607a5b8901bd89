use Rattle.std.proofs.Common.{◌∙◌, sym, subst}
use Rattle.std.proofs.lemmas.Bool.{false≢true}
use Rattle.kept_steps.specs.Turned.{AreOfCells, to_redo}
use Rattle.session_values.proofs.Following.{on_ok}
use Rattle.session_values.specs.Parts.{MarksPartsForth}
use Rattle.session_operations.proofs.TurnedMarks.{all_ok}
use Rattle.session_operations.proofs.parts.Parts.change_forth.Goals as goal

pub name_forth-requires-clause-name : goal.name_forth-requires-clause-name
name_forth-requires-clause-name c = sym c.in-Some.ensures

pub parts_forth-requires-clause-more : goal.parts_forth-requires-clause-more
parts_forth-requires-clause-more c = λ cells. false≢true (sym c.if-are_of_cells.false ∙ c.are_of_cells.ensures.1 (subst AreOfCells (sym c.parts_redone.ensures) cells))

pub returns-in-Some-clause-parts : goal.returns-in-Some-clause-parts
returns-in-Some-clause-parts c =
    let x = c.args.self.now.session in
    on_ok c.name_forth.result (MarksPartsForth x (to_redo x) c.args.self.now.values.values c.name_forth.new.self.values.values) (¬ AreOfCells (to_redo x) → MarksPartsForth x (to_redo x) c.args.self.now.values.values c.name_forth.new.self.values.values) (λ parts more. parts) c.name_forth.ensures.parts

pub returns-then-are_of_cells-clause-parts : goal.returns-then-are_of_cells-clause-parts
returns-then-are_of_cells-clause-parts c =
    let x = c.args.self.now.session in
    all_ok {A = ¬ AreOfCells (to_redo x) → MarksPartsForth x (to_redo x) c.args.self.now.values.values c.cells_forth.new.self.values.values} c.cells_forth.result (λ more. absurd (more (subst AreOfCells c.parts_redone.ensures (c.are_of_cells.ensures.0 c.if-are_of_cells.true))))

pub returns-clause-parts : goal.returns-clause-parts
returns-clause-parts c =
    let x = c.args.self.now.session in
    on_ok c.parts_forth.result (MarksPartsForth x (to_redo x) c.args.self.now.values.values c.parts_forth.new.self.values.values) (¬ AreOfCells (to_redo x) → MarksPartsForth x (to_redo x) c.args.self.now.values.values c.parts_forth.new.self.values.values) (λ parts more. parts) c.parts_forth.ensures.parts
