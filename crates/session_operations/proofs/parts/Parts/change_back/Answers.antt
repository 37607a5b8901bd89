use Rattle.std.proofs.Common.{◌∙◌, sym, subst}
use Rattle.std.proofs.lemmas.Bool.{false≢true}
use Rattle.kept_steps.specs.Turned.{AreOfCells, to_undo}
use Rattle.session_values.proofs.Following.{on_ok}
use Rattle.session_values.specs.Parts.{MarksPartsBack}
use Rattle.session_operations.proofs.TurnedMarks.{all_ok}
use Rattle.session_operations.proofs.parts.Parts.change_back.Goals as goal

pub name_back-requires-clause-name : goal.name_back-requires-clause-name
name_back-requires-clause-name c = sym c.in-Some.ensures

pub parts_back-requires-clause-more : goal.parts_back-requires-clause-more
parts_back-requires-clause-more c = λ cells. false≢true (sym c.if-are_of_cells.false ∙ c.are_of_cells.ensures.1 (subst AreOfCells (sym c.parts_undone.ensures) cells))

pub returns-in-Some-clause-parts : goal.returns-in-Some-clause-parts
returns-in-Some-clause-parts c =
    let x = c.args.self.now.session in
    on_ok c.name_back.result (MarksPartsBack x (to_undo x) c.args.self.now.values.values c.name_back.new.self.values.values) (¬ AreOfCells (to_undo x) → MarksPartsBack x (to_undo x) c.args.self.now.values.values c.name_back.new.self.values.values) (λ parts more. parts) c.name_back.ensures.parts

pub returns-then-are_of_cells-clause-parts : goal.returns-then-are_of_cells-clause-parts
returns-then-are_of_cells-clause-parts c =
    let x = c.args.self.now.session in
    all_ok {A = ¬ AreOfCells (to_undo x) → MarksPartsBack x (to_undo x) c.args.self.now.values.values c.cells_back.new.self.values.values} c.cells_back.result (λ more. absurd (more (subst AreOfCells c.parts_undone.ensures (c.are_of_cells.ensures.0 c.if-are_of_cells.true))))

pub returns-clause-parts : goal.returns-clause-parts
returns-clause-parts c =
    let x = c.args.self.now.session in
    on_ok c.parts_back.result (MarksPartsBack x (to_undo x) c.args.self.now.values.values c.parts_back.new.self.values.values) (¬ AreOfCells (to_undo x) → MarksPartsBack x (to_undo x) c.args.self.now.values.values c.parts_back.new.self.values.values) (λ parts more. parts) c.parts_back.ensures.parts
