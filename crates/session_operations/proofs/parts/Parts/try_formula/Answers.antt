use Rattle.std.proofs.Common.{◌≡◌, ◌≤◌, ◌+◌, false, ap, subst, w32, ℕ, ℤ, Some}
use Rattle.std.proofs.lemmas.Int.{to_z-of_z}
use Rattle.cell_addr.specs.declared.place.Place.{Place}
use Rattle.formula_tree.specs.Relative.{relative}
use Rattle.formula_tree.specs.StandsFor.{at_home}
use Rattle.formula_tree.specs.declared.reference.Home.TheVariants as homes
use Rattle.recalc_core.specs.Steps.{formula_cost}
use Rattle.book_model.specs.Answers.{valued}
use Rattle.book_model.specs.Content.{tree_given}
use Rattle.book_model.specs.Workbook.{State}
use Rattle.session_values.specs.Following.{book_of}
use Rattle.session_values.proofs.Refreshed.{unmarked_still}
use Rattle.name_table.specs.Named.{words_of}
use Rattle.session_values.proofs.MarkedCells.{at_most}
use Rattle.session_operations.specs.Kept.{WorksOutIn}
use Rattle.session_operations.specs.Seen.{ValuesFollow, state_of}
use Rattle.session_operations.proofs.Following.{follow_touched, more_as}
use Rattle.session_operations.proofs.TriedCosts.{tried_all, tried_nothing, tried_values}
use Rattle.session_operations.proofs.parts.Parts.try_formula.Goals as goal

pub returns-in_err-scalar-clause-follow : goal.returns-in_err-scalar-clause-follow
returns-in_err-scalar-clause-follow g c =
    let customs = g.C.Customs.customs c.args.customs.now in
    let now = c.refresh.new.self in
    follow_touched (λ p. false) now (record { session = c.tried.new.session; values = c.tried.new.self }) (more_as (ap words_of c.tried.ensures.reads.names)) (at_most (λ p. false) now.values.values c.tried.new.self.values c.tried.ensures.same) c.tried.ensures.reads.state customs c.args.day
    (subst (λ (n : ℤ). ValuesFollow customs n now) (to_z-of_z w32 c.args.day c.ranges.day) c.refresh.ensures.follow)

pub returns-clause-follow : goal.returns-clause-follow
returns-clause-follow g c =
    let customs = g.C.Customs.customs c.args.customs.now in
    let now = c.refresh.new.self in
    follow_touched (λ p. false) now (record { session = c.tried.new.session; values = c.tried.new.self }) (more_as (ap words_of c.tried.ensures.reads.names)) (at_most (λ p. false) now.values.values c.tried.new.self.values c.tried.ensures.same) c.tried.ensures.reads.state customs c.args.day
    (subst (λ (n : ℤ). ValuesFollow customs n now) (to_z-of_z w32 c.args.day c.ranges.day) c.refresh.ensures.follow)

pub returns-in_err-check_on_sheet-clause-most : goal.returns-in_err-check_on_sheet-clause-most
returns-in_err-check_on_sheet-clause-most g c = tried_nothing (g.C.Customs.customs c.args.customs.now) c.args.day c.args.self.now c.args.sheet c.args.text.now c.args.steps.now

pub returns-in_err-tree-clause-most : goal.returns-in_err-tree-clause-most
returns-in_err-tree-clause-most g c = tried_nothing (g.C.Customs.customs c.args.customs.now) c.args.day c.args.self.now c.args.sheet c.args.text.now c.args.steps.now

pub returns-in_err-refresh-clause-most : goal.returns-in_err-refresh-clause-most
returns-in_err-refresh-clause-most g c =
    let customs = g.C.Customs.customs c.args.customs.now in
    let p = c.args.self.now in
    tried_values customs c.args.day p c.args.sheet c.args.text.now c.args.steps.now c.refresh.new.steps
    (subst (λ (n : ℤ). WorksOutIn customs n p c.args.steps.now c.refresh.new.steps) (to_z-of_z w32 c.args.day c.ranges.day) c.refresh.ensures.most)

pub returns-in_err-scalar-clause-most : goal.returns-in_err-scalar-clause-most
returns-in_err-scalar-clause-most g c =
    let customs = g.C.Customs.customs c.args.customs.now in
    let day = to_z-of_z w32 c.args.day c.ranges.day in
    let p = c.args.self.now in
    let middle = c.refresh.new.self in
    let at = c.first_cell.result in
    let t = at_home (homes.Cell at) (relative c.in_ok-tree.tree.value) in
    let b = book_of middle.session in
    let sheet : at.sheet ≡ c.args.sheet = ap (λ (q : Place). q.sheet) c.first_cell.ensures in
    tried_all customs c.args.day p c.args.sheet c.args.text.now b t c.args.steps.now c.refresh.new.steps c.tried.new.steps
    (subst (λ (n : ℤ). WorksOutIn customs n p c.args.steps.now c.refresh.new.steps) day c.refresh.ensures.most) (ap (λ (d : State). valued d.book) c.refresh.ensures.state)
    (subst (λ (n : ℕ). tree_given (state_of p).book.sheets n c.args.text.now ≡ Some t) sheet c.in_ok-tree.ensures.1.0)
    (subst (λ (n : ℕ). c.tried.new.steps ≤ c.refresh.new.steps + formula_cost b customs c.args.day n t) sheet
    (subst (λ (n : ℤ). c.tried.new.steps ≤ c.refresh.new.steps + formula_cost b customs n at.sheet t) day c.tried.ensures.most))

pub returns-clause-most : goal.returns-clause-most
returns-clause-most g c =
    let customs = g.C.Customs.customs c.args.customs.now in
    let day = to_z-of_z w32 c.args.day c.ranges.day in
    let p = c.args.self.now in
    let middle = c.refresh.new.self in
    let at = c.first_cell.result in
    let t = at_home (homes.Cell at) (relative c.in_ok-tree.tree.value) in
    let b = book_of middle.session in
    let sheet : at.sheet ≡ c.args.sheet = ap (λ (q : Place). q.sheet) c.first_cell.ensures in
    tried_all customs c.args.day p c.args.sheet c.args.text.now b t c.args.steps.now c.refresh.new.steps c.tried.new.steps
    (subst (λ (n : ℤ). WorksOutIn customs n p c.args.steps.now c.refresh.new.steps) day c.refresh.ensures.most) (ap (λ (d : State). valued d.book) c.refresh.ensures.state)
    (subst (λ (n : ℕ). tree_given (state_of p).book.sheets n c.args.text.now ≡ Some t) sheet c.in_ok-tree.ensures.1.0)
    (subst (λ (n : ℕ). c.tried.new.steps ≤ c.refresh.new.steps + formula_cost b customs c.args.day n t) sheet
    (subst (λ (n : ℤ). c.tried.new.steps ≤ c.refresh.new.steps + formula_cost b customs n at.sheet t) day c.tried.ensures.most))

pub returns-clause-unmarked : goal.returns-clause-unmarked
returns-clause-unmarked g c = unmarked_still c.refresh.new.self.values.values c.tried.new.self.values c.tried.ensures.same c.in_ok-refresh.ensures.unmarked
