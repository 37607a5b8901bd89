-- One more filled cell stands after all others, and an empty one changes nothing.
use Rattle.std.proofs.Common.{◌≡◌, ◌∙◌, arith, ap, sym, subst, ◌+◌, ◌*◌, ◌<◌, List, true, ◌-◌, drop}
use Rattle.std.proofs.Math.ListN.{set}
use Rattle.std.proofs.Math.Nat.{mul_comm}
use Rattle.std.specs.List.{list_all}
use Rattle.std.proofs.lemmas.Nat.{mul-add-lt}
use Rattle.cell_value.specs.declared.scalar.Scalar.{Scalar}
use Rattle.cell_value.specs.Cells.{Cells, with_value, IsEmptyFrom}
use Rattle.cell_value.specs.Scalar.{is_empty}
use Rattle.cell_value.specs.Filled.{are_filled, spread}
use Rattle.cell_value.proofs.Spread.{IsPushed, spread-push, set-empty}
use Rattle.cell_value.proofs.area.Area.push.Goals as goal

pub returns-then-is_empty-clause-ok : goal.returns-then-is_empty-clause-ok
returns-then-is_empty-clause-ok c =
    let cells = c.args.self.now in
    let e = set-empty (c.args.row * cells.cols + c.args.col) cells.values c.args.value (sym c.is_empty.ensures ∙ c.if-is_empty.true) c.requires.next in
    ap (λ (values : List Scalar). let r : Cells = record cells { values = values } in r) (sym e)

index_is : (c : goal.In_ok-push) → c.index-index.result ≡ c.args.row * c.self.inside.cols + c.args.col
index_is c = c.index-index.ensures ∙ ap (λ (x : Cells). c.args.row * x.cols + c.args.col) (sym c.self.view_is)

pushed : (c : goal.In_ok-push) → IsPushed 0 (c.self.inside.rows * c.self.inside.cols) c.index-index.result c.args.value c.self.inside.filled.items
pushed c =
    let a = c.self.inside in
    let row = c.args.row in
    let col = c.args.col in
    let Fits : Cells → Type 0 = λ x. (row < x.rows) × (col < x.cols) × IsEmptyFrom x row col in
    let fits = subst Fits (sym c.self.view_is) (c.requires.row, c.requires.col, c.requires.next) in
    let inside = mul-add-lt row a.cols col a.rows fits.0 fits.1 in
    let index = index_is c in
    let below : c.index-index.result < a.rows * a.cols = omega (arith, mul_comm a.cols a.rows) in
    let last : list_all is_empty (drop (c.index-index.result - 0) (spread 0 (a.rows * a.cols) a.filled.items)) ≡ true =
    let e : c.index-index.result - 0 ≡ row * a.cols + col = omega arith in
    ap (λ n. list_all is_empty (drop n (spread 0 (a.rows * a.cols) a.filled.items))) e ∙ fits.2 in
    spread-push 0 (a.rows * a.cols) c.index-index.result c.args.value a.filled.items c.self.invariant.2 (sym c.is_empty.ensures ∙ c.if-is_empty.false) (omega arith) below last

pub invariant_of-self-2 : goal.invariant_of-self-2
invariant_of-self-2 c =
    let a = c.self.inside in
    (c.self.invariant.0, c.self.invariant.1, ap (are_filled 0 (a.rows * a.cols)) c.in_ok-push.ensures.items ∙ (pushed c).filled)

pub returns-clause-ok : goal.returns-clause-ok
returns-clause-ok c =
    let a = c.self.inside in
    let row = c.args.row in
    let col = c.args.col in
    let e = index_is c in
    let index : c.index-index.result - 0 ≡ row * a.cols + col = omega arith in
    let values = ap (spread 0 (a.rows * a.cols)) c.in_ok-push.ensures.items ∙ (pushed c).values ∙ ap (λ n. set (spread 0 (a.rows * a.cols) a.filled.items) n c.args.value) index in
    ap (λ (values : List Scalar). let r : Cells = record { rows = a.rows; cols = a.cols; values = values } in r) values ∙ ap (λ (x : Cells). with_value x row col c.args.value) c.self.view_is
