use Rattle.std.proofs.Common.{◌≡◌, ◌∙◌, sym, ap, subst, true}
use Rattle.std.specs.Prelude.{is_some}
use Rattle.cell_addr.specs.Sheets.{name_in}
use Rattle.cell_value.specs.declared.fault.FaultKind.TheVariants as faults
use Rattle.formula_tree.specs.Reference.{base_of}
use Rattle.formula_tree.specs.Relative.{relative}
use Rattle.formula_tree.specs.Term.{shaped}
use Rattle.tree_rewrite.proofs.Passing.{same-area}
use Rattle.tree_rewrite.proofs.Walking as walking
use Rattle.tree_rewrite.specs.Replaced.{Becomes}
use Rattle.tree_rewrite.specs.Shaped.{AreShaped}
use Rattle.tree_rewrite.specs.Pasted.{is_inside, sheet_pasted}
use Rattle.clip_board.proofs.LastInside.{fits-there, last-inside}
use Rattle.clip_board.proofs.WholePastes.{area-goes, area-lost, first-by, first_seen, last-by, shaped-seen, sheet-by}
use Rattle.clip_board.proofs.paste.PasteReplacement.area.Goals as goal

pub seen-requires-2-clause-inside : goal.seen-requires-2-clause-inside
seen-requires-2-clause-inside g c =
    let p = c.args.self.now in
    let n = sheet_pasted (base_of p.from) (base_of p.to) c.at-top.result.at.sheet in
    let fits : c.both_inside.result ≡ true = fits-there (is_some (name_in (g.S.SheetNames.sheets p.sheets.now) n)) c.both_inside.result n c.in-Some.sheet (sym c.sheet.ensures ∙ c.in-Some.is) in
    ap is_inside c.in_order.ensures.last ∙ last-inside c.address-a.result c.address-b.result (sym c.both_inside.ensures ∙ fits)

pub returns-in_default : goal.returns-in_default
returns-in_default g c =
    let p = c.args.self.now in
    let from = base_of p.from in
    let to = base_of p.to in
    let r = c.args.first in
    let q = c.args.last in
    let a = c.address-a.result in
    let b = c.address-b.result in
    let sheets = g.S.SheetNames.sheets p.sheets.now in
    let none = sheet-by from to r q c.at-top.result c.at-bottom.result a b c.at-top.ensures c.at-bottom.ensures c.address-a.ensures c.address-b.ensures sheets c.both_inside.result c.sheet.result _ c.sheet.ensures c.both_inside.ensures c.in_default.is in
    let is = area-lost sheets p.from p.to c.args.lines r q none in
    (walking.relative-Fault faults.Ref ∙ sym is, λ e. walking.fault-no_area faults.Ref c.args.lines r q (sym is ∙ e))

pub changed_area-requires : goal.changed_area-requires
changed_area-requires g c =
    let p = c.args.self.now in
    let from = base_of p.from in
    let to = base_of p.to in
    let r = c.args.first in
    let q = c.args.last in
    let a = c.address-a.result in
    let b = c.address-b.result in
    let n = c.in-Some.sheet in
    let first = first-by from to r q c.at-top.result c.at-bottom.result a b c.at-top.ensures c.at-bottom.ensures c.address-a.ensures c.address-b.ensures n _ c.seen.result c.in_order.ensures.first c.seen.ensures in
    let last = last-by from to r q c.at-top.result c.at-bottom.result a b c.at-top.ensures c.at-bottom.ensures c.address-a.ensures c.address-b.ensures n _ c.seen-2.result c.in_order.ensures.last c.seen-2.ensures in
    subst (λ x. AreShaped c.args.lines x c.seen-2.result) (sym first)
    (subst (λ x. AreShaped c.args.lines (first_seen from to n r q) x) (sym last) (shaped-seen c.args.lines from to n r q c.requires.shape))

pub returns : goal.returns
returns g c =
    let p = c.args.self.now in
    let from = base_of p.from in
    let to = base_of p.to in
    let r = c.args.first in
    let q = c.args.last in
    let a = c.address-a.result in
    let b = c.address-b.result in
    let n = c.in-Some.sheet in
    let first = first-by from to r q c.at-top.result c.at-bottom.result a b c.at-top.ensures c.at-bottom.ensures c.address-a.ensures c.address-b.ensures n _ c.seen.result c.in_order.ensures.first c.seen.ensures in
    let last = last-by from to r q c.at-top.result c.at-bottom.result a b c.at-top.ensures c.at-bottom.ensures c.address-a.ensures c.address-b.ensures n _ c.seen-2.result c.in_order.ensures.last c.seen-2.ensures in
    let sheets = g.S.SheetNames.sheets p.sheets.now in
    let there = sheet-by from to r q c.at-top.result c.at-bottom.result a b c.at-top.ensures c.at-bottom.ensures c.address-a.ensures c.address-b.ensures sheets c.both_inside.result c.sheet.result _ c.sheet.ensures c.both_inside.ensures c.in-Some.is in
    let is = area-goes sheets p.from p.to c.args.lines r q n there ∙ same-area c.args.lines _ _ _ _ (sym first) (sym last) in
    subst (Becomes relative c.changed_area.result (shaped c.args.lines r q)) (sym is) c.changed_area.ensures
