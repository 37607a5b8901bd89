-- The parts are those that were taken apart; the day among them is read as a whole number and made one again.
use Rattle.std.proofs.Common.{sym, subst, rules, w32, ℤ}
use mir.Val.{SFits}
use Rattle.std.proofs.lemmas.Int.{to_z-of_z}
use Rattle.book_model.specs.Workbook.{State}
use Rattle.book_engine.specs.TakenApart.{FitParts}
use Rattle.sheet_cases.proofs.apart.joined_again.Goals as goal

pub joined-requires : goal.joined-requires
joined-requires g c =
    let p = c.parts-pool.result in
    let day : SFits w32 p.day = search rules in
    subst (λ (n : ℤ). (d : State) × FitParts g.C.Customs.customs (record p { day = n }) d) (sym (to_z-of_z w32 p.day day)) c.parts-pool.ensures.some
