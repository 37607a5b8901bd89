use Rattle.std.proofs.Common.{◌∙◌, ap, subst, sym, refl, w64, ℤ, Result}
use Rattle.std.proofs.lemmas.Int.{to_z-of_z}
use Rattle.fix_num.specs.Number.{within}
use Rattle.fix_num.specs.Text.{text_of}
use Rattle.fix_num.specs.declared.error.NumError.{NumError}
use Rattle.book_model.specs.Operation as op
use Rattle.book_engine.specs.Turns.{NoAnswer}
use Rattle.engine_face.specs.Session.{Asks, AsksNumber}
use Rattle.engine_face.specs.declared.session.Session.{Session}
use Rattle.engine_face.specs.declared.status.Status.{Status}
use Rattle.engine_face.specs.declared.status.Status.TheVariants.{BadNumber}
use Rattle.engine_face.proofs.Changing.{asked}
use Rattle.engine_face.proofs.session.Session.set_number.Goals as goal

pub returns-in-Ok : goal.returns-in-Ok
returns-in-Ok c =
    let o = op.set c.args.at (text_of c.in-Ok.number) in
    let new : Session = record { alloc = c.args.self.now.alloc; engine = c.set_number.new.self } in
    let P : Status → Type 0 = Asks o c.args.self.now new in
    subst (λ (r : Result ℤ NumError). AsksNumber c.args.at r c.args.self.now new c.of.result) (sym c.in-Ok.is ∙ c.from_millionths.ensures ∙ ap within (to_z-of_z w64 c.args.millionths c.ranges.millionths))
    (subst P (sym c.of.ensures) (asked o NoAnswer c.args.self.now new c.set_number.result c.set_number.ensures.does))

pub returns-in-Err : goal.returns-in-Err
returns-in-Err c = subst (λ (r : Result ℤ NumError). AsksNumber c.args.at r c.args.self.now c.args.self.now BadNumber) (sym c.in-Err.is ∙ c.from_millionths.ensures ∙ ap within (to_z-of_z w64 c.args.millionths c.ranges.millionths)) (refl, refl)
