use Rattle.std.proofs.Common.{sym, subst, Option, Some}
use Rattle.std.specs.Prelude.{OnOk}
use Rattle.kept_values.proofs.Following.{on_ok}
use Rattle.kept_values.specs.declared.values.Values.{Values}
use Rattle.session_values.specs.Shifting.{FollowsShift, MarksShift}
use Rattle.session_values.proofs.Shifted.{follows_shift}
use Rattle.session_values.proofs.values.SessionValues.go_along.Goals as goal

pub returns-in-Some-clause-follows : goal.returns-in-Some-clause-follows
returns-in-Some-clause-follows c =
    let s = c.args.s.now in
    let touched = c.args.touched.now in
    subst (λ (o : Option Values). OnOk c.shift.result (FollowsShift s touched o (Some c.shift.new.self))) (sym c.in-Some.is) (on_ok c.shift.result _ _ (follows_shift s touched c.in-Some.values c.shift.new.self) c.shift.ensures.follows)

pub returns-in-Some-clause-marks : goal.returns-in-Some-clause-marks
returns-in-Some-clause-marks c = subst (λ (o : Option Values). OnOk c.shift.result (MarksShift c.args.s.now c.args.touched.now o (Some c.shift.new.self))) (sym c.in-Some.is) c.shift.ensures.marks

pub returns-in-None-clause-follows : goal.returns-in-None-clause-follows
returns-in-None-clause-follows c =
    subst (λ (o : Option Values). FollowsShift c.args.s.now c.args.touched.now o o) (sym c.in-None.is) (λ b after words more customs today inside over numbered now keeps has_touched known follows. tt)

pub returns-in-None-clause-marks : goal.returns-in-None-clause-marks
returns-in-None-clause-marks c = subst (λ (o : Option Values). MarksShift c.args.s.now c.args.touched.now o o) (sym c.in-None.is) tt
