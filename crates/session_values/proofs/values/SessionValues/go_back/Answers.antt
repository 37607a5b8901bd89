use Rattle.std.proofs.Common.{sym, subst, Option, Some}
use Rattle.std.specs.Prelude.{OnOk}
use Rattle.kept_values.specs.declared.values.Values.{Values}
use Rattle.session_values.specs.Shifting.{FollowsShiftBack, MarksShiftBack}
use Rattle.session_values.proofs.values.SessionValues.go_back.Goals as goal

pub returns-in-Some-clause-follows : goal.returns-in-Some-clause-follows
returns-in-Some-clause-follows c =
    subst (λ (o : Option Values). OnOk c.take_back.result (FollowsShiftBack c.args.s.now c.args.back.now c.args.touched.now c.args.removed.now o (Some c.take_back.new.self))) (sym c.in-Some.is) c.take_back.ensures.follows

pub returns-in-Some-clause-marks : goal.returns-in-Some-clause-marks
returns-in-Some-clause-marks c =
    subst (λ (o : Option Values). OnOk c.take_back.result (MarksShiftBack c.args.s.now c.args.back.now c.args.touched.now c.args.removed.now o (Some c.take_back.new.self))) (sym c.in-Some.is) c.take_back.ensures.marks

pub returns-in-None-clause-follows : goal.returns-in-None-clause-follows
returns-in-None-clause-follows c =
    subst (λ (o : Option Values). FollowsShiftBack c.args.s.now c.args.back.now c.args.touched.now c.args.removed.now o o) (sym c.in-None.is) (λ b after words customs today inside over numbered has_touched known are_removed known_removed follows. tt)

pub returns-in-None-clause-marks : goal.returns-in-None-clause-marks
returns-in-None-clause-marks c = subst (λ (o : Option Values). MarksShiftBack c.args.s.now c.args.back.now c.args.touched.now c.args.removed.now o o) (sym c.in-None.is) tt
