use Rattle.std.proofs.Common.{ℕ, sym, subst, Option, Some}
use Rattle.std.specs.Prelude.{OnOk}
use Rattle.kept_values.specs.declared.values.Values.{Values}
use Rattle.session_values.specs.Shifting.{FollowsSheetBack, MarksSheetBack}
use Rattle.session_values.proofs.values.SessionValues.bring_back.Goals as goal

pub returns-in-Some-clause-follows : goal.returns-in-Some-clause-follows
returns-in-Some-clause-follows c =
    subst (λ (o : Option Values). OnOk c.bring_back.result ((sheet : ℕ) → FollowsSheetBack sheet c.args.nodes.now o (Some c.bring_back.new.self))) (sym c.in-Some.is) c.bring_back.ensures.follows

pub returns-in-Some-clause-marks : goal.returns-in-Some-clause-marks
returns-in-Some-clause-marks c =
    subst (λ (o : Option Values). OnOk c.bring_back.result (MarksSheetBack c.args.nodes.now o (Some c.bring_back.new.self))) (sym c.in-Some.is) c.bring_back.ensures.marks

pub returns-in-None-clause-follows : goal.returns-in-None-clause-follows
returns-in-None-clause-follows c =
    subst (λ (o : Option Values). (sheet : ℕ) → FollowsSheetBack sheet c.args.nodes.now o o) (sym c.in-None.is) (λ sheet b after words customs today inside over numbered of_sheet known follows. tt)

pub returns-in-None-clause-marks : goal.returns-in-None-clause-marks
returns-in-None-clause-marks c = subst (λ (o : Option Values). MarksSheetBack c.args.nodes.now o o) (sym c.in-None.is) tt
