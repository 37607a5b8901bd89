use Rattle.std.proofs.Common.{◌∙◌, sym, subst, w32, ℕ, ℤ, List, Option}
use Rattle.std.proofs.lemmas.Int.{to_z-of_z}
use Rattle.std.specs.Prelude.{OnOk}
use Rattle.book_values.specs.Workbook.{Workbook}
use Rattle.recalc_core.specs.Kept.{AreRight}
use Rattle.kept_values.specs.Values.{Follows, TakesSteps, kept_in, marks_in}
use Rattle.kept_values.specs.declared.values.Values.{Values}
use Rattle.session_values.specs.Following.{FollowsIn, book_of, words_in}
use Rattle.session_values.specs.Refreshed.{TakesStepsIn}
use Rattle.session_values.proofs.Refreshed.{any_steps}
use Rattle.session_values.proofs.values.SessionValues.refresh.Goals as goal
use Rattle.session_values.proofs.values.SessionValues.refresh.Goals.{in-Some, in-None+in_ok-values-in-None}

pub refresh-done-requires-clause-follows : goal.refresh-done-requires-clause-follows
refresh-done-requires-clause-follows g c =
    let s = c.args.session.now in
    let customs = g.C.Customs.customs c.args.customs.now in
    subst (λ (d : ℤ). Follows (book_of s) (words_in s) customs d c.match-take.values) (sym (to_z-of_z w32 c.args.day c.ranges.day))
    (elim c.match-take.branch [
      | in-Some w ↦
          subst (λ (v : Values). Follows (book_of s) (words_in s) customs c.args.day v) (sym w.values-is)
          (subst (λ (o : Option Values). FollowsIn (book_of s) (words_in s) customs c.args.day o) (sym c.take.ensures.value ∙ w.in-Some.is) c.requires.follows)
      | in-None+in_ok-values-in-None w ↦
          subst (λ (v : Values). Follows (book_of s) (words_in s) customs c.args.day v) (sym w.values-is) (w.in_ok-values-in-None.ensures customs c.args.day)
    ])

pub returns-clause-shows : goal.returns-clause-shows
returns-clause-shows g c =
    let customs = g.C.Customs.customs c.args.customs.now in
    let kept = kept_in c.refresh-done.new.self in
    let right = subst (λ (d : ℤ). OnOk c.refresh-done.result (AreRight (book_of c.args.session.now) (words_in c.args.session.now) customs d kept)) (to_z-of_z w32 c.args.day c.ranges.day) c.refresh-done.ensures.right in
    subst (λ (b : Workbook). OnOk c.refresh-done.result (AreRight b (words_in c.refresh-done.new.trees) customs c.args.day kept)) (sym c.refresh-done.ensures.leaves)
    (subst (λ (ws : List (List ℕ)). OnOk c.refresh-done.result (AreRight (book_of c.args.session.now) ws customs c.args.day kept)) (sym c.refresh-done.ensures.words) right)

pub returns-clause-most : goal.returns-clause-most
returns-clause-most g c =
    let s = c.args.session.now in
    let customs = g.C.Customs.customs c.args.customs.now in
    let most = subst (λ (d : ℤ). TakesSteps (book_of s) (words_in s) customs d (marks_in c.match-take.values) c.args.steps.now c.refresh-done.new.steps) (to_z-of_z w32 c.args.day c.ranges.day) c.refresh-done.ensures.most in
    elim c.match-take.branch [
      | in-Some w ↦
          subst (λ (o : Option Values). TakesStepsIn (book_of s) (words_in s) customs c.args.day o c.args.steps.now c.refresh-done.new.steps) (sym w.in-Some.is ∙ c.take.ensures.value)
          (subst (λ (v : Values). TakesSteps (book_of s) (words_in s) customs c.args.day (marks_in v) c.args.steps.now c.refresh-done.new.steps) w.values-is most)
      | in-None+in_ok-values-in-None w ↦
          subst (λ (o : Option Values). TakesStepsIn (book_of s) (words_in s) customs c.args.day o c.args.steps.now c.refresh-done.new.steps) (sym w.in-None.is ∙ c.take.ensures.value)
          (any_steps (book_of s) (words_in s) customs c.args.day (marks_in c.match-take.values) c.args.steps.now c.refresh-done.new.steps most)
    ]
