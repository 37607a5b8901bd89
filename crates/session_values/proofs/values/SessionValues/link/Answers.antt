use Rattle.std.proofs.Common.{◌∙◌, sym, subst, ℕ, List, Option}
use Rattle.book_values.specs.Workbook.{Workbook}
use Rattle.kept_values.specs.Values.{Follows}
use Rattle.kept_values.specs.declared.values.Values.{Values}
use Rattle.session_values.specs.Following.{FollowsIn, book_of, words_in}
use Rattle.session_values.proofs.values.SessionValues.link.Goals as goal
use Rattle.session_values.proofs.values.SessionValues.link.Goals.{in-Some, in-None+in_ok-values-in-None}

pub link-done-requires-clause-follows : goal.link-done-requires-clause-follows
link-done-requires-clause-follows c =
    let s = c.args.session.now in
    let (customs, today, follows) = c.requires.follows in (
      customs,
      today,
      elim c.match-take.branch [
        | in-Some w ↦
            subst (λ (v : Values). Follows (book_of s) (words_in s) customs today v) (sym w.values-is)
            (subst (λ (o : Option Values). FollowsIn (book_of s) (words_in s) customs today o) (sym c.take.ensures.value ∙ w.in-Some.is) follows)
        | in-None+in_ok-values-in-None w ↦
            subst (λ (v : Values). Follows (book_of s) (words_in s) customs today v) (sym w.values-is) (w.in_ok-values-in-None.ensures customs today)
      ],
    )

pub returns-clause-follows : goal.returns-clause-follows
returns-clause-follows c = λ customs today follows.
    let s = c.args.session.now in
    let after = c.link-done.ensures.follows customs today (elim c.match-take.branch [
      | in-Some w ↦
          subst (λ (v : Values). Follows (book_of s) (words_in s) customs today v) (sym w.values-is)
          (subst (λ (o : Option Values). FollowsIn (book_of s) (words_in s) customs today o) (sym c.take.ensures.value ∙ w.in-Some.is) follows)
      | in-None+in_ok-values-in-None w ↦
          subst (λ (v : Values). Follows (book_of s) (words_in s) customs today v) (sym w.values-is) (w.in_ok-values-in-None.ensures customs today)
    ]) in
    subst (λ (b : Workbook). Follows b (words_in c.link-done.new.trees) customs today c.link-done.new.self) (sym c.link-done.ensures.leaves)
    (subst (λ (ws : List (List ℕ)). Follows (book_of s) ws customs today c.link-done.new.self) (sym c.link-done.ensures.words) after)
