use Rattle.std.proofs.Common.{◌∙◌, sym, ap, subst, w32, ℤ}
use Rattle.std.proofs.lemmas.Int.{to_z-of_z}
use Rattle.book_model.specs.Workbook.{State}
use Rattle.session_operations.specs.Following.{AreShowing}
use Rattle.session_questions.specs.Areas.{values_in_block}
use Rattle.session_operations.specs.Seen.{with_rules}
use Rattle.session_operations.specs.Seen.{ValuesFollow}
use Rattle.session_questions.proofs.shown_cells.values.Goals as goal

pub refresh-requires-clause-follow : goal.refresh-requires-clause-follow
refresh-requires-clause-follow g c = subst (λ (n : ℤ). ValuesFollow (g.C.Customs.customs c.args.customs.now) n c.args.parts.now) (sym (to_z-of_z w32 c.args.day c.ranges.day)) c.requires.follow

pub returns-clause-answered : goal.returns-clause-answered
returns-clause-answered g c =
    let customs = g.C.Customs.customs c.args.customs.now in
    let now = c.refresh.new.self in
    let shows = subst (λ (n : ℤ). AreShowing customs n now.session now.values.values) (to_z-of_z w32 c.args.day c.ranges.day) c.in_ok-refresh.ensures.shows in (
      c.in_ok-check_values.ensures,
      c.in_ok-list.ensures customs c.args.day shows ∙ ap (λ (e : State). values_in_block c.args.area (with_rules customs c.args.day e)) c.in_ok-refresh.ensures.state,
    )
