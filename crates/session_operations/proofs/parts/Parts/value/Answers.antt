use Rattle.std.proofs.Common.{◌∙◌, sym, ap, subst, w32, ℤ}
use Rattle.std.proofs.lemmas.Int.{to_z-of_z}
use Rattle.book_values.specs.Values.{value_of}
use Rattle.book_values.specs.Workbook.{place}
use Rattle.book_model.specs.Answers.{valued}
use Rattle.book_model.specs.Operation as op
use Rattle.book_model.specs.Workbook.{State}
use Rattle.session_values.specs.Following.{AreShowing}
use Rattle.session_operations.specs.Seen.{with_rules}
use Rattle.session_operations.specs.Seen.{ValuesFollow, state_of}
use Rattle.session_operations.proofs.Turning.{next_done}
use Rattle.session_operations.proofs.parts.Parts.value.Goals as goal

pub refresh-requires-clause-follow : goal.refresh-requires-clause-follow
refresh-requires-clause-follow g c = subst (λ (n : ℤ). ValuesFollow (g.C.Customs.customs c.args.customs.now) n c.args.self.now) (sym (to_z-of_z w32 c.args.day c.ranges.day)) c.requires.follow

pub returns-clause-turns : goal.returns-clause-turns
returns-clause-turns g c =
    let d = state_of c.args.self.now in
    let customs = g.C.Customs.customs c.args.customs.now in
    let now = c.refresh.new.self in
    let shows = subst (λ (n : ℤ). AreShowing customs n now.session now.values.values) (to_z-of_z w32 c.args.day c.ranges.day) c.in_ok-refresh.ensures.shows in (
      c.in_ok-check_value.ensures,
      c.in_ok-scalar.ensures now.session customs c.args.day shows ∙ ap (λ (e : State). value_of (valued e.book) customs c.args.day (place c.args.at)) c.in_ok-refresh.ensures.state,
      ap (with_rules customs c.args.day) c.in_ok-refresh.ensures.state ∙ sym (next_done (op.value c.args.at) (with_rules customs c.args.day d) c.in_ok-check_value.ensures),
    )
