use Rattle.std.proofs.Common.{◌≡◌, ◌∙◌, sym, ap, subst, refl, w32, ℤ, Option, Some, None}
use Rattle.std.proofs.lemmas.Int.{to_z-of_z}
use Rattle.std.specs.FinMap as map
use Rattle.book_values.specs.Names.{Key, found}
use Rattle.book_model.specs.Answers.{valued, value_named}
use Rattle.book_model.specs.Operation as op
use Rattle.book_model.specs.Workbook.{State}
use Rattle.session_values.specs.Following.{AreShowing, name_shown}
use Rattle.session_operations.specs.Seen.{with_rules}
use Rattle.session_operations.specs.Seen.{ValuesFollow, state_of}
use Rattle.session_operations.proofs.Turning.{next_done}
use Rattle.session_operations.proofs.parts.Parts.name_value.Goals as goal

-- what a name shows that is found
as_named : (d : State) (o : Option Key) → name_shown (valued d.book) d.customs d.today o ≡ value_named d o
as_named d None = refl
as_named d (Some key) = refl

pub refresh-requires-clause-follow : goal.refresh-requires-clause-follow
refresh-requires-clause-follow g c = subst (λ (n : ℤ). ValuesFollow (g.C.Customs.customs c.args.customs.now) n c.args.self.now) (sym (to_z-of_z w32 c.args.day c.ranges.day)) c.requires.follow

pub returns-clause-turns : goal.returns-clause-turns
returns-clause-turns g c =
    let d = state_of c.args.self.now in
    let customs = g.C.Customs.customs c.args.customs.now in
    let now = c.refresh.new.self in
    let shows = subst (λ (n : ℤ). AreShowing customs n now.session now.values.values) (to_z-of_z w32 c.args.day c.ranges.day) c.in_ok-refresh.ensures.shows in (
      c.in_ok-check_name_value.ensures,
      c.in_ok-scalar.ensures.named customs c.args.day shows
          ∙ ap (λ (e : State). name_shown (valued e.book) customs c.args.day (found (map.entries e.book.names) c.args.name.now c.args.sheet)) c.in_ok-refresh.ensures.state
          ∙ as_named (with_rules customs c.args.day d) (found (map.entries d.book.names) c.args.name.now c.args.sheet),
      ap (with_rules customs c.args.day) (c.in_ok-scalar.ensures.reads.state ∙ c.in_ok-refresh.ensures.state) ∙ sym (next_done (op.name_value c.args.name.now c.args.sheet) (with_rules customs c.args.day d) c.in_ok-check_name_value.ensures),
    )
