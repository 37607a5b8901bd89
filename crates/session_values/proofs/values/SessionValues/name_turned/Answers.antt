use Rattle.std.proofs.Common.{sym, subst, Option, Some, None}
use Rattle.kept_values.specs.declared.values.Values.{Values}
use Rattle.session_values.specs.Following.{words_in}
use Rattle.session_values.specs.Naming.{FollowsTurn, MarksTurn}
use Rattle.session_values.specs.Parts.{FollowsTurnIn}
use Rattle.session_values.specs.internal.Marked.{HasTurned}
use Rattle.session_values.proofs.MarkedCells.{of_made}
use Rattle.session_values.proofs.Named.{follows_turn, nothing_turns}
use Rattle.session_values.proofs.NamedBetween.{between, nothing_between}
use Rattle.session_values.proofs.values.SessionValues.name_turned.Goals as goal

pub returns-then-turn_marked-clause-follows : goal.returns-then-turn_marked-clause-follows
returns-then-turn_marked-clause-follows c =
    let s = c.args.session.now in
    of_made (HasTurned (words_in s) c.args.key c.args.turn) (FollowsTurn c.args.key c.args.turn s) c.args.self.now.values c.turn_marked.new.self.values (c.turn_marked.ensures c.if-turn_marked.true)
    (λ v w marked. (follows_turn c.args.key c.args.turn s v (Some w) c.requires marked).0) (nothing_turns c.args.key c.args.turn s None).0

pub returns-clause-follows : goal.returns-clause-follows
returns-clause-follows c =
    let s = c.args.session.now in
    subst (λ (o : Option Values). FollowsTurn c.args.key c.args.turn s c.args.self.now.values o) (sym c.forget.ensures) (nothing_turns c.args.key c.args.turn s c.args.self.now.values).0

pub returns-then-turn_marked-clause-marks : goal.returns-then-turn_marked-clause-marks
returns-then-turn_marked-clause-marks c =
    let s = c.args.session.now in
    of_made (HasTurned (words_in s) c.args.key c.args.turn) (MarksTurn c.args.key c.args.turn s) c.args.self.now.values c.turn_marked.new.self.values (c.turn_marked.ensures c.if-turn_marked.true)
    (λ v w marked. (follows_turn c.args.key c.args.turn s v (Some w) c.requires marked).1) (nothing_turns c.args.key c.args.turn s None).1

pub returns-clause-marks : goal.returns-clause-marks
returns-clause-marks c =
    let s = c.args.session.now in
    subst (λ (o : Option Values). MarksTurn c.args.key c.args.turn s c.args.self.now.values o) (sym c.forget.ensures) (nothing_turns c.args.key c.args.turn s c.args.self.now.values).1

pub returns-then-turn_marked-clause-between : goal.returns-then-turn_marked-clause-between
returns-then-turn_marked-clause-between c =
    let s = c.args.session.now in
    of_made (HasTurned (words_in s) c.args.key c.args.turn) (FollowsTurnIn c.args.key c.args.turn (words_in s)) c.args.self.now.values c.turn_marked.new.self.values (c.turn_marked.ensures c.if-turn_marked.true)
    (λ v w marked. between c.args.key c.args.turn s v (Some w) c.requires marked) (nothing_between c.args.key c.args.turn (words_in s) None)

pub returns-clause-between : goal.returns-clause-between
returns-clause-between c =
    let s = c.args.session.now in
    subst (λ (o : Option Values). FollowsTurnIn c.args.key c.args.turn (words_in s) c.args.self.now.values o) (sym c.forget.ensures) (nothing_between c.args.key c.args.turn (words_in s) c.args.self.now.values)
