use Rattle.std.proofs.Common.{sym, subst, true, Option, Some, None}
use Rattle.book_values.specs.Names.{key_of}
use Rattle.kept_values.specs.declared.values.Values.{Values}
use Rattle.session_values.specs.Naming.{FollowsChange, MarksChange}
use Rattle.session_values.specs.internal.Marked.{HasMarked}
use Rattle.session_values.proofs.MarkedCells.{of_made}
use Rattle.session_values.proofs.Named.{follows_change, nothing_named}
use Rattle.session_values.proofs.values.SessionValues.name_changed.Goals as goal

pub returns-then-change_marked-clause-follows : goal.returns-then-change_marked-clause-follows
returns-then-change_marked-clause-follows c =
    let key = key_of c.args.scope c.args.word.now in
    let s = c.args.session.now in
    of_made (HasMarked c.node_of.result) (FollowsChange key s) c.args.self.now.values c.change_marked.new.self.values (c.change_marked.ensures c.if-change_marked.true)
    (λ v w marked. (follows_change key s c.node_of.result v (Some w) c.node_of.ensures marked).0) (nothing_named key s true true None)

pub returns-then-change_marked-clause-marks : goal.returns-then-change_marked-clause-marks
returns-then-change_marked-clause-marks c =
    let key = key_of c.args.scope c.args.word.now in
    let s = c.args.session.now in
    of_made (HasMarked c.node_of.result) (MarksChange key s) c.args.self.now.values c.change_marked.new.self.values (c.change_marked.ensures c.if-change_marked.true)
    (λ v w marked. (follows_change key s c.node_of.result v (Some w) c.node_of.ensures marked).1) tt

pub returns-clause-follows : goal.returns-clause-follows
returns-clause-follows c =
    let key = key_of c.args.scope c.args.word.now in
    subst (λ (o : Option Values). FollowsChange key c.args.session.now c.args.self.now.values o) (sym c.forget.ensures) (nothing_named key c.args.session.now true true c.args.self.now.values)

pub returns-clause-marks : goal.returns-clause-marks
returns-clause-marks c =
    let key = key_of c.args.scope c.args.word.now in
    subst (λ (o : Option Values). MarksChange key c.args.session.now c.args.self.now.values o) (sym c.forget.ensures) tt
