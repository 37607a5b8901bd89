use Rattle.std.proofs.Common.{sym, subst, true, false, Option, Some, None}
use Rattle.book_values.specs.Names.{key_of}
use Rattle.kept_values.specs.declared.values.Values.{Values}
use Rattle.session_values.specs.Naming.{FollowsRemoval, MarksRemoval}
use Rattle.session_values.specs.internal.Marked.{HasMarkedLinked}
use Rattle.session_values.proofs.MarkedCells.{of_made}
use Rattle.session_values.proofs.Named.{follows_removal, nothing_named}
use Rattle.session_values.proofs.values.SessionValues.name_removed.Goals as goal

pub returns-then-removal_marked-clause-follows : goal.returns-then-removal_marked-clause-follows
returns-then-removal_marked-clause-follows c =
    let key = key_of c.args.scope c.args.word.now in
    let s = c.args.session.now in
    of_made (HasMarkedLinked c.node_of.result) (FollowsRemoval key s) c.args.self.now.values c.removal_marked.new.self.values (c.removal_marked.ensures c.if-removal_marked.true)
    (λ v w marked. (follows_removal key s c.node_of.result v (Some w) c.node_of.ensures marked).0) (nothing_named key s true false None)

pub returns-then-removal_marked-clause-marks : goal.returns-then-removal_marked-clause-marks
returns-then-removal_marked-clause-marks c =
    let key = key_of c.args.scope c.args.word.now in
    let s = c.args.session.now in
    of_made (HasMarkedLinked c.node_of.result) (MarksRemoval key s) c.args.self.now.values c.removal_marked.new.self.values (c.removal_marked.ensures c.if-removal_marked.true)
    (λ v w marked. (follows_removal key s c.node_of.result v (Some w) c.node_of.ensures marked).1) tt

pub returns-clause-follows : goal.returns-clause-follows
returns-clause-follows c =
    let key = key_of c.args.scope c.args.word.now in
    subst (λ (o : Option Values). FollowsRemoval key c.args.session.now c.args.self.now.values o) (sym c.forget.ensures) (nothing_named key c.args.session.now true false c.args.self.now.values)

pub returns-clause-marks : goal.returns-clause-marks
returns-clause-marks c =
    let key = key_of c.args.scope c.args.word.now in
    subst (λ (o : Option Values). MarksRemoval key c.args.session.now c.args.self.now.values o) (sym c.forget.ensures) tt
