use Rattle.std.proofs.Common.{sym, subst, true, false, Option, Some, None}
use Rattle.book_values.specs.Names.{key_of}
use Rattle.kept_values.specs.declared.values.Values.{Values}
use Rattle.session_values.specs.Naming.{FollowsAddition, MarksAddition}
use Rattle.session_values.specs.internal.Marked.{HasSought}
use Rattle.session_values.proofs.MarkedCells.{of_made}
use Rattle.session_values.proofs.Named.{follows_addition, nothing_named}
use Rattle.session_values.proofs.values.SessionValues.name_added.Goals as goal

pub returns-then-addition_marked-clause-follows : goal.returns-then-addition_marked-clause-follows
returns-then-addition_marked-clause-follows c =
    let scope = c.args.scope in
    let word = c.args.word.now in
    let s = c.args.session.now in
    of_made (HasSought c.node_of-name.result c.node_of.result word) (FollowsAddition (key_of scope word) s) c.args.self.now.values c.addition_marked.new.self.values (c.addition_marked.ensures c.if-addition_marked.true)
    (λ v w marked. (follows_addition scope word s c.node_of-name.result c.node_of.result v (Some w) c.node_of-name.ensures c.node_of.ensures marked).0) (nothing_named (key_of scope word) s false true None)

pub returns-then-addition_marked-clause-marks : goal.returns-then-addition_marked-clause-marks
returns-then-addition_marked-clause-marks c =
    let scope = c.args.scope in
    let word = c.args.word.now in
    let s = c.args.session.now in
    of_made (HasSought c.node_of-name.result c.node_of.result word) (MarksAddition scope word s) c.args.self.now.values c.addition_marked.new.self.values (c.addition_marked.ensures c.if-addition_marked.true)
    (λ v w marked. (follows_addition scope word s c.node_of-name.result c.node_of.result v (Some w) c.node_of-name.ensures c.node_of.ensures marked).1) tt

pub returns-clause-follows : goal.returns-clause-follows
returns-clause-follows c =
    subst (λ (o : Option Values). FollowsAddition (key_of c.args.scope c.args.word.now) c.args.session.now c.args.self.now.values o) (sym c.forget.ensures) (nothing_named (key_of c.args.scope c.args.word.now) c.args.session.now false true c.args.self.now.values)

pub returns-clause-marks : goal.returns-clause-marks
returns-clause-marks c =
    subst (λ (o : Option Values). MarksAddition c.args.scope c.args.word.now c.args.session.now c.args.self.now.values o) (sym c.forget.ensures) tt
