use Rattle.std.proofs.Common.{◌≡◌, ◌∙◌, ◌-◌, ◌≤◌, sym, ap, subst, arith, length, Some, rules}
use Rattle.std.proofs.lemmas.Result.{on_ok_weaker}
use Rattle.std.specs.Prelude.{slice_get}
use Rattle.name_table.specs.Named.{words_of}
use Rattle.shift_line.specs.Track.{last}
use Rattle.kept_book.specs.Kept.{changes_of, frame_of, line_of}
use Rattle.kept_book.proofs.ChangesInOrder.{frame-forth, last-position, leads-forth, leads-order, leads-repeat}
use Rattle.kept_book.proofs.book.Book.forth.Goals as goal

pub pass-requires-clause-can : goal.pass-requires-clause-can
pass-requires-clause-can c = leads-repeat (line_of c.args.self.now) (words_of c.args.self.now.names) (changes_of c.args.parts.now) (frame_of c.args.self.now) c.requires.leads.0 c.requires.leads.1

pub pass-requires-clause-first : goal.pass-requires-clause-first
pass-requires-clause-first c =
    let line = line_of c.args.self.now in
    let words = words_of c.args.self.now.names in
    let cs = changes_of c.args.parts.now in
    let f = frame_of c.args.self.now in
    let is : slice_get c.args.parts.now (length c.args.parts.now - 1) ≡ Some c.in-Some.end.now = search rules in
    let end = last-position line c.args.parts.now c.in-Some.end.now f is ∙ ap (λ x. x.position) (leads-forth line words cs f c.requires.leads.0 c.requires.leads.1) in
    let order = leads-order line words cs f c.requires.leads.0 c.requires.leads.1 in
    let from : c.args.self.now.lazy.line.first ≤ c.args.self.now.lazy.line.cursor =
    subst (λ t. t.first ≤ t.cursor) c.line-2.ensures (subst (λ n. c.line-2.result.now.first ≤ n) c.cursor.ensures.result c.cursor.ensures.first) in
    omega (arith, end, order, from)

pub pass-requires-clause-last : goal.pass-requires-clause-last
pass-requires-clause-last c =
    let is : slice_get c.args.parts.now (length c.args.parts.now - 1) ≡ Some c.in-Some.end.now = search rules in
    let end = last-position (line_of c.args.self.now) c.args.parts.now c.in-Some.end.now (frame_of c.args.self.now) is in
    subst (λ n. n ≤ last c.args.self.now.lazy.line) (sym end) c.requires.last

pub returns-clause-ok : goal.returns-clause-ok
returns-clause-ok c =
    let line = line_of c.args.self.now in
    let f = frame_of c.args.self.now in
    let is : slice_get c.args.parts.now (length c.args.parts.now - 1) ≡ Some c.in-Some.end.now = search rules in
    on_ok_weaker c.pass.result (λ there. there ∙ frame-forth c.in-Some.end.now.to line (changes_of c.args.parts.now) f (last-position line c.args.parts.now c.in-Some.end.now f is)) c.pass.ensures.ok
