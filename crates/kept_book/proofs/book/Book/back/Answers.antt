use Rattle.std.proofs.Common.{◌≡◌, ◌∙◌, ◌≤◌, ap, subst, arith, Some, rules}
use Rattle.std.proofs.lemmas.Result.{on_ok_weaker}
use Rattle.std.specs.Prelude.{slice_get}
use Rattle.name_table.specs.Named.{words_of}
use Rattle.shift_line.specs.Track.{last}
use Rattle.kept_book.specs.Kept.{changes_of, frame_of, line_of}
use Rattle.kept_book.proofs.ChangesInOrder.{first-position, frame-back, leads-back, leads-order, leads-return}
use Rattle.kept_book.proofs.book.Book.back.Goals as goal

pub pass-requires-clause-can : goal.pass-requires-clause-can
pass-requires-clause-can c = leads-return (line_of c.args.self.now) (words_of c.args.self.now.names) (changes_of c.args.parts.now) c.requires.leads.0 (frame_of c.args.self.now) c.requires.leads.1

pub pass-requires-clause-last : goal.pass-requires-clause-last
pass-requires-clause-last c =
    let line = line_of c.args.self.now in
    let words = words_of c.args.self.now.names in
    let cs = changes_of c.args.parts.now in
    let g = frame_of c.args.self.now in
    let is : slice_get c.args.parts.now 0 ≡ Some c.in-Some.first.now = search rules in
    let start = first-position line c.args.parts.now c.in-Some.first.now g is ∙ ap (λ x. x.position) (leads-back line words cs c.requires.leads.0 g c.requires.leads.1) in
    let order = leads-order line words cs c.requires.leads.0 g c.requires.leads.1 in
    let within : c.args.self.now.lazy.line.cursor ≤ last c.args.self.now.lazy.line =
    subst (λ t. t.cursor ≤ last t) c.line.ensures (subst (λ n. n ≤ last c.line.result.now) c.cursor.ensures.result c.cursor.ensures.last) in
    omega (arith, start, order, within)

pub returns-clause-ok : goal.returns-clause-ok
returns-clause-ok c =
    let line = line_of c.args.self.now in
    let g = frame_of c.args.self.now in
    let is : slice_get c.args.parts.now 0 ≡ Some c.in-Some.first.now = search rules in
    on_ok_weaker c.pass.result (λ there. there ∙ frame-back c.in-Some.first.now.from line (changes_of c.args.parts.now) g (first-position line c.args.parts.now c.in-Some.first.now g is)) c.pass.ensures.ok
