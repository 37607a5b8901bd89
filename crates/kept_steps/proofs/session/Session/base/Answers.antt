use Rattle.std.proofs.Common.{◌∙◌, ◌≡◌, sym, ap, subst, arith, get_or, IfSome, length}
use Rattle.std.specs.Prelude.{unwrap_or}
use Rattle.std.specs.VecDeque.{deque_len}
use Rattle.kept_book.specs.Kept.{frame_of}
use Rattle.kept_steps.specs.Fits.{start_of}
use Rattle.kept_steps.specs.Timeline.{timeline_of}
use Rattle.kept_steps.proofs.Settled.{base-found, base-past, rests-open}
use Rattle.kept_steps.proofs.session.Session.base.Goals as goal

pub returns-in-Some : goal.returns-in-Some
returns-in-Some c =
    let s = c.args.self.now in
    let t = timeline_of s.book in
    let all : length c.done-done.result.now.items ≡ length s.steps.done = ap length c.done-done.ensures.result in
    let long : deque_len c.done-done.result.now ≡ length c.done-done.result.now.items = c.done-done.result.now.ok.0 in
    base-found t (start_of t s.batch (frame_of s.book)) s.steps.done c.loop-index.index c.get.result c.start.result c.in-Some.from (c.get.ensures.variant.1 (omega (arith, c.loop-index-test.true, c.len-index-end.ensures)))
    (subst (λ es. IfSome c.get.result (λ x. x.now ≡ get_or es c.loop-index.index x.now)) c.done-done.ensures.result c.get.ensures.lookup) (omega (arith, c.loop-index-test.true, c.len-index-end.ensures, all, long)) c.start.ensures c.in-Some.is c.loop-index.invariant

pub returns-in-Some-open_start : goal.returns-in-Some-open_start
returns-in-Some-open_start c =
    let s = c.args.self.now in
    let t = timeline_of s.book in
    let all : length c.done-done.result.now.items ≡ length s.steps.done = ap length c.done-done.ensures.result in
    let long : deque_len c.done-done.result.now ≡ length c.done-done.result.now.items = c.done-done.result.now.ok.0 in
    ap (λ o. unwrap_or o (frame_of s.book).position) (sym c.in-Some-open_start.is ∙ c.open_start.ensures) ∙ sym (rests-open t s.batch (frame_of s.book)) ∙ base-past t (start_of t s.batch (frame_of s.book)) s.steps.done c.loop-index.index (omega (arith, c.loop-index-test.false, c.len-index-end.ensures, all, long)) c.loop-index.invariant

pub returns-in-None : goal.returns-in-None
returns-in-None c =
    let s = c.args.self.now in
    let t = timeline_of s.book in
    let all : length c.done-done.result.now.items ≡ length s.steps.done = ap length c.done-done.ensures.result in
    let long : deque_len c.done-done.result.now ≡ length c.done-done.result.now.items = c.done-done.result.now.ok.0 in
    c.cursor.ensures.result ∙ ap (λ l. l.cursor) c.line.ensures ∙ ap (λ o. unwrap_or o (frame_of s.book).position) (sym c.in-None.is ∙ c.open_start.ensures) ∙ sym (rests-open t s.batch (frame_of s.book)) ∙ base-past t (start_of t s.batch (frame_of s.book)) s.steps.done c.loop-index.index (omega (arith, c.loop-index-test.false, c.len-index-end.ensures, all, long)) c.loop-index.invariant
