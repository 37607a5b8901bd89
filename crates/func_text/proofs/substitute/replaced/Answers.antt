use Rattle.std.proofs.Common.{◌≤◌, ◌∙◌, sym, subst, IsUtf8, arith, length, string_bytes}
use Rattle.func_text.proofs.Occurrences.{after_utf8}
use Rattle.func_text.proofs.Replacing.{left_all, made_all, made_too_long, walk_step}
use Rattle.func_text.proofs.substitute.replaced.Goals as goal

pub returns-then-len-gt-MAX_MADE_TEXT : goal.returns-then-len-gt-MAX_MADE_TEXT
returns-then-len-gt-MAX_MADE_TEXT c =
    let h = c.in-Some.ensures.cases in
    let i = c.occurrences.invariant in
    let fits : h.0 ≤ length c.occurrences.rest.now = omega (arith, h.5, h.6, h.7) in
    let walk = walk_step c.args.which c.args.old.now c.args.new.now c.utf8.old c.utf8.new c.requires c.occurrences.number _ c.occurrences.rest.now _ _ c.in-Some.before.now c.stands_for.result.now c.in-Some.after.now _ h.0 h.1 i.utf8 h.2 fits
    h.3 h.4 c.stands_for.ensures c.in_ok-append.ensures c.in_ok-append-2.ensures i.whole in
    sym (made_too_long (string_bytes c.append-in-Some.new.kept) _ _ walk (omega (arith, c.len.ensures, c.if-len-gt-MAX_MADE_TEXT.true)))

pub occurrences-preserved : goal.occurrences-preserved
occurrences-preserved c =
    let h = c.in-Some.ensures.cases in
    let i = c.occurrences.invariant in
    let fits : h.0 ≤ length c.occurrences.rest.now = omega (arith, h.5, h.6, h.7) in
    let walk = walk_step c.args.which c.args.old.now c.args.new.now c.utf8.old c.utf8.new c.requires c.occurrences.number _ c.occurrences.rest.now _ _ c.in-Some.before.now c.stands_for.result.now c.in-Some.after.now _ h.0 h.1 i.utf8 h.2 fits
    h.3 h.4 c.stands_for.ensures c.in_ok-append.ensures c.in_ok-append-2.ensures i.whole in
    record {
      utf8 = subst IsUtf8 (sym h.4) (after_utf8 c.args.old.now c.occurrences.rest.now c.utf8.old i.utf8 h.0 h.1 h.2 fits);
      whole = walk;
      number = omega (arith, h.2.1.ends, h.7, c.requires, i.number);
    }

pub occurrences-smaller : goal.occurrences-smaller
occurrences-smaller c =
    let h = c.in-Some.ensures.cases in
    omega (arith, h.2.1.ends, h.7, c.requires)

pub returns : goal.returns
returns c =
    let i = c.occurrences.invariant in
    let rest = c.occurrences.rest.now in
    let all = left_all c.args.which c.args.old.now c.args.new.now c.utf8.old c.utf8.new c.requires c.occurrences.number rest i.utf8 c.in_default.ensures.cases in
    c.made_text.ensures
    ∙ made_all _ _ rest _ _ _ c.new.ensures c.in_ok-append-3.ensures all i.whole
