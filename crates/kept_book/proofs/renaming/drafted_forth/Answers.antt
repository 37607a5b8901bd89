use Rattle.std.proofs.Common.{◌∙◌, ◌+◌, sym, ap, subst, arith, drop}
use Rattle.name_table.specs.Drafts.{names_drafted, sheets_drafted}
use Rattle.name_table.specs.Listed.{listed}
use Rattle.name_table.specs.Named.{names_of, words_of}
use Rattle.kept_book.specs.Kept.{changes_of}
use Rattle.kept_book.specs.internal.Stepping.{CanRepeat, names_forth, sheets_forth}
use Rattle.kept_book.proofs.ChangesInOrder.{parts-at}
use Rattle.kept_book.proofs.renaming.drafted_forth.Goals as goal

pub loop-part-init : goal.loop-part-init
loop-part-init c =
    let cs = changes_of c.args.parts.now in
    let sheets = c.new-draft.ensures.sheets (listed c.args.names.now) in
    let words = words_of c.args.names.now in
    record {
      sheets = ap (sheets_forth cs) sheets;
      names = ap (names_forth cs) (c.new-draft.ensures.names (names_of c.args.names.now));
      known = c.new-draft.ensures.known words;
      can = subst (CanRepeat words cs) (sym sheets) c.requires.can;
    }

pub put-requires : goal.put-requires
put-requires c =
    let here = parts-at c.args.parts.now c.loop-part.part-index c.part-item.result (omega arith) c.part-item.is in
    let can = subst (λ cs. CanRepeat (words_of c.args.names.now) cs (sheets_drafted c.loop-part.draft (listed c.args.names.now))) here c.loop-part.invariant.can in
    record { slots = can.0 }

pub loop-part-preserved : goal.loop-part-preserved
loop-part-preserved c =
    let rest = changes_of (drop (c.loop-part.part-index + 1) c.args.parts.now) in
    let here = parts-at c.args.parts.now c.loop-part.part-index c.part-item.result (omega arith) c.part-item.is in
    let sheets = sheets_drafted c.loop-part.draft (listed c.args.names.now) in
    let names = names_of c.args.names.now in
    let words = words_of c.args.names.now in
    let it = c.loop-part.invariant in
    let put = c.in_ok-put.ensures in
    let can = subst (λ cs. CanRepeat words cs sheets) here it.can in
    record {
      sheets = ap (sheets_forth rest) put.sheets ∙ sym (ap (λ cs. sheets_forth cs sheets) here) ∙ it.sheets;
      names = ap (names_forth rest) (put.names names) ∙ sym (ap (λ cs. names_forth cs (names_drafted c.loop-part.draft names)) here) ∙ it.names;
      known = put.known words can.1 it.known;
      can = subst (CanRepeat words rest) (sym put.sheets) can.2;
    }
