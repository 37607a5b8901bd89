use Rattle.std.proofs.Common.{◌≡◌, ◌∙◌, ◌-◌, ◌+◌, ◌<◌, sym, ap, subst, arith, length, drop, map}
use Rattle.std.proofs.lemmas.List.{drop_all}
use Rattle.name_table.specs.Listed.{listed}
use Rattle.name_table.specs.Named.{names_of, words_of}
use Rattle.kept_book.specs.Change.{HaveSlots, names_with, sheets_with}
use Rattle.kept_book.specs.Kept.{changes_of, name_change, sheet_change}
use Rattle.kept_book.specs.internal.Stepping.{CanReturn, names_back, sheets_back}
use Rattle.kept_book.proofs.ChangesInOrder.{parts-at, return-from}
use Rattle.kept_book.proofs.renaming.drafted_back.Goals as goal

pub loop-index-init : goal.loop-index-init
loop-index-init c =
    let ps = c.args.parts.now in
    let sheets = listed c.args.names.now in
    let names = names_of c.args.names.now in
    let none = drop_all (length ps) ps (omega arith) in
    record {
      sheets = c.new-draft.ensures.sheets sheets ∙ sym (ap (λ qs. sheets_back (changes_of qs) sheets) none);
      names = c.new-draft.ensures.names names ∙ sym (ap (λ qs. names_back (changes_of qs) names) none);
      known = c.new-draft.ensures.known (words_of c.args.names.now);
    }

pub put-requires : goal.put-requires
put-requires c =
    let i = c.loop-index.index - 1 in
    let ps = c.args.parts.now in
    let e = c.index-parts-index.result in
    let sheets = listed c.args.names.now in
    let words = words_of c.args.names.now in
    let last : c.loop-index.index ≡ i + 1 = omega (arith, c.loop-index-test.true) in
    let below : i < length ps = omega (arith, c.loop-index-test.true, c.loop-index.auto.index) in
    let can = subst (λ cs. CanReturn words cs sheets) (parts-at ps i e below c.index-parts-index.is) (return-from words ps i sheets c.requires.can) in
    let there = c.loop-index.invariant.sheets ∙ ap (λ n. sheets_back (changes_of (drop n ps)) sheets) last in
    record { slots = subst (HaveSlots (λ x. x.0) (map sheet_change e.sheets.items)) (sym there) can.0 }

pub loop-index-preserved : goal.loop-index-preserved
loop-index-preserved c =
    let i = c.loop-index.index - 1 in
    let ps = c.args.parts.now in
    let e = c.index-parts-index.result in
    let sheets = listed c.args.names.now in
    let names = names_of c.args.names.now in
    let words = words_of c.args.names.now in
    let it = c.loop-index.invariant in
    let last : c.loop-index.index ≡ i + 1 = omega (arith, c.loop-index-test.true) in
    let below : i < length ps = omega (arith, c.loop-index-test.true, c.loop-index.auto.index) in
    let here = parts-at ps i e below c.index-parts-index.is in
    let can = subst (λ cs. CanReturn words cs sheets) here (return-from words ps i sheets c.requires.can) in
    record {
      sheets = c.in_ok-put.ensures.sheets ∙ ap (sheets_with (λ x. x.0) (map sheet_change e.sheets.items)) (it.sheets ∙ ap (λ n. sheets_back (changes_of (drop n ps)) sheets) last)
          ∙ sym (ap (λ cs. sheets_back cs sheets) here);
      names = c.in_ok-put.ensures.names names ∙ ap (names_with (λ x. x.0) (map name_change e.names.items)) (it.names ∙ ap (λ n. names_back (changes_of (drop n ps)) names) last)
          ∙ sym (ap (λ cs. names_back cs names) here);
      known = c.in_ok-put.ensures.known words can.1 it.known;
    }
