use Rattle.std.proofs.Common.{◌≡◌, ◌∙◌, ◌++◌, sym, ap, subst, true, false, [], ◌∷◌, map}
use Rattle.std.specs.List.{All}
use Rattle.std.proofs.lemmas.List.Elements.{All-push}
use Rattle.cell_addr.specs.Place.{covers}
use Rattle.cell_addr.specs.declared.place.Place.{Place}
use Rattle.clip_board.specs.declared.clip.CopyItem.{CopyItem}
use Rattle.name_table.specs.Listed.{listed}
use Rattle.shift_core.specs.Carried.{destination}
use Rattle.kept_book.specs.Copied.{IsCopied, entry_copied}
use Rattle.kept_book.proofs.PastedBooks.{carried-there, pasted-next, pasted-over}
use Rattle.kept_book.proofs.pasting.items_pasted.Goals.{else-holds, then-holds+in_ok-pasted+in_ok-push}
use Rattle.kept_book.proofs.pasting.items_pasted.Goals as goal

pub loop-from-preserved : goal.loop-from-preserved
loop-from-preserved c =
    let sheets = listed c.args.sheets.now in
    let area = c.args.area in
    let at = c.args.at in
    let items = c.args.cells.now in
    let i = c.loop-from.from-index in
    let e = c.loop-from-item.result in
    let old = c.loop-from.list.items in
    let there : Place × CopyItem → Type 0 = λ p. covers (destination area at) p.0 ≡ true in
    elim c.if-holds.branch [
      | then-holds+in_ok-pasted+in_ok-push w ↦
          let here : covers area e.0 ≡ true = sym c.holds.ensures.test ∙ w.if-holds.true in
          let push : c.if-holds.list.items ≡ old ++ (w.carried_place-to.result, w.in_ok-pasted.pasted) ∷ [] = ap (λ l. l.items) w.list-is ∙ w.in_ok-push.ensures.items in
          record {
            entries = pasted-next sheets area at items i e w.carried_place-to.result w.in_ok-pasted.pasted old c.if-holds.list.items c.loop-from-test.true c.loop-from-item.is here w.carried_place-to.ensures
                w.in_ok-pasted.ensures.content c.loop-from.invariant.entries push;
            copied = subst (All IsCopied) (sym push) (All-push IsCopied old (w.carried_place-to.result, w.in_ok-pasted.pasted) c.loop-from.invariant.copied w.in_ok-pasted.ensures.copied);
            there = subst (All there) (sym push)
                (All-push there old (w.carried_place-to.result, w.in_ok-pasted.pasted) c.loop-from.invariant.there (ap (covers (destination area at)) w.carried_place-to.ensures ∙ carried-there area at e.0 here));
          }
      | else-holds w ↦
          let same = ap (λ l. l.items) w.list-is in
          let other : covers area e.0 ≡ false = sym c.holds.ensures.test ∙ w.if-holds.false in
          record {
            entries = ap (map entry_copied) same ∙ pasted-over sheets area at items i e old c.loop-from-test.true c.loop-from-item.is other c.loop-from.invariant.entries;
            copied = subst (All IsCopied) (sym same) c.loop-from.invariant.copied;
            there = subst (All there) (sym same) c.loop-from.invariant.there;
          }
    ]
