-- The workbooks that the changes of a step lead over. Serves undo and redo.
use Rattle.std.proofs.Common.{◌≡◌, ◌∙◌, sym, ap, subst, refl, arith, ℕ, ◌≤◌, max, List, [], ◌∷◌, Option, None, Some, is_some, option_map}
use Rattle.std.proofs.lemmas.Option.{none-some, same_Some}
use Rattle.std.specs.FinMap as fin
use Rattle.std.specs.HashMap as hash
use Rattle.std.specs.Prelude.{nat_eq, option_and_then, unwrap_or}
use Rattle.formula_tree.specs.Term.{Term}
use Rattle.formula_tree.specs.declared.reference.Corner.{Corner}
use Rattle.formula_tree.specs.declared.reference.Home.{Home}
use Rattle.formula_tree.specs.declared.reference.Home.TheVariants as homes
use Rattle.tree_rewrite.specs.References.{FitsSheets}
use Rattle.grid_store.specs.declared.cell.Cell.{Cell}
use Rattle.grid_store.specs.declared.cell.Cell.TheVariants as cell
use Rattle.lazy_store.proofs.Reaching.{reaches}
use Rattle.lazy_store.proofs.Stepping.{lowest-below}
use Rattle.lazy_store.specs.Holders.{kept_of}
use Rattle.lazy_store.specs.Kept.{at, standing}
use Rattle.lazy_store.specs.Standing.{IsFit, Standing}
use Rattle.lazy_store.specs.Store.{at_in}
use Rattle.lazy_store.specs.declared.holder.Holder.{Holder}
use Rattle.lazy_store.specs.declared.lazy.Lazy.{Lazy}
use Rattle.name_table.specs.Named.{words_of}
use Rattle.undo_book.specs.History.{History}
use Rattle.book_values.specs.Workbook as book
use Rattle.book_values.specs.Workbook.{content_tree}
use Rattle.book_model.specs.Answers.{valued}
use Rattle.kept_book.proofs.Contents.{get-contents}
use Rattle.kept_book.proofs.FoundNames.{seen-id, tree_in-entries}
use Rattle.kept_book.proofs.NamesSeen.{number-spells}
use Rattle.kept_book.proofs.ShiftedContents.{filled_cell}
use Rattle.kept_book.specs.Change.{Change, Joins, forth}
use Rattle.kept_book.specs.Frame.{Frame, named_at, names_seen, numbered_at, stood_at, stood_of, tree_named}
use Rattle.kept_book.specs.Kept.{at_of, frame_of, line_of}
use Rattle.kept_book.specs.Stored.{content_of, tree_of}
use Rattle.kept_book.specs.Walk.{back_all, forth_all}
use Rattle.kept_book.specs.declared.book.Book.{Book}
use Rattle.kept_steps.specs.Fits.{Fits, open_changes, start_of, steps_of}
use Rattle.kept_steps.specs.Parts.{CanBeFollowed, PartTurns, Turns}
use Rattle.kept_steps.specs.Steps.{AllLeadOn, AllLedHere, AreAhead, ArePast, AreWholeHere, AreWholeOn, IsWhole}
use Rattle.kept_steps.specs.Timeline.{Timeline, book_in, timeline_of}
use Rattle.kept_steps.specs.Turned.{first_step}
use Rattle.kept_steps.specs.declared.entry.Entry.{Entry}
use Rattle.kept_steps.proofs.CellsTurned.{SameBeside, differ, first-lead, first-led, forth-beside}
use Rattle.kept_steps.proofs.GivenNodes.{numbered, tree-known}
use Rattle.kept_steps.proofs.NamesTurned.{of-name, renamed-back, renamed-forth}
use Rattle.kept_steps.proofs.Operating.{lists-lost, operates}
use Rattle.kept_steps.proofs.OperationsTurned.{reached}
use Rattle.kept_steps.proofs.Walks.{before_whole, here_whole, joins_here, joins_on, leads, on_whole}

-- ---- what formulas refer to along the line

there : (o : Option Standing) (d x : Standing) → o ≡ Some x → unwrap_or o d ≡ x
there o d x is = ap (λ r. unwrap_or r d) is

fit-there : (store : Lazy) (id k : ℕ) (x : Standing) → at_in store id k ≡ Some x → IsFit x
fit-there store id k x is = by (hash.get nat_eq store.holders id) refl is
  where
    by : (r : Option Holder) → hash.get nat_eq store.holders id ≡ r → option_and_then (λ h. at store.line h k) (option_map kept_of r) ≡ Some x → IsFit x
    by None e h = absurd (none-some x h)
    by (Some holder) e h =
        let coherent = store.coherent id holder e in
        let some : at store.line (kept_of holder) k ≡ None → ⊥ = λ none. none-some x (sym none ∙ h) in
        let from = lowest-below store.line (kept_of holder) k coherent some in
        let upto : k ≤ max (kept_of holder).position k = omega arith in
        subst IsFit (there (at store.line (kept_of holder) k) (standing (kept_of holder)) x h) ((reaches store.line (kept_of holder) store.sound coherent k some).fits k from upto)

stood-fits : (h : Home) (u t : Term Corner) → FitsSheets u → tree_of (stood_at h u) ≡ t → FitsSheets t
stood-fits (homes.Cell p) u t fits is = subst FitsSheets is fits
stood-fits (homes.Name sheet) u t fits is = subst FitsSheets is tt

-- ---- a whole frame shows a workbook that can be followed

module _ (b : Book) where
  abbrev t : Timeline
  t = timeline_of b

  numbered-fits : (k id : ℕ) (u : Term Corner) → tree_of (numbered_at t.at k id) ≡ u → FitsSheets u
  numbered-fits k id u = by (t.at id k) refl
    where
      by : (r : Option Standing) → t.at id k ≡ r → tree_of (option_and_then stood_of r) ≡ u → FitsSheets u
      by None e is = subst FitsSheets is tt
      by (Some x) e is = stood-fits x.home x.tree u (fit-there b.lazy id k x e).tree is

  named-fits : (k id : ℕ) (u : Term Corner) → named_at t.at k id ≡ u → FitsSheets u
  named-fits k id u = by (t.at id k) refl
    where
      by : (r : Option Standing) → t.at id k ≡ r → tree_named r ≡ u → FitsSheets u
      by None e is = subst FitsSheets is tt
      by (Some x) e is = subst FitsSheets is (fit-there b.lazy id k x e).tree

  cell-fits : (k : ℕ) (u : Term Corner) (r : Option Cell) → content_tree (option_map (content_of (numbered_at t.at k)) r) ≡ Some u → FitsSheets u
  cell-fits k u None is = absurd (none-some u is)
  cell-fits k u (Some (cell.Number m)) is = absurd (none-some u is)
  cell-fits k u (Some (cell.Truth m)) is = absurd (none-some u is)
  cell-fits k u (Some (cell.Text m)) is = absurd (none-some u is)
  cell-fits k u (Some (cell.Formula id)) is = numbered-fits k id u (same_Some (tree_of (numbered_at t.at k id)) u is)
  cell-fits k u (Some (cell.Broken m)) is = absurd (none-some u is)

  module _ (f : Frame) (whole : IsWhole t f) where
    trees-fit : (x : book.Node) (u : Term Corner) → book.tree_at (valued (book_in t f)) x ≡ Some u → FitsSheets u
    trees-fit (book.place p) u is = cell-fits f.position u (fin.get f.cells p) (ap content_tree (sym (get-contents (numbered_at t.at f.position) f.cells p)) ∙ is)
    trees-fit (book.name key) u is =
        let h = b.names.words.proper in
        let seen = seen-id t.words h (named_at t.at f.position) f.names key (ap is_some (sym (tree_in-entries (names_seen t.words (named_at t.at f.position) f.names) key) ∙ is)) in
        let known = tree-known t.at f.position t.words h f.names whole.stand.names (valued (book_in t f)) refl key.scope seen.0 key.word (number-spells t.words key.word seen.0 h seen.1) in
        named-fits f.position seen.2.0 u (same_Some (named_at t.at f.position seen.2.0) u (sym (known ∙ ap (option_map (named_at t.at f.position)) seen.2.1) ∙ is))

    pub followed : CanBeFollowed t.words (book_in t f)
    followed = record {
      numbered = numbered t.at f.position t.words b.names.words.proper f.names whole.stand.names (valued (book_in t f)) refl;
      cells = λ p has. whole.inside p (filled_cell (numbered_at t.at f.position) f.cells p has);
      trees = trees-fit;
    }

  -- ---- changes lead over such workbooks

  part-turns : (c : Change) (f g : Frame) → Joins t.line t.words c f g → IsWhole t f → IsWhole t g → PartTurns t.line t.words c (book_in t f) (book_in t g)
  part-turns c f g joins before after = record {
    before = followed f before;
    after = followed g after;
    cells = λ alone. differ t t (c ∷ []) f g refl refl (subst (SameBeside (c ∷ []) f) joins.after (forth-beside t (c ∷ []) f (leads t c f g joins, tt) (alone, tt)));
    operation = operates b (c ∷ []) f g (g, joins, refl) before.stand before.inside;
    lost = lists-lost b (c ∷ []) f g (g, joins, refl) after.inside;
    back = λ key was is named. renamed-back t b.names.words.proper c f g joins before.stand after.stand key was is (of-name c key was is named);
    forth = λ key was is named. renamed-forth t b.names.words.proper c f g joins before.stand after.stand key was is (of-name c key was is named);
  }

  turns-here : (cs : List Change) (f : Frame) → AllLedHere t cs f → AreWholeHere t cs f → Turns t.line t.words cs (book_in t (back_all t.line cs f)) (book_in t f)
  turns-here [] f led whole = refl
  turns-here (c ∷ cs) f led whole =
      let g = back_all t.line cs f in
      (book_in t g, part-turns c (back_all t.line (c ∷ cs) f) g (joins_here t c g led.1) whole.1 (before_whole t cs f whole.0), turns-here cs f led.0 whole.0)

  turns-on : (cs : List Change) (f : Frame) → AllLeadOn t cs f → AreWholeOn t cs f → Turns t.line t.words cs (book_in t f) (book_in t (forth_all t.line cs f))
  turns-on [] f lead whole = refl
  turns-on (c ∷ cs) f lead whole =
      let g = forth t.line c f in
      (book_in t g, part-turns c f g (joins_on t c f lead.0) whole.0 (on_whole t cs g whole.1), turns-on cs g lead.1 whole.1)

-- whole frames along the first step
first-here : (t : Timeline) (f : Frame) (es : List (List Change)) → IsWhole t f → ArePast t f es → AreWholeHere t (first_step es) f
first-here t f [] whole past = whole
first-here t f (e ∷ es) whole past = past.1

first-on : (t : Timeline) (f : Frame) (es : List (List Change)) → IsWhole t f → AreAhead t f es → AreWholeOn t (first_step es) f
first-on t f [] whole ahead = whole
first-on t f (e ∷ es) whole ahead = ahead.1

module _ (old new : Book) (h : History Entry) (b : Option Entry) (none : b ≡ None) (fits : Fits old h b) (standings : (id k : ℕ) → at_of new id k ≡ at_of old id k) (words : words_of new.names ≡ words_of old.names) where
  abbrev cs_back : List Change
  cs_back = first_step (steps_of h.done)

  abbrev cs_forth : List Change
  cs_forth = first_step (steps_of h.undone)

  whole : IsWhole (timeline_of old) (frame_of old)
  whole = here_whole (timeline_of old) (open_changes b) (frame_of old) fits.whole

  -- after a step back
  pub parts-back : frame_of new ≡ back_all (line_of old) cs_back (frame_of old) → Turns (line_of old) (words_of old.names) cs_back (book_in (timeline_of new) (frame_of new)) (book_in (timeline_of old) (frame_of old))
  parts-back is =
      let t = timeline_of old in
      let f = frame_of old in
      let past = subst (λ o. ArePast t (start_of t o f) (steps_of h.done)) none fits.past in
      subst (λ x. Turns t.line t.words cs_back x (book_in t f)) (sym (reached old new h b fits standings words (back_all t.line cs_back f) is))
      (turns-here old cs_back f (first-led t f (steps_of h.done) past) (first-here t f (steps_of h.done) whole past))

  -- and after one forth
  pub parts-forth : frame_of new ≡ forth_all (line_of old) cs_forth (frame_of old) → Turns (line_of old) (words_of old.names) cs_forth (book_in (timeline_of old) (frame_of old)) (book_in (timeline_of new) (frame_of new))
  parts-forth is =
      let t = timeline_of old in
      let f = frame_of old in
      subst (Turns t.line t.words cs_forth (book_in t f)) (sym (reached old new h b fits standings words (forth_all t.line cs_forth f) is))
      (turns-on old cs_forth f (first-lead t f (steps_of h.undone) fits.ahead) (first-on t f (steps_of h.undone) whole fits.ahead))
