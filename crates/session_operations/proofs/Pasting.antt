-- What a paste of copied cells comes to, where it is accepted and where it wants memory. Serves the paste of a copy.
use Rattle.std.proofs.Common.{◌≡◌, ◌∙◌, sym, ap, subst, refl, arith, ℕ, ◌<◌, ◌≤◌, Bool, true, false, cond, List, Option, Some, None}
use Rattle.std.specs.Prelude.{nat_lt}
use Rattle.std.proofs.lemmas.Bool.Decides.{nat_tests}
use Rattle.std.specs.List.{All}
use Rattle.cell_addr.specs.Place.{IsBlockInside}
use Rattle.cell_addr.specs.declared.place.Block.{Block}
use Rattle.cell_addr.specs.declared.place.Place.{Place}
use Rattle.clip_board.specs.declared.clip.CopyItem.{CopyItem}
use Rattle.book_model.proofs.SoundSteps.{next_sound}
use Rattle.book_model.specs.Changes.{with_copy}
use Rattle.book_model.specs.Clipboard.{Clipboard, nothing, copied, without_cut}
use Rattle.book_model.specs.Operation.{paste}
use Rattle.book_model.specs.Refusals.{cause}
use Rattle.book_model.specs.Session.{changed, changed_in, next}
use Rattle.book_model.specs.Sound.{IsSound, IsSoundClip}
use Rattle.book_model.specs.Workbook.{Batch, State, Workbook}
use Rattle.book_model.specs.declared.refusal.Refusal.{Refusal}
use Rattle.kept_book.specs.Copied.{IsCopied, contents_copied}
use Rattle.session_operations.specs.Seen.{with_clipboard}
use Rattle.kept_book.proofs.CopiedCells.{copied-sound}
use Rattle.session_operations.proofs.Turning.{next_done}

-- two causes of which none holds, or one does, with a third one behind them
pub three-none : (a b c : Bool) (q r s : Refusal) → cond a (Some q) (cond b (Some r) None) ≡ None → c ≡ false → cond a (Some q) (cond b (Some r) (cond c (Some s) None)) ≡ None
three-none true b c q r s h k = cc
three-none false true c q r s h k = cc
three-none false false c q r s h k = ap (λ x. cond x (Some s) None) k

pub three-third : (a b c : Bool) (q r s : Refusal) → cond a (Some q) (cond b (Some r) None) ≡ None → c ≡ true → cond a (Some q) (cond b (Some r) (cond c (Some s) None)) ≡ Some s
three-third true b c q r s h k = cc
three-third false true c q r s h k = cc
three-third false false c q r s h k = ap (λ x. cond x (Some s) None) k

pub three-first : (a b c : Bool) (q r s t : Refusal) → cond a (Some q) (cond b (Some r) None) ≡ Some t → cond a (Some q) (cond b (Some r) (cond c (Some s) None)) ≡ Some t
three-first true b c q r s t h = h
three-first false true c q r s t h = h
three-first false false c q r s t h = cc

-- the number of cells, as it is counted
pub too-many : (n m : ℕ) → m ≡ n → 1000000 < n → nat_lt 1000000 m ≡ true
too-many n m e h = grind (arith, nat_tests)

pub few-enough : (n m : ℕ) → m ≡ n → n ≤ 1000000 → nat_lt 1000000 m ≡ false
few-enough n m e h = grind (arith, nat_tests)

-- a change, where something waits to be pasted
changed-clip : (c : Clipboard) (b : Workbook) (d : State) → with_clipboard (without_cut c) (changed b d) ≡ changed b (with_clipboard c d)
changed-clip c b d = go d.batch
  where
    go : (o : Option Batch) → with_clipboard (without_cut c) (changed_in o b d) ≡ changed_in o b (with_clipboard c d)
    go None = refl
    go (Some x) = refl

-- a session is sound with what can be pasted, and without
pub clip-sound : (d : State) (c : Clipboard) → IsSoundClip c → IsSound d → IsSound (with_clipboard c d)
clip-sound d c i s = record { book = s.book; undo = s.undo; redo = s.redo; batch = s.batch; clip = i; few = s.few; cleared = s.cleared; steps = s.steps; limit = s.limit }

-- a paste of copied cells leads to the next session
module _ (d e : State) (area : Block) (items : List (Place × CopyItem)) (at : Place) (sound : IsSound d) (inside : IsBlockInside area) (all : All IsCopied items)
    (none : cause (paste at) (with_clipboard (copied area (contents_copied items)) d) ≡ None) (is : e ≡ changed (with_copy area (contents_copied items) at d.book) d) where
  pub pasted-turns : with_clipboard (copied area (contents_copied items)) e ≡ next (paste at) (with_clipboard (copied area (contents_copied items)) d)
  pasted-turns =
      let c = copied area (contents_copied items) in
      ap (with_clipboard c) is ∙ changed-clip c (with_copy area (contents_copied items) at d.book) d ∙ sym (next_done (paste at) (with_clipboard c d) none)

  pub pasted-sound : nothing ≡ e.clip → IsSound e
  pasted-sound clear =
      let c = copied area (contents_copied items) in
      let after : IsSound (with_clipboard c e) = subst IsSound (sym pasted-turns) (next_sound (paste at) (with_clipboard c d) (clip-sound d c (inside, copied-sound items all) sound)) in
      subst (λ x. IsSound (with_clipboard x e)) clear (clip-sound (with_clipboard c e) nothing tt after)
