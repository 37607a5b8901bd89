-- Which marks there are after a paste. Serves the engine's call.
use Rattle.std.proofs.Common.{◌≡◌, sym, subst, Some, Result, Ok, Err}
use Rattle.std.specs.Prelude.{OnOk}
use Rattle.std.proofs.lemmas.Option.{none-some, same_Some}
use Rattle.cell_addr.specs.Place.{covers}
use Rattle.cell_addr.specs.declared.place.Block.{Block}
use Rattle.cell_addr.specs.declared.place.Place.{Place}
use Rattle.calc_eval.specs.declared.customs.Customs.{Ghosts}
use Rattle.clip_board.specs.declared.clip.Clip.{Clip}
use Rattle.clip_board.specs.declared.clip.Clip.TheVariants as clips
use Rattle.clip_board.specs.declared.clip.CopyList.{CopyList}
use Rattle.shift_core.specs.Carried.{destination}
use Rattle.shift_core.specs.declared.shift.Shift.TheVariants.{MoveBlock}
use Rattle.book_engine.specs.Kept.{MarksCellsAtMost, MarksOperation, MarksPaste}
use Rattle.session_questions.specs.Seen.{area_moving, clip_of}
use Rattle.book_engine.specs.declared.engine.Engine.{Engine}

module _ {C X E : Type 0} {G : Ghosts C} (r : Result X E) (clip : Clip) (at : Place) (old new : Engine C G) where
  -- of a cut block
  pub cut_pasted : (area : Block) → Some area ≡ area_moving (clip_of clip) → OnOk r (MarksOperation (MoveBlock area at) old new) → OnOk r (MarksPaste clip at old new)
  cut_pasted area is marks = by clip is
    where
      by : (w : Clip) → Some area ≡ area_moving (clip_of w) → OnOk r (MarksPaste w at old new)
      by clips.Nothing waits = absurd (none-some area (sym waits))
      by (clips.Copied block cells) waits = absurd (none-some area (sym waits))
      by (clips.Cut block) waits = subst (λ (b : Block). OnOk r (MarksOperation (MoveBlock b at) old new)) (same_Some area block waits) marks

  -- of copied cells
  pub copy_pasted : (area : Block) (cells : CopyList) → clip ≡ clips.Copied area cells → MarksCellsAtMost (covers (destination area at)) old new → OnOk r (MarksPaste clip at old new)
  copy_pasted area cells is marks = by r
    where
      by : (x : Result X E) → OnOk x (MarksPaste clip at old new)
      by (Ok y) = subst (λ (w : Clip). MarksPaste w at old new) (sym is) marks
      by (Err e) = tt
