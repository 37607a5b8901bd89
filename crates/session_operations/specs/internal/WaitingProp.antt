-- That what waits can be pasted has one proof at most.
use denote.Struct.Props as logic
use Rattle.cell_addr.specs.declared.place.Place.{Place}
use Rattle.clip_board.specs.declared.clip.Clip.{Clip}
use Rattle.clip_board.specs.declared.clip.Clip.TheVariants as clips
use Rattle.clip_board.specs.declared.clip.CopyItem.{CopyItem}
use Rattle.clip_board.specs.declared.clip.CopyItem.TheVariants as item
use Rattle.kept_book.specs.Copied.{IsCopied}
use Rattle.kept_book.specs.Formula.{tree_at}
use Rattle.session_operations.specs.Seen.{CanPaste}
use Rattle.session_operations.specs.internal.FormulaProp.{is_formula-prop}

copied-prop : (e : Place × CopyItem) → IsProp (IsCopied e)
copied-prop (at, item.Formula tree) = is_formula-prop at (tree_at at tree)
copied-prop (at, item.Kept cell) = Prim.hlevel logic.props

pub can_paste-prop : (c : Clip) → IsProp (CanPaste c)
can_paste-prop clips.Nothing = Prim.hlevel logic.props
can_paste-prop (clips.Copied area cells) = let h = copied-prop in Prim.hlevel (h, logic.props)
can_paste-prop (clips.Cut area) = Prim.hlevel logic.props
