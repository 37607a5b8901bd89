-- The session that parts make up, and what follows it. Source: this project's own.
use Rattle.std.specs.Prelude.{ℕ, ℤ, List, Option, Some, None, ⊤}
use Rattle.custom_fn.specs.declared.rule.Rule.{Rule}
use Rattle.std.specs.List.{All}
use Rattle.cell_addr.specs.Place.{IsBlockInside}
use Rattle.cell_addr.specs.declared.place.Block.{Block}
use Rattle.clip_board.specs.Clips.{items_of}
use Rattle.clip_board.specs.declared.clip.Clip.{Clip}
use Rattle.clip_board.specs.declared.clip.Clip.TheVariants as clips
use Rattle.book_model.specs.Clipboard.{Clipboard, nothing, copied, moving}
use Rattle.book_model.specs.Sound.{IsSound}
use Rattle.book_model.specs.Workbook.{State}
use Rattle.kept_book.specs.Copied.{IsCopied, contents_copied}
use Rattle.kept_steps.specs.Session as steps
use Rattle.session_values.specs.Following.{AreFollowing}
use Rattle.session_operations.specs.declared.parts.Parts.{Parts}

-- the session that parts make up, without custom functions, on day 0, where nothing waits to be pasted
abbrev pub state_of : Parts → State
state_of p = steps.state_of p.session

-- the session with these custom functions, on this day
abbrev pub with_rules : List (List ℕ × Rule) → ℤ → State → State
with_rules customs today d = record d { customs = customs; today = today }

-- what is kept for a paste
abbrev pub clip_of : Clip → Clipboard
clip_of clips.Nothing = nothing
clip_of (clips.Copied area cells) = copied area (contents_copied (items_of cells))
clip_of (clips.Cut area) = moving area

-- the block that is cut, if one is
abbrev pub area_moving : Clipboard → Option Block
area_moving (moving area) = Some area
area_moving clip = None

-- the session where this waits to be pasted
abbrev pub with_clipboard : Clipboard → State → State
with_clipboard clip d = record d { clip = clip }

-- what was copied can be pasted: a block within the limits of a sheet, and cells of it
abbrev pub CanPaste : Clip → Type 0
CanPaste (clips.Copied area cells) = IsBlockInside area × All IsCopied (items_of cells)
CanPaste clip = ⊤

-- the parts are those of a session that operations reach
abbrev pub Fits : Parts → Type 0
Fits p = IsSound (state_of p)

-- what is kept of values follows the session, with these custom functions, on this day
abbrev pub ValuesFollow : List (List ℕ × Rule) → ℤ → Parts → Type 0
ValuesFollow customs today p = AreFollowing customs today p.session p.values.values

-- where it followed before, it follows still
abbrev pub ValuesFollowStill : Parts → Parts → Type 0
ValuesFollowStill old new = (customs : List (List ℕ × Rule)) (today : ℤ) → ValuesFollow customs today old → ValuesFollow customs today new
