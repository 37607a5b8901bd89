-- That a session is sound has one proof at most, so that it may be kept with an engine.
use denote.Struct.Props as logic
use Rattle.std.specs.Prelude.{ℕ, List, Option, Some, None}
use Rattle.book_values.specs.Book.{Content, number, truth, text, formula, unreadable}
use Rattle.book_model.specs.Clipboard.{Clipboard, nothing, copied, moving}
use Rattle.book_model.specs.Sound.{ClearedBy, IsContentOf, IsSound, IsSoundBatch, IsSoundBook, IsProperContent, IsSoundClip}
use Rattle.book_model.specs.Workbook.{Batch, State, Workbook}
use Rattle.session_questions.specs.Props.{is_proper-prop}

is_content_of-prop : (b : Workbook) (c : Content) → IsProp (IsContentOf b c)
is_content_of-prop b (number m) = Prim.hlevel logic.props
is_content_of-prop b (truth q) = Prim.hlevel logic.props
is_content_of-prop b (text w) = Prim.hlevel logic.props
is_content_of-prop b (formula t) = let h = is_proper-prop t in Prim.hlevel (h, logic.props)
is_content_of-prop b (unreadable w) = Prim.hlevel logic.props

is_proper_content-prop : (c : Content) → IsProp (IsProperContent c)
is_proper_content-prop (number m) = Prim.hlevel logic.props
is_proper_content-prop (truth q) = Prim.hlevel logic.props
is_proper_content-prop (text w) = Prim.hlevel logic.props
is_proper_content-prop (formula t) = is_proper-prop t
is_proper_content-prop (unreadable w) = Prim.hlevel logic.props

is_sound_book-prop : (n : ℕ) (b : Workbook) → IsProp (IsSoundBook n b)
is_sound_book-prop n b = Prim.hlevel (is_content_of-prop, logic.props)

is_sound_batch-prop : (n : ℕ) (batch : Option Batch) → IsProp (IsSoundBatch n batch)
is_sound_batch-prop n None = Prim.hlevel logic.props
is_sound_batch-prop n (Some batch) = is_sound_book-prop n batch.start

cleared_by-prop : (batch : Option Batch) (redo : List Workbook) → IsProp (ClearedBy batch redo)
cleared_by-prop None redo = Prim.hlevel logic.props
cleared_by-prop (Some batch) redo = Prim.hlevel logic.props

is_sound_clip-prop : (clip : Clipboard) → IsProp (IsSoundClip clip)
is_sound_clip-prop nothing = Prim.hlevel logic.props
is_sound_clip-prop (copied area cells) = let h = is_proper_content-prop in Prim.hlevel (h, logic.props)
is_sound_clip-prop (moving area) = Prim.hlevel logic.props

pub is_sound-prop : (d : State) → IsProp (IsSound d)
is_sound-prop d = Prim.hlevel (is_sound_book-prop, is_sound_batch-prop, is_sound_clip-prop, cleared_by-prop, logic.props)
