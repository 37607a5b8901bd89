-- As many workbooks are led to as there are steps. Serves undo, redo and the count of steps.
use Rattle.std.proofs.Common.{◌≡◌, ◌∙◌, ap, refl, suc, false, List, [], ◌∷◌, length, reverse, Option, Some, None, is_some}
use Rattle.std.proofs.lemmas.List.{length-map, length-reverse}
use Rattle.kept_book.specs.Change.{Change}
use Rattle.kept_book.specs.Frame.{Frame}
use Rattle.kept_book.specs.Walk.{back_all, forth_all}
use Rattle.kept_steps.specs.Fits.{changes_in, steps_of}
use Rattle.kept_steps.specs.Steps.{books_ahead, books_past}
use Rattle.kept_steps.specs.Timeline.{Timeline}
use Rattle.kept_steps.specs.declared.entry.Entry.{Entry}

past-long : (t : Timeline) (f : Frame) (es : List (List Change)) → length (books_past t f es) ≡ length es
past-long t f [] = refl
past-long t f (e ∷ es) = ap suc (past-long t (back_all t.line e f) es)

ahead-long : (t : Timeline) (f : Frame) (es : List (List Change)) → length (books_ahead t f es) ≡ length es
ahead-long t f [] = refl
ahead-long t f (e ∷ es) = ap suc (ahead-long t (forth_all t.line e f) es)

steps-long : (es : List Entry) → length (steps_of es) ≡ length es
steps-long es = length-map (reverse es) changes_in ∙ length-reverse es

pub steps_past : (t : Timeline) (f : Frame) (es : List Entry) → length (books_past t f (steps_of es)) ≡ length es
steps_past t f es = past-long t f (steps_of es) ∙ steps-long es

pub steps_ahead : (t : Timeline) (f : Frame) (es : List Entry) → length (books_ahead t f (steps_of es)) ≡ length es
steps_ahead t f es = ahead-long t f (steps_of es) ∙ steps-long es

pub none_open : {X : Type 0} (b : Option X) → is_some b ≡ false → b ≡ None
none_open None e = refl
none_open (Some b) e = cc
