-- How far the tokens of a formula are read: what is open, what was read last, and what may come next. How deep a
-- tree reaches is counted from the whole one, whose topmost level is 1.
use Rattle.std.specs.Prelude.{ℕ, suc, Bool, true, false, ◌&&◌, if◌then◌else◌, nat_lt, nat_le, max, ◌==◌, List, [], ◌∷◌, length, drop, Option, Some, None}
use Rattle.std.specs.Option.{option_map, option_and_then}
use Rattle.std.specs.Result.{is_ok}
use Rattle.cell_addr.specs.declared.axis.Axis.{Axis}
use Rattle.cell_addr.specs.declared.place.TheConstants.{ROWS}
use Rattle.cell_addr.specs.Axis.{same_axis}
use Rattle.fix_num.specs.Text.{number_of}
use Rattle.formula_tree.specs.declared.address.End.{End}
use Rattle.formula_tree.specs.declared.operator.Sign.{Sign}
use Rattle.formula_tree.specs.Token.{Token}
use Rattle.formula_tree.specs.Token as tok
use Rattle.formula_tree.specs.Level.{level_of, percent_level, sign_of}
use Rattle.formula_tree.specs.Run.{end_of_run}
use Rattle.formula_tree.specs.Reader.{max_levels}
use Rattle.formula_parse.specs.declared.token.Mark.TheVariants as marks
use Rattle.formula_parse.specs.declared.token.Symbol.TheVariants as symbols
use Rattle.formula_parse.specs.declared.frames.Frame.{Frame}
use Rattle.formula_parse.specs.declared.frames.Frame.TheVariants as around
use Rattle.formula_parse.specs.declared.frames.Frames.{Frames}
use Rattle.formula_parse.specs.declared.progress.Kind.{Kind}
use Rattle.formula_parse.specs.declared.progress.Kind.TheVariants as kinds
use Rattle.formula_parse.specs.declared.progress.Last.{Last}
use Rattle.formula_parse.specs.declared.progress.Last.TheVariants as lasts
use Rattle.formula_parse.specs.declared.progress.Stage.{Stage}
use Rattle.formula_parse.specs.declared.progress.Stage.TheVariants as stages

-- the frames, the innermost first
abbrev pub frames_of : Frames → List Frame
frames_of frames = drop frames.free frames.list

-- what was read last, and what is open around it
abbrev pub State : Type 0
State = Stage × List Frame

-- the axis of the end that a run is
abbrev pub line_of : List ℕ → Option Axis
line_of run = option_map (λ (a : End). a.axis) (end_of_run ROWS run)

-- what a token may be
abbrev pub kind_of : Token → Kind
kind_of (tok.Number w) = kinds.Atom (is_ok (number_of w)) (line_of w)
kind_of (tok.Text w) = kinds.Atom true None
kind_of (tok.Truth b) = kinds.Atom true None
kind_of (tok.Fault f) = kinds.Atom true None
kind_of (tok.Sheet s) = kinds.Sheet
kind_of (tok.Corner a) = kinds.Corner
kind_of (tok.Name w) = kinds.Atom true (line_of w)
kind_of (tok.Word w) = kinds.Word
kind_of (tok.Other w) = kinds.Atom false (line_of w)
kind_of (tok.Operator o) = kinds.Symbol (symbols.Operator o)
kind_of tok.Percent = kinds.Symbol symbols.Percent
kind_of tok.Colon = kinds.Symbol (symbols.Mark marks.Colon)
kind_of tok.Comma = kinds.Symbol (symbols.Mark marks.Comma)
kind_of tok.Open = kinds.Symbol (symbols.Mark marks.Open)
kind_of tok.Close = kinds.Symbol (symbols.Mark marks.Close)

-- a frame more, inside the others, of which there are no more than levels
abbrev pub pushed : Frame → List Frame → Option (List Frame)
pushed frame frames = if nat_lt (length frames) max_levels then Some (frame ∷ frames) else None

-- and a tree may begin in it
abbrev pub within : Frame → List Frame → Option State
within frame frames = option_map (λ all. (stages.Operand, all)) (pushed frame frames)

-- a frame where two levels or more are left: one for it, and one for what stands in it
abbrev pub opened : Frame → List Frame → Option State
opened frame frames = if nat_lt (suc (length frames)) max_levels then within frame frames else None

abbrev pub signed : Option Sign → List Frame → Option State
signed None frames = None
signed (Some s) frames = opened around.Sign frames

-- a leaf or a call begins, where a level is left
abbrev pub begun : Option Stage → List Frame → Option State
begun stage frames = if nat_lt (length frames) max_levels then option_map (λ s. (s, frames)) stage else None

-- a number, a name, another leaf, or the first end of a whole range
abbrev pub atom : ℕ → Bool → Option Axis → Option Stage
atom deepest alone (Some axis) = Some (stages.First alone (lasts.Line axis))
atom deepest alone None = if alone then Some (stages.Tree deepest) else None

-- the closing parenthesis of a call without arguments
abbrev pub no_arguments : List Frame → Option State
no_arguments (around.Arguments deepest ∷ frames) = if deepest == 0 then Some (stages.Tree (suc (length frames)), frames) else None
no_arguments frames = None

-- where a tree may begin
abbrev pub at_operand : List Frame → Kind → Option State
at_operand frames (kinds.Atom alone line) = begun (atom (suc (length frames)) alone line) frames
at_operand frames kinds.Corner = begun (Some (stages.First true lasts.Corner)) frames
at_operand frames kinds.Sheet = begun (Some stages.Sheet) frames
at_operand frames kinds.Word = begun (Some stages.Call) frames
at_operand frames (kinds.Symbol (symbols.Operator o)) = signed (sign_of o) frames
at_operand frames (kinds.Symbol (symbols.Mark marks.Open)) = opened around.Parens frames
at_operand frames (kinds.Symbol (symbols.Mark marks.Close)) = no_arguments frames
at_operand frames kind = None

-- behind the word of a function
abbrev pub at_call : List Frame → Kind → Option State
at_call frames (kinds.Symbol (symbols.Mark marks.Open)) = within (around.Arguments 0) frames
at_call frames kind = None

-- behind a sheet's name
abbrev pub at_sheet : Kind → Option Stage
at_sheet kinds.Corner = Some (stages.First true lasts.Corner)
at_sheet (kinds.Atom alone (Some axis)) = Some (stages.First false (lasts.Line axis))
at_sheet kind = None

-- behind the colon of a block or a whole range
abbrev pub is_last : Last → Kind → Bool
is_last lasts.Corner kinds.Corner = true
is_last (lasts.Line axis) (kinds.Atom alone (Some other)) = same_axis axis other
is_last last kind = false

abbrev pub at_last : Last → List Frame → Kind → Option State
at_last last frames kind = if is_last last kind then Some (stages.Tree (suc (length frames)), frames) else None

-- how deep a tree reaches together with what it ends a part of, where a frame ends before an operator of a level
abbrev pub joined : ℕ → ℕ → Frame → Option ℕ
joined level deepest (around.Right own left) = if nat_le level own then Some (max deepest left) else None
joined level deepest around.Sign = Some deepest
joined level deepest frame = None

abbrev pub joined_then : Option ℕ → (ℕ → ℕ × List Frame) → ℕ × List Frame → ℕ × List Frame
joined_then None next stays = stays
joined_then (Some deepest) next stays = next deepest

-- the frames that don't end before an operator of a level, and how deep the tree in them reaches; each ends before a
-- comma, a closing parenthesis and the end, like before an operator of level 0
abbrev pub settled : ℕ → ℕ → List Frame → ℕ × List Frame
settled level deepest [] = (deepest, [])
settled level deepest (frame ∷ frames) = joined_then (joined level deepest frame) (λ d. settled level d frames) (deepest, frame ∷ frames)

-- an operator: its left operand has a level more above it
abbrev pub operator : ℕ → ℕ × List Frame → Option State
operator level (deepest, frames) = if nat_lt deepest max_levels then within (around.Right level (suc deepest)) frames else None

abbrev pub percent : ℕ × List Frame → Option State
percent (deepest, frames) = if nat_lt deepest max_levels then Some (stages.Tree (suc deepest), frames) else None

abbrev pub comma : ℕ × List Frame → Option State
comma (deepest, around.Arguments before ∷ frames) = within (around.Arguments (max deepest before)) frames
comma (deepest, frames) = None

abbrev pub closed : ℕ × List Frame → Option State
closed (deepest, around.Parens ∷ frames) = Some (stages.Tree deepest, frames)
closed (deepest, around.Arguments before ∷ frames) = Some (stages.Tree (max deepest before), frames)
closed (deepest, frames) = None

-- behind a tree
abbrev pub at_tree : ℕ → List Frame → Kind → Option State
at_tree deepest frames (kinds.Symbol (symbols.Operator o)) = operator (level_of o) (settled (level_of o) deepest frames)
at_tree deepest frames (kinds.Symbol symbols.Percent) = percent (settled percent_level deepest frames)
at_tree deepest frames (kinds.Symbol (symbols.Mark marks.Comma)) = comma (settled 0 deepest frames)
at_tree deepest frames (kinds.Symbol (symbols.Mark marks.Close)) = closed (settled 0 deepest frames)
at_tree deepest frames kind = None

-- behind what may be the first end of a block or a whole range
abbrev pub at_first : Bool → Last → List Frame → Kind → Option State
at_first alone last frames (kinds.Symbol (symbols.Mark marks.Colon)) = Some (stages.Last last, frames)
at_first alone last frames kind = if alone then at_tree (suc (length frames)) frames kind else None

-- what is reached by one more token
abbrev pub advanced : Stage → List Frame → Kind → Option State
advanced stages.Operand frames kind = at_operand frames kind
advanced stages.Call frames kind = at_call frames kind
advanced stages.Sheet frames kind = option_map (λ s. (s, frames)) (at_sheet kind)
advanced (stages.First alone last) frames kind = at_first alone last frames kind
advanced (stages.Last last) frames kind = at_last last frames kind
advanced (stages.Tree deepest) frames kind = at_tree deepest frames kind

abbrev pub step : State → Token → Option State
step state token = advanced state.0 state.1 (kind_of token)

-- the tokens so far are a whole formula
abbrev pub is_outermost : List Frame → Bool
is_outermost [] = true
is_outermost (frame ∷ frames) = false

abbrev pub is_whole : Stage → List Frame → Bool
is_whole (stages.First alone last) frames = alone && is_outermost (settled 0 (suc (length frames)) frames).1
is_whole (stages.Tree deepest) frames = is_outermost (settled 0 deepest frames).1
is_whole stage frames = false

-- nothing was read yet
abbrev pub start : State
start = (stages.Operand, [])

-- what is reached by these tokens
abbrev pub reached : State → List Token → Option State
reached state [] = Some state
reached state (token ∷ tokens) = option_and_then (λ next. reached next tokens) (step state token)
