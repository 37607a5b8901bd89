-- The parts of an engine, and which parts fit a session: the two alone say it. Source: this project's own.
use Rattle.std.specs.Prelude.{◌≡◌, ℕ, List, Option, option_and_then}
use Rattle.std.specs.FinMap as fin
use Rattle.cell_addr.specs.declared.place.Place.{Place}
use Rattle.custom_fn.specs.declared.rule.Rule.{Rule}
use Rattle.formula_tree.specs.Term.{Term}
use Rattle.formula_tree.specs.declared.reference.Home.{Home}
use Rattle.formula_tree.specs.declared.reference.Ref.{Ref}
use Rattle.grid_store.specs.Grid.{cells_of}
use Rattle.name_table.specs.Listed.{listed}
use Rattle.name_table.specs.Named.{names_of, words_of}
use Rattle.shift_line.specs.Track.{last, shift_at}
use Rattle.lazy_store.specs.Store.{at_in, stored_in}
use Rattle.book_model.specs.Answers.{valued}
use Rattle.book_model.specs.Sound.{IsSound}
use Rattle.book_model.specs.Workbook.{State}
use Rattle.kept_book.specs.Frame.{Frame}
use Rattle.kept_book.specs.Ids.{AreBelow, AreLive}
use Rattle.kept_book.specs.Kept.{id_of}
use Rattle.kept_steps.specs.Fits.{AreSteps, session_of}
use Rattle.kept_steps.specs.Timeline.{Timeline}
use Rattle.session_questions.specs.Following.{FollowsIn}
use Rattle.session_questions.specs.Seen.{with_rules}
use Rattle.session_questions.specs.Seen.{CanPaste, clip_of, with_clipboard}
use Rattle.calc_eval.specs.declared.customs.Customs.{Ghosts}
use Rattle.book_engine.specs.declared.engine.Engine.{Engine}
use Rattle.book_engine.specs.declared.taken_apart.EngineParts.{EngineParts}

-- what an engine consists of
abbrev pub parts_of : {C : Type 0} {G : Ghosts C} → Engine C G → EngineParts C
parts_of e =
    let s = e.parts.session in
    let b = s.book in
    record {
      alloc = b.alloc;
      pool = s.pool;
      lazy = b.lazy;
      grid = b.grid;
      names = b.names;
      values = e.parts.values.values;
      clip = e.waiting.clip;
      undo = s.steps;
      batch = s.batch;
      next_id = b.next_id;
      registry = e.customs;
      day = e.day;
      suspended = s.suspended;
      next_sheet = s.next_sheet;
      sweep_at = s.sweep_at;
    }

-- the workbook as it is kept at the cursor of the line
abbrev pub frame_among : {C : Type 0} → EngineParts C → Frame
frame_among p = record { position = p.lazy.line.cursor; cells = cells_of p.grid; sheets = listed p.names; names = names_of p.names }

-- what its formulas and steps rest on
abbrev pub timeline_among : {C : Type 0} → EngineParts C → Timeline
timeline_among p = record { line = shift_at p.lazy.line; at = at_in p.lazy; words = words_of p.names }

-- the session that the parts make up, without custom functions, on day 0, where nothing waits to be pasted
abbrev pub steps_among : {C : Type 0} → EngineParts C → State
steps_among p = session_of (timeline_among p) (frame_among p) p.undo p.batch p.suspended p.next_sheet

-- the session that they make up
abbrev pub state_among : {C : Type 0} → (C → List (List ℕ × Rule)) → EngineParts C → State
state_among customs p = with_rules (customs p.registry) p.day (with_clipboard (clip_of p.clip) (steps_among p))

-- the formula of a cell as it is kept: as of which position of the line, with home and tree as of that
abbrev pub stored_among : {C : Type 0} → EngineParts C → Place → Option (ℕ × (Home × Term Ref))
stored_among p at = option_and_then (stored_in p.lazy) (id_of (fin.get (cells_of p.grid) at))

-- the parts are those of an engine in this session
pub record FitParts {C : Type 0} (customs : C → List (List ℕ × Rule)) (p : EngineParts C) (d : State) : Type 0 where
  -- they make it up
  pub state : state_among customs p ≡ d
  -- it is one that operations reach
  pub sound : IsSound (steps_among p)
  -- its formulas stand at their cells and names, and its steps led to its workbook and lead on from it
  pub steps : AreSteps (timeline_among p) p.lazy.line.first (last p.lazy.line) (frame_among p) p.undo p.batch
  -- no formula has the next id or a later one
  pub fresh : AreBelow p.next_id p.lazy
  -- no formula is a removed one
  pub live : AreLive p.lazy
  -- what was copied can be pasted
  pub pastes : CanPaste p.clip
  -- what is kept of values follows its workbook, with these custom functions, on this day
  pub follow : FollowsIn (valued d.book) (words_of p.names) (customs p.registry) p.day p.values
