-- Which parts fit a session. Serves the engine that is taken apart and joined.
use Rattle.std.proofs.Common.{◌≡◌, sym, subst, ℕ, ℤ, List}
use Rattle.custom_fn.specs.declared.rule.Rule.{Rule}
use Rattle.name_table.specs.Named.{words_of}
use Rattle.shift_line.specs.Track.{last}
use Rattle.book_model.specs.Answers.{valued}
use Rattle.book_model.specs.Sound.{IsSound}
use Rattle.book_model.specs.Workbook.{State}
use Rattle.kept_book.specs.Ids.{AreBelow, AreLive}
use Rattle.kept_steps.specs.Fits.{AreSteps}
use Rattle.session_questions.specs.Following.{FollowsIn}
use Rattle.session_questions.specs.Seen.{CanPaste}
use Rattle.book_engine.specs.TakenApart.{FitParts, frame_among, state_among, steps_among, timeline_among}
use Rattle.book_engine.specs.declared.taken_apart.EngineParts.{EngineParts}

-- parts fit the session that they make up
pub fitting : {C : Type 0} (customs : C → List (List ℕ × Rule)) (p : EngineParts C) (d : State) → state_among customs p ≡ d → IsSound (steps_among p)
    → AreSteps (timeline_among p) p.lazy.line.first (last p.lazy.line) (frame_among p) p.undo p.batch → AreBelow p.next_id p.lazy → AreLive p.lazy → CanPaste p.clip
    → FollowsIn (valued (steps_among p).book) (words_of p.names) (customs p.registry) p.day p.values → FitParts customs p d
fitting customs p d same sound steps fresh live pastes follow = record {
  state = same;
  sound = sound;
  steps = steps;
  fresh = fresh;
  live = live;
  pastes = pastes;
  follow = subst (λ (x : State). FollowsIn (valued x.book) (words_of p.names) (customs p.registry) p.day p.values) same follow;
}

-- what is kept of values follows that
pub followed : {C : Type 0} (customs : C → List (List ℕ × Rule)) (p : EngineParts C) (d : State) → FitParts customs p d
    → FollowsIn (valued (steps_among p).book) (words_of p.names) (customs p.registry) p.day p.values
followed customs p d fit = subst (λ (x : State). FollowsIn (valued x.book) (words_of p.names) (customs p.registry) p.day p.values) (sym fit.state) fit.follow

-- on the same day they fit it too
pub on_day : {C : Type 0} (customs : C → List (List ℕ × Rule)) (p : EngineParts C) (d : State) (n : ℤ) → n ≡ p.day → FitParts customs p d → FitParts customs (record p { day = n }) d
on_day customs p d n same fit = subst (λ (m : ℤ). FitParts customs (record p { day = m }) d) (sym same) fit
