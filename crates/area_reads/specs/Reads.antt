-- What reads of areas answer and leave. Source: this project's own.
use Rattle.std.specs.Prelude.{ℕ, ◌≤◌, List, map, Option}
use Rattle.cell_addr.specs.declared.place.Block.{Block}
use Rattle.cell_addr.specs.declared.place.Place.{Place}
use Rattle.cell_value.specs.declared.scalar.Scalar.{Scalar}
use Rattle.custom_fn.specs.declared.rule.Rule.{Rule}
use Rattle.calc_eval.specs.declared.customs.Customs.{Ghosts}
use Rattle.book_model.specs.Answers.{content_text}
use Rattle.book_model.specs.Workbook.{State}
use Rattle.book_model.specs.declared.refusal.Refusal.{Refusal}
use Rattle.book_engine.specs.Areas as areas
use Rattle.book_engine.specs.Areas.{filled_in_block}
use Rattle.book_engine.specs.Calls.{Stays}
use Rattle.book_engine.specs.Kept.{KeepsLine, KeepsValues, WorksOut}
use Rattle.book_engine.specs.declared.engine.Engine.{Engine}

-- why the values of a block are refused, if they are
abbrev pub values_cause : Block → State → Option Refusal
values_cause area d = areas.values_cause area d

-- the texts of the contents of places
abbrev pub contents_at : List Place → State → List (Place × List ℕ)
contents_at places d = map (λ p. (p, content_text d p)) places

-- what the filled places of a block show, and the texts of their contents, row by row
abbrev pub values_in : Block → State → List (Place × Scalar)
values_in area d = areas.values_in_block area d

abbrev pub contents_in : Block → State → List (Place × List ℕ)
contents_in area d = contents_at (filled_in_block area d.book) d

-- reads that leave the session and the line, and take no more steps than one read of a value
pub record AreOneRead {C : Type 0} {G : Ghosts C} (customs : C → List (List ℕ × Rule)) (old new : Engine C G) (before after : ℕ) : Type 0 where
  pub stays : Stays customs old new
  pub line : KeepsLine old new
  pub least : before ≤ after
  pub most : WorksOut customs old before after

-- reads that leave the session, the line and what is kept of values
pub record AreQuiet {C : Type 0} {G : Ghosts C} (customs : C → List (List ℕ × Rule)) (old new : Engine C G) : Type 0 where
  pub stays : Stays customs old new
  pub line : KeepsLine old new
  pub values : KeepsValues old new
