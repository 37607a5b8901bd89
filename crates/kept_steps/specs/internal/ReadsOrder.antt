-- Reads that follow one another leave what one does.
use Rattle.std.proofs.Common.{◌≡◌, ◌∙◌, subst, refl}
use Rattle.grid_store.specs.Grid.{cells_of}
use Rattle.name_table.specs.Listed.{listed}
use Rattle.name_table.specs.Named.{names_of}
use Rattle.kept_book.specs.Kept.{frame_of}
use Rattle.recalc_core.specs.Given.{IsOrder}
use Rattle.kept_steps.specs.InUse.{HasFormula}
use Rattle.kept_steps.specs.Reads.{Reads}
use Rattle.kept_steps.specs.declared.session.Session.{Session}

-- a read leaves the frame
pub frame-left : (old new : Session) → Reads old new → frame_of new.book ≡ frame_of old.book
frame-left old new reads i = record { position = (reads.line i).cursor; cells = cells_of (reads.grid i); sheets = listed (reads.names i); names = names_of (reads.names i) }

pub reads-order : IsOrder Reads
reads-order = record {
  none = λ s. record {
    state = refl;
    line = refl;
    standings = λ id k. refl;
    kept = λ id unused. refl;
    grid = refl;
    names = refl;
    next_id = refl;
    steps = refl;
    batch = refl;
    suspended = refl;
    next_sheet = refl;
    sweep_at = refl;
  };
  both = λ s t u one two. record {
    state = two.state ∙ one.state;
    line = two.line ∙ one.line;
    standings = λ id k. two.standings id k ∙ one.standings id k;
    kept = λ id unused. two.kept id (λ used. unused (subst (λ f. HasFormula f id) (frame-left s t one) used)) ∙ one.kept id unused;
    grid = two.grid ∙ one.grid;
    names = two.names ∙ one.names;
    next_id = two.next_id ∙ one.next_id;
    steps = two.steps ∙ one.steps;
    batch = two.batch ∙ one.batch;
    suspended = two.suspended ∙ one.suspended;
    next_sheet = two.next_sheet ∙ one.next_sheet;
    sweep_at = two.sweep_at ∙ one.sweep_at;
  };
}
