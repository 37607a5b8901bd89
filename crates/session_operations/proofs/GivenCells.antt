-- Contents that are given to cells as they are: why that is refused, and which session comes of it. Serves the calls that give a
-- cell a number, a truth value or a text.
use Rattle.std.proofs.Common.{◌≡◌, ◌≢◌, ◌∙◌, sym, ap, refl, ℕ, ℤ, ◌&&◌, nat_lt, Bool, false, not, List, [], ◌∷◌, length, Some, None, is_none}
use Rattle.std.specs.Prelude.{nat_le}
use Rattle.std.specs.FinMap as fin
use Rattle.cell_addr.specs.declared.place.Place.{Place}
use Rattle.cell_value.specs.Scalar.{truth_text}
use Rattle.fix_num.specs.Number.{IsInside}
use Rattle.fix_num.specs.Text.{text_of}
use Rattle.book_values.specs.Book.{Content}
use Rattle.book_model.specs.Changes.{with_content, with_given_content}
use Rattle.book_model.specs.Content.{content_given, content_of, text_given}
use Rattle.book_model.specs.Operation as op
use Rattle.book_model.specs.Refusals.{cause, first_cause, is_outside}
use Rattle.book_model.specs.Session.{changed, next}
use Rattle.book_model.specs.Sound.{IsSound}
use Rattle.book_model.specs.Workbook.{State, has_sheet}
use Rattle.book_model.specs.declared.content.ContentText.{ContentText}
use Rattle.book_model.specs.declared.content.ContentText.TheVariants as said
use Rattle.book_model.specs.declared.refusal.Refusal.TheVariants as refusals
use Rattle.book_model.proofs.GivenTexts.{number_said, number_short, text_said, truth_said, truth_short}
use Rattle.session_operations.specs.internal.Giving.{Says, of_given}
use Rattle.session_operations.proofs.FilledCells.{overfilled}
use Rattle.session_operations.proofs.Turning.{next_done}

-- the text of a number says the number, that of a truth value the truth value, and the text that gives a text says that text
pub number_says : (m : ℤ) → IsInside m → Says (said.Number m) false (text_of m)
number_says m inside = record { content = number_said m inside; filled = λ e. cc; size = number_short m inside }

pub truth_says : (b : Bool) → Says (said.Truth b) false (truth_text b)
truth_says b = record { content = truth_said b; filled = λ e. cc; size = truth_short b }

pub text_says : (w t : List ℕ) (long : Bool) → t ≡ w → long ≡ nat_lt 8192 (length (text_given w)) → Says (said.Text t) long (text_given w)
text_says w t long same size = record { content = text_said w ∙ ap said.Text (sym same); filled = λ e. cc; size = sym size }

gives : (sheets : List (ℕ × List ℕ)) (sheet : ℕ) (g : ContentText) → g ≢ said.Clear → (x : Content) × (content_given sheets sheet g ≡ Some x)
gives sheets sheet said.Clear filled = absurd (filled refl)
gives sheets sheet (said.Number m) filled = (_, refl)
gives sheets sheet (said.Truth b) filled = (_, refl)
gives sheets sheet (said.Text w) filled = (_, refl)
gives sheets sheet (said.Formula w) filled = (_, refl)

overfills : (d : State) (at : Place) (g : ContentText) (long : Bool) (text : List ℕ) → IsSound d → Says g long text
    → nat_lt 1000000 (fin.len (with_content at text d.book).cells) ≡ is_none (fin.get d.book.cells at) && nat_le 1000000 (fin.len d.book.cells)
overfills d at g long text s says =
    let some = gives d.book.sheets at.sheet g says.filled in
    overfilled d.book.cells at (content_given d.book.sheets at.sheet (content_of text)) some.0 1000000 s.book.count (ap (content_given d.book.sheets at.sheet) says.content ∙ some.1)

-- why a text is refused that says a content
pub given_cause : (d : State) (at : Place) (g : ContentText) (long : Bool) (text : List ℕ) → IsSound d → Says g long text → cause (op.set at text) d ≡ first_cause (of_given d at long)
given_cause d at g long text s says =
    let full = overfills d at g long text s says in
    λ i. first_cause ((not (has_sheet d.book at.sheet), refusals.NoSheet) ∷ (is_outside at, refusals.Outside) ∷ (says.size i, refusals.TextLimit) ∷ (full i, refusals.CellLimit) ∷ [])

-- the workbook after it
pub given_changed : (d : State) (at : Place) (g : ContentText) (long : Bool) (text : List ℕ) → Says g long text → changed (with_given_content at g d.book) d ≡ changed (with_content at text d.book) d
given_changed d at g long text says = ap (λ x. changed (with_given_content at x d.book) d) (sym says.content)

-- the session after it
pub given_next : (d e : State) (at : Place) (g : ContentText) (long : Bool) (text : List ℕ) → Says g long text → cause (op.set at text) d ≡ None → e ≡ changed (with_given_content at g d.book) d → e ≡ next (op.set at text) d
given_next d e at g long text says none is = is ∙ given_changed d at g long text says ∙ sym (next_done (op.set at text) d none)
