-- Changes that join the frames before and after a call. Serves all calls that change a workbook.
use Rattle.std.proofs.Common.{◌≡◌, ◌∙◌, sym, ap, subst, arith, ℕ, ◌+◌, nat_lt, true, false, cond, Some, None}
use Rattle.std.proofs.lemmas.Bool.Decides.{nat_tests}
use Rattle.std.proofs.lemmas.Option.{none-some, same_Some}
use Rattle.grid_store.specs.Grid.{with_entries, without_places}
use Rattle.shift_core.proofs.MovedMaps.{restored_moved}
use Rattle.shift_core.specs.Maps.{AreInside, lost_entries, moved_map, restored_map}
use Rattle.shift_core.specs.Sound.{IsSound}
use Rattle.shift_core.specs.declared.shift.Shift.{Shift}
use Rattle.kept_book.specs.Change.{AreKnown, Change, HaveSlots, Joins, LeadsBy, cells_after, cells_before, names_with, places_of, sheets_with, shift_of}
use Rattle.kept_book.specs.Frame.{Frame, Line, Words}
use Rattle.kept_book.specs.internal.Writing.{AreReplaced}
use Rattle.kept_book.proofs.Written.{written-back}

not-less : (p : ℕ) → nat_lt p p ≡ false
not-less p = grind (arith, nat_tests)

less-next : (p : ℕ) → nat_lt p (p + 1) ≡ true
less-next p = grind (arith, nat_tests)

-- a change at one position has no operation
pub no-shift : (line : Line) (c : Change) → c.to ≡ c.from → shift_of line c ≡ None
no-shift line c same = ap (λ n. cond (nat_lt c.from n) (line c.from) None) same ∙ ap (λ b. cond b (line c.from) None) (not-less c.from)

-- one to the next position has the line's
pub one-shift : (line : Line) (c : Change) (s : Shift) → c.to ≡ c.from + 1 → line c.from ≡ Some s → shift_of line c ≡ Some s
one-shift line c s next here =
    ap (λ n. cond (nat_lt c.from n) (line c.from) None) next ∙ ap (λ b. cond b (line c.from) None) (less-next c.from) ∙ here

module _ (line : Line) (words : Words) (c : Change) (f g : Frame) (from : c.from ≡ f.position) (to : c.to ≡ c.from) (position : g.position ≡ f.position)
    (fair : AreReplaced f.cells c.replaced (places_of c.written)) (cells : g.cells ≡ with_entries c.written (without_places (places_of c.replaced) f.cells))
    (sheets : g.sheets ≡ sheets_with (λ x. x.1) c.sheets f.sheets) (sheets_back : sheets_with (λ x. x.0) c.sheets g.sheets ≡ f.sheets)
    (names : g.names ≡ names_with (λ x. x.1) c.names f.names) (names_back : names_with (λ x. x.0) c.names g.names ≡ f.names)
    (returns : HaveSlots (λ x. x.0) c.sheets g.sheets) (repeats : HaveSlots (λ x. x.1) c.sheets f.sheets) (known : AreKnown words c.names) where
  -- a change without an operation joins the frames
  pub plain-joins : Joins line words c f g
  plain-joins = record {
    before = λ i. record {
      position = from i;
      cells = (ap (λ o. cells_before o c g.cells) (no-shift line c to) ∙ ap (λ m. with_entries c.replaced (without_places (places_of c.written) m)) cells ∙ written-back f.cells c.replaced c.written fair) i;
      sheets = sheets_back i;
      names = names_back i;
    };
    after = λ i. record {
      position = (to ∙ from ∙ sym position) i;
      cells = (ap (λ o. cells_after o c f.cells) (no-shift line c to) ∙ sym cells) i;
      sheets = sym sheets i;
      names = sym names i;
    };
    order = omega (arith, to);
    operation = λ s is. absurd (none-some s (sym (no-shift line c to) ∙ is));
    returns = returns;
    repeats = repeats;
    known = known;
  }

module _ (line : Line) (words : Words) (s : Shift) (c : Change) (f g : Frame) (from : c.from ≡ f.position) (to : c.to ≡ c.from + 1) (position : g.position ≡ f.position + 1) (here : line f.position ≡ Some s)
    (sound : IsSound s) (inside : AreInside f.cells) (replaced : c.replaced ≡ lost_entries s f.cells) (cells : g.cells ≡ moved_map s f.cells)
    (sheets : sheets_with (λ x. x.1) c.sheets f.sheets ≡ g.sheets) (sheets_back : sheets_with (λ x. x.0) c.sheets g.sheets ≡ f.sheets)
    (names : names_with (λ x. x.1) c.names f.names ≡ g.names) (names_back : names_with (λ x. x.0) c.names g.names ≡ f.names)
    (returns : HaveSlots (λ x. x.0) c.sheets g.sheets) (repeats : HaveSlots (λ x. x.1) c.sheets f.sheets) (known : AreKnown words c.names) (by : LeadsBy s f g) where
  has-shift : shift_of line c ≡ Some s
  has-shift = one-shift line c s to (ap line from ∙ here)

  -- a structural operation joins them
  pub shift-joins : Joins line words c f g
  shift-joins = record {
    before = λ i. record {
      position = from i;
      cells =
          (ap (λ o. cells_before o c g.cells) has-shift ∙ ap (λ l. restored_map s l g.cells) replaced ∙ ap (restored_map s (lost_entries s f.cells)) cells ∙ restored_moved s f.cells sound inside) i;
      sheets = sheets_back i;
      names = names_back i;
    };
    after = λ i. record {
      position = (to ∙ ap (λ n. n + 1) from ∙ sym position) i;
      cells = (ap (λ o. cells_after o c f.cells) has-shift ∙ sym cells) i;
      sheets = sheets i;
      names = names i;
    };
    order = omega (arith, to);
    operation = λ x is. subst (λ y. LeadsBy y f g) (same_Some s x (sym has-shift ∙ is)) by;
    returns = returns;
    repeats = repeats;
    known = known;
  }
