-- What kept values tell of what places and names show. Serves the laws.
use Rattle.std.proofs.Common.{◌≡◌, ◌∙◌, sym, ap, refl, Bool, true, false, cond, Option, Some, None, inl}
use Rattle.book_values.specs.Values.{value_of}
use Rattle.book_values.specs.Workbook as book
use Rattle.recalc_core.specs.Kept.{expected_at, stands}
use Rattle.recalc_core.specs.Nodes.{node_at}
use Rattle.recalc_core.specs.Shown.{AllMarkedFit, NamesShowKept, PlacesShowKept}
use Rattle.recalc_core.proofs.Worked.{expected_some, right_at, shows_right}
use Rattle.dep_graph.specs.declared.node.Node.TheVariants.{Cell}

pub places_show_kept : PlacesShowKept
places_show_kept b words customs today kept p right = shows_right b customs today words kept p (right (Cell p))

pub names_show_kept : NamesShowKept
names_show_kept b words customs today kept key a right there at =
    right_at b words customs today kept a (book.name key) (right a) at ∙ expected_some b customs today (book.name key) there

pub all_marked_fit : AllMarkedFit
all_marked_fit b words customs today links marks kept nothing marked a apart plain = nothing a ∙ sym (by (node_at words a) refl)
  where
    stands_not : (x : book.Node) (t : Bool) → stands b x ≡ t → node_at words a ≡ Some x → cond (stands b x) (Some (value_of b customs today x)) None ≡ None
    stands_not x true e at = absurd (apart (inl (marked a x at e)))
    stands_not x false e at = ap (λ t. cond t (Some (value_of b customs today x)) None) e

    by : (o : Option book.Node) → node_at words a ≡ o → expected_at b customs today o ≡ None
    by None at = refl
    by (Some x) at = stands_not x (stands b x) refl at
