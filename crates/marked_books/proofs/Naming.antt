-- What a name that is added, changed or removed leaves alone, or to its needs. Serves the laws.
use Rattle.std.proofs.Common.{◌≡◌, ◌∙◌, sym, ap, refl, Bool, true, false, cond, Option, Some, None, is_some}
use Rattle.std.specs.FinMap as map
use Rattle.std.specs.Cmp.{tied_itself}
use Rattle.std.specs.Ordering.{eq_by_cmp, is_eq}
use Rattle.formula_tree.specs.Term.{Term}
use Rattle.formula_tree.specs.declared.reference.Corner.{Corner}
use Rattle.book_values.specs.Names.{Key, tree_in}
use Rattle.recalc_core.specs.Edits.{DifferInName}
use Rattle.marked_values.proofs.Alone.{name_alone}
use Rattle.marked_values.proofs.NameMarks.{added_leaves_alone, changed_leaves_to_needs, removed_leaves_alone}
use Rattle.book_model.specs.Answers.{valued}
use Rattle.book_model.specs.Changes.{with_name}
use Rattle.book_model.specs.Names.{key_cmp, with_tree}
use Rattle.book_model.specs.Workbook.{Workbook}
use Rattle.book_model.proofs.NameMaps.{get-with}
use Rattle.book_model.proofs.NameOrder.{key_cmp-IsTotalOrder}
use Rattle.marked_books.specs.Operations.{AddingLeavesAlone, ChangingLeavesToNeeds, NamingLeavesAlone, RemovingLeavesAlone}
use Rattle.marked_books.proofs.NameEntries.{tied_keys, tree_in-entries}

module _ (key : Key) (tree : Option (Term Corner)) (b : Workbook) where
  -- each other name has the tree that it had
  pub named_differ : DifferInName (valued b) (valued (with_name key tree b)) key
  named_differ = record {
    cells = refl;
    trees = λ other apart. tree_in-entries b.names other ∙ by other apart (eq_by_cmp key_cmp other key) refl ∙ sym (tree_in-entries (with_tree key tree b.names) other);
  }
    where
      by : (other : Key) → ¬ (other ≡ key) → (t : Bool) → eq_by_cmp key_cmp other key ≡ t → map.get b.names other ≡ map.get (with_tree key tree b.names) other
      by other apart true e = absurd (apart (tied_keys other key e))
      by other apart false e = sym (get-with key tree b.names other ∙ ap (λ t. cond t tree (map.get b.names other)) e)

  -- and this one has the new tree
  pub named_now : tree_in (valued (with_name key tree b)).names key ≡ tree
  named_now = tree_in-entries (with_tree key tree b.names) key ∙ get-with key tree b.names key ∙ ap (λ o. cond (is_eq o) tree (map.get b.names key)) (tied_itself key_cmp-IsTotalOrder key)

-- whether a name is there
pub stood : (key : Key) (b : Workbook) (t : Bool) → is_some (map.get b.names key) ≡ t → is_some (tree_in (valued b).names key) ≡ t
stood key b t e = ap is_some (tree_in-entries b.names key) ∙ e

pub naming_leaves_alone : NamingLeavesAlone
naming_leaves_alone key tree b words changed users = name_alone (valued b) (valued (with_name key tree b)) words key changed (named_differ key tree b) users

pub changing_leaves_to_needs : ChangingLeavesToNeeds
changing_leaves_to_needs key tree b words n changed there numbered at marked =
    changed_leaves_to_needs (valued b) (valued (with_name key (Some tree) b)) words n key changed (named_differ key (Some tree) b) (stood key b true there) (ap is_some (named_now key (Some tree) b)) numbered at marked

pub removing_leaves_alone : RemovingLeavesAlone
removing_leaves_alone key b words n changed numbered at have =
    removed_leaves_alone (valued b) (valued (with_name key None b)) words n key changed (named_differ key None b) (ap is_some (named_now key None b)) numbered at have

pub adding_leaves_alone : AddingLeavesAlone
adding_leaves_alone key tree b words n changed fresh numbered at have =
    added_leaves_alone (valued b) (valued (with_name key (Some tree) b)) words n key changed (named_differ key (Some tree) b) (stood key b false fresh) numbered at have
