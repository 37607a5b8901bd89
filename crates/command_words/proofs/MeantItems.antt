-- Words that mean something are items. Serves the laws of words.
use Rattle.std.proofs.Common.{◌≡◌, ◌∙◌, sym, ap, refl, arith, ℕ, ◌==◌, Bool, true, false, cond, List, [], ◌∷◌, ◌++◌, length, Option, Some, None}
use Rattle.std.specs.Prelude.{All, flat_map, unwrap_or}
use Rattle.std.proofs.lemmas.Bool.Decides.{nat_tests}
use Rattle.clap.specs.Faults.{walk_fault}
use Rattle.clap.specs.Kinds.{Kinds}
use Rattle.clap.specs.Walk.{idle, nothing_held, walk_from}
use Rattle.clap.specs.Words.{fault_of, matches_of}
use Rattle.command_words.specs.Items.{AreNew, Give, IsItem, Item, given_by, nothing_given, words_behind, words_of}
use Rattle.command_words.specs.Words.{Given, Said, given_of, is_accepted, meaning, said_by, said_of, sheet_app}
use Rattle.command_words.proofs.AcceptedItems.{accepted_items}
use Rattle.command_words.proofs.Faultless.{Faultless, both_empty}
use Rattle.command_words.proofs.ItemMeanings.{items_taken, nothing-yet, taken_mean}
use Rattle.command_words.proofs.ReadItems.{items_new, reads}
use Rattle.command_words.proofs.Walks.{shape}
use Rattle.command_words.proofs.WordEnds.{end_of}

-- words that mean something have no fault
no_fault : (faults : Kinds) (said : Option Said) (s : Said) → cond (length faults == 0) said None ≡ Some s → faults ≡ []
no_fault [] said s h = refl
no_fault (k ∷ ks) said s h =
    let some : length (k ∷ ks) == 0 ≡ false = grind (arith, nat_tests) in
    let none : None ≡ Some s = sym (ap (λ b. cond b said None) some) ∙ h in
    cc

faultless : (words : List (List ℕ)) (s : Said) → meaning words ≡ Some s → Faultless (walk_from nothing_held) words
faultless words s h =
    let none = sym (end_of words) ∙ no_fault (fault_of sheet_app words) (said_of (given_of (matches_of sheet_app words))) s h in
    let parts = both_empty (walk_fault shape [] (walk_from nothing_held) words) _ none in
    record { turns = parts.0; ends = parts.1 }

accepted : (g : Given) (s : Said) → said_of g ≡ Some s → is_accepted g ≡ true
accepted g s h = by (is_accepted g) refl h
  where
    by : (b : Bool) → is_accepted g ≡ b → cond b (Some (said_by g)) None ≡ Some s → is_accepted g ≡ true
    by true is said = is
    by false is said = cc

-- words that mean something are items that say it
pub meant_items : (words : List (List ℕ)) (s : Said) → meaning words ≡ Some s → (g : Given) × Give words g × (said_of g ≡ Some s)
meant_items words s h =
    let r = reads words [] None idle nothing_given nothing-yet (faultless words s h) in
    let says = sym (taken_mean r.items r.behind r.are r.new) ∙ ap meaning (sym r.spell) ∙ h in (
      given_by r.items r.behind,
      record {
        items = r.items;
        behind = r.behind;
        are_items = accepted_items r.items (unwrap_or r.behind []) nothing_given r.new (accepted (given_by r.items r.behind) s says);
        are_new = r.new;
        spell = r.spell;
        give = refl;
      },
      says,
    )

-- items that aren't new in their turn mean nothing
pub meant_once : (items : List Item) (behind : Option (List (List ℕ))) → All IsItem items → (AreNew nothing_given items → ⊥) → meaning (flat_map words_of items ++ words_behind behind) ≡ None
meant_once items behind are again = by (meaning (flat_map words_of items ++ words_behind behind)) refl
  where
    by : (said : Option Said) → meaning (flat_map words_of items ++ words_behind behind) ≡ said → meaning (flat_map words_of items ++ words_behind behind) ≡ None
    by None is = is
    by (Some s) is = absurd (again (items_new items (words_behind behind) [] None idle nothing_given nothing-yet (items_taken items are) (faultless (flat_map words_of items ++ words_behind behind) s is)))
