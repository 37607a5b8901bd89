-- The end of a walk over words. Serves the laws of words.
use Rattle.std.proofs.Common.{◌≡◌, ◌∙◌, ap, refl, ℕ, ◌==◌, false, cond, List, [], length, None}
use Rattle.std.specs.Prelude.{fold, is_some}
use Rattle.clap.specs.Faults.{check_fault, defaults_fault, entered_fault, settle_fault, walk_fault}
use Rattle.clap.specs.Kinds.{Kinds, or_else}
use Rattle.clap.specs.Simple.{entered}
use Rattle.clap.specs.Walk.{Walk, finished, nothing_held, settled, walk_from, walked}
use Rattle.clap.specs.Words.{built, fault_of, matches_of}
use Rattle.command_words.specs.Words.{Given, given_of, meaning, said_of, sheet_app}
use Rattle.command_words.proofs.Walks.{rules, shape}

-- the faults of a walk that ends here
abbrev pub ended_fault : Kinds → Walk → Kinds
ended_fault first end =
    or_else first
    (or_else (entered_fault (built sheet_app) end.stopped)
    (or_else (settle_fault rules false end.held)
    (or_else (defaults_fault (settled rules end.held).rows rules)
    (check_fault shape (finished rules end.held) (is_some (entered (built sheet_app) end.stopped))))))

pub end_of : (words : List (List ℕ)) → fault_of sheet_app words ≡ ended_fault (walk_fault shape [] (walk_from nothing_held) words) (fold (walked rules []) (walk_from nothing_held) words)
end_of words = refl

pub both_none : (a d : Kinds) → a ≡ [] → d ≡ [] → or_else a (or_else d []) ≡ []
both_none a d e f = rw (e, f) refl

pub meant : (words : List (List ℕ)) (g : Given) → fault_of sheet_app words ≡ [] → given_of (matches_of sheet_app words) ≡ g → meaning words ≡ said_of g
meant words g faultless same = ap (λ f. cond (length f == 0) (said_of (given_of (matches_of sheet_app words))) None) faultless ∙ ap said_of same
