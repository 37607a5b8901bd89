-- What is kept of values follows over a step of several parts. Serves steps back and forth.
use Rattle.std.proofs.Common.{◌≡◌, sym, subst, ℕ, List}
use Rattle.kept_book.specs.Change.{Change}
use Rattle.kept_book.specs.Kept.{line_of}
use Rattle.kept_steps.specs.Parts.{Turns}
use Rattle.session_values.specs.Following.{FollowsIn, book_of, words_in}
use Rattle.session_values.specs.Parts.{FollowsPartsBack, FollowsPartsForth}
use Rattle.session_operations.specs.Seen.{ValuesFollowStill, state_of}
use Rattle.session_operations.specs.declared.parts.Parts.{Parts}

module _ (cs : List Change) (old new : Parts) (words : words_in new.session ≡ words_in old.session) where
  pub follow_parts_back : Turns (line_of old.session.book) (words_in old.session) cs (state_of new).book (state_of old).book
      → FollowsPartsBack (line_of old.session.book) (words_in old.session) cs old.values.values new.values.values → ValuesFollowStill old new
  follow_parts_back turns over customs today follows =
      subst (λ (ws : List (List ℕ)). FollowsIn (book_of new.session) ws customs today new.values.values) (sym words) (over (state_of new).book (state_of old).book customs today turns follows)

  pub follow_parts_forth : Turns (line_of old.session.book) (words_in old.session) cs (state_of old).book (state_of new).book
      → FollowsPartsForth (line_of old.session.book) (words_in old.session) cs old.values.values new.values.values → ValuesFollowStill old new
  follow_parts_forth turns over customs today follows =
      subst (λ (ws : List (List ℕ)). FollowsIn (book_of new.session) ws customs today new.values.values) (sym words) (over (state_of old).book (state_of new).book customs today turns follows)
