-- The names among what a tree mentions, each once. Serves the names that a text uses.
use Rattle.std.proofs.Common.{◌≡◌, ◌∙◌, ap, refl, ℕ, ◌||◌, Bool, true, false, if◌then◌else◌, List, [], ◌∷◌, ◌++◌, map, None}
use Rattle.std.specs.List.{cons_option, filter_map, list_any}
use Rattle.std.proofs.lemmas.List.{append-nil}
use Rattle.std.proofs.lemmas.List.Elements.{filter_map-append}
use Rattle.cell_addr.specs.Sheets.{same_name}
use Rattle.cell_addr.specs.Text.{capitals}
use Rattle.formula_tree.proofs.AllMentions.{mentions-are_all}
use Rattle.formula_tree.specs.Links.{once, once_after}
use Rattle.formula_tree.specs.Mentions.{mentions_in, same_mention, word_of}
use Rattle.formula_tree.specs.Term.{Term}
use Rattle.formula_tree.specs.declared.mention.Mention.{Mention}
use Rattle.formula_tree.specs.declared.mention.Mention.TheVariants as mention
use Rattle.formula_tree.specs.declared.reference.Corner.{Corner}
use Rattle.session_questions.specs.Formulas.{words_used}

-- the words of mentions
abbrev words : List Mention → List (List ℕ)
words ms = filter_map word_of ms

-- a name stands among mentions where its word stands among their words
stands : (w : List ℕ) (ms : List Mention) → list_any (same_mention (mention.Name w)) ms ≡ list_any (same_name w) (words ms)
stands w [] = refl
stands w (mention.Cell p ∷ ms) = stands w ms
stands w (mention.Area b ∷ ms) = stands w ms
stands w (mention.Whole v ∷ ms) = stands w ms
stands w (mention.Name v ∷ ms) = ap (λ b. same_name w v || b) (stands w ms)

-- a name more, where it doesn't stand there
name-more : (w : List ℕ) (done : List Mention) (b : Bool) → words (if b then done else done ++ mention.Name w ∷ []) ≡ (if b then words done else words done ++ w ∷ [])
name-more w done true = refl
name-more w done false = filter_map-append word_of done (mention.Name w ∷ [])

-- and another mention
other-more : (m : Mention) (done : List Mention) (b : Bool) → word_of m ≡ None → words (if b then done else done ++ m ∷ []) ≡ words done
other-more m done true isnt = refl
other-more m done false isnt = filter_map-append word_of done (m ∷ []) ∙ ap (λ o. words done ++ cons_option o []) isnt ∙ append-nil (words done)

words-once : (done ms : List Mention) → words (once_after same_mention done ms) ≡ once_after same_name (words done) (words ms)
words-once done [] = refl
words-once done (mention.Cell p ∷ ms) =
    let b = list_any (same_mention (mention.Cell p)) done in
    words-once (if b then done else done ++ mention.Cell p ∷ []) ms ∙ ap (λ ws. once_after same_name ws (words ms)) (other-more (mention.Cell p) done b refl)
words-once done (mention.Area a ∷ ms) =
    let b = list_any (same_mention (mention.Area a)) done in
    words-once (if b then done else done ++ mention.Area a ∷ []) ms ∙ ap (λ ws. once_after same_name ws (words ms)) (other-more (mention.Area a) done b refl)
words-once done (mention.Whole v ∷ ms) =
    let b = list_any (same_mention (mention.Whole v)) done in
    words-once (if b then done else done ++ mention.Whole v ∷ []) ms ∙ ap (λ ws. once_after same_name ws (words ms)) (other-more (mention.Whole v) done b refl)
words-once done (mention.Name w ∷ ms) =
    let b = list_any (same_mention (mention.Name w)) done in
    words-once (if b then done else done ++ mention.Name w ∷ []) ms
    ∙ ap (λ ws. once_after same_name ws (words ms)) (name-more w done b ∙ ap (λ c. if c then words done else words done ++ w ∷ []) (stands w done))

-- the words among what a tree mentions are those that it uses
pub words-used : (t : Term Corner) → map capitals (words (once same_mention (mentions_in t))) ≡ words_used t
words-used t = ap (map capitals) (words-once [] (mentions_in t) ∙ ap (once same_name) (mentions-are_all.names t))
