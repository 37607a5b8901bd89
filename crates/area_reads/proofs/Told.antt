-- What a block's reads answer by what its filled places' reads do. Serves reads of areas.
use Rattle.std.proofs.Common.{◌≡◌, ◌∙◌, sym, ap, subst, ℕ, ◌+◌, ◌<◌, true, get_or, length, List, [], ◌∷◌, ◌++◌, map, take, None, Result, Ok, Err, Vec, Global}
use Rattle.std.proofs.lemmas.List.{map-append, take_more}
use Rattle.std.proofs.lemmas.Option.{none-some}
use Rattle.std.specs.List.{All}
use Rattle.cell_addr.specs.Place.{covers}
use Rattle.cell_addr.specs.declared.place.Block.{Block}
use Rattle.cell_addr.specs.declared.place.Place.{Place}
use Rattle.book_model.specs.Operation as op
use Rattle.book_model.specs.Refusals.{cause}
use Rattle.book_model.specs.Workbook.{State}
use Rattle.book_engine.specs.Areas.{filled_in_block}
use Rattle.book_engine.specs.Turns.{Answered}
use Rattle.book_engine.specs.Stop.{Stop}
use Rattle.book_engine.specs.Stop.TheVariants.{Refused, NoMemory}
use Rattle.book_engine.proofs.FilledPlaces.{each_passes}
use Rattle.area_reads.specs.Reads.{contents_at, contents_in}
use Rattle.area_reads.proofs.Accepted.{at_accepted}

module _ (area : Block) (d : State) (places : List Place) (same : places ≡ filled_in_block area d.book) where
  covered : All (λ p. covers area p ≡ true) places
  covered = subst (All (λ p. covers area p ≡ true)) (sym same) (each_passes (covers area) d.book)

  -- each of the places can be asked for
  pub contents_accepted : cause (op.copy area) d ≡ None → All (λ p. cause (op.content p) d ≡ None) places
  contents_accepted none = λ k p below. at_accepted area d (get_or places k p) none (covered k p below)

  -- what is read of them is what is read of the block
  pub contents_told : (r : Result (Vec (Place × List ℕ) Global) Stop) → cause (op.copy area) d ≡ None → Answered None (λ list. list.items ≡ contents_at places d) r → Answered (cause (op.copy area) d) (λ list. list.items ≡ contents_in area d) r
  contents_told (Ok list) none told = (none, told.1 ∙ ap (λ ps. contents_at ps d) same)
  contents_told (Err (Refused r)) none told = absurd (none-some r told)
  contents_told (Err NoMemory) none told = tt

-- what is read of one more place goes to the end
pub more : {X : Type 0} (read : Place → X) (places : List Place) (i : ℕ) (p : Place) (list : List (Place × X)) (x : X) → i < length places → list ≡ map (λ q. (q, read q)) (take i places) → x ≡ read (get_or places i p)
    → list ++ (get_or places i p, x) ∷ [] ≡ map (λ q. (q, read q)) (take (i + 1) places)
more read places i p list x below before is =
    ap (λ l. l ++ (get_or places i p, x) ∷ []) before
    ∙ ap (λ y. map (λ q. (q, read q)) (take i places) ++ (get_or places i p, y) ∷ []) is
    ∙ sym (map-append (λ q. (q, read q)) (take i places) (get_or places i p ∷ []))
    ∙ ap (map (λ q. (q, read q))) (sym (take_more places i p below))
