-- Two cells whose rows differ are two cells.
use Rattle.std.proofs.Common.{◌≢◌, ap, sym, arith, ℕ, zero, suc, List, [], ◌∷◌}
use Rattle.cell_addr.specs.declared.place.Place.{Place}
use Rattle.book_model.specs.Changes.{HaveDistinctPlaces}
use Rattle.engine_calls.proofs.giving.write_two.Goals as goal

two : (e f : Place × List ℕ) → e.0 ≢ f.0 → HaveDistinctPlaces (e ∷ f ∷ [])
two e f apart zero zero d l within = absurd (omega arith)
two e f apart zero (suc zero) d l within = apart
two e f apart zero (suc (suc j)) d l within = absurd (omega arith)
two e f apart (suc i) zero d l within = absurd (omega arith)
two e f apart (suc i) (suc zero) d l within = absurd (omega arith)
two e f apart (suc i) (suc (suc j)) d l within = absurd (omega arith)

pub write_all-requires : goal.write_all-requires
write_all-requires c = record { distinct = two _ _ (λ same. c.requires (sym (ap (λ p. p.row) same))) }
