-- The least block over places, worked out place by place. Serves the used area of a sheet.
use Rattle.std.proofs.Common.{◌≡◌, ◌∙◌, sym, ap, subst, refl, arith, ◌⊎◌, inl, inr, ℕ, ◌≤◌, min, max, Bool, true, false, ◌||◌, List, [], ◌∷◌, None, Some}
use Rattle.std.proofs.lemmas.Bool.{false≢true}
use Rattle.std.specs.Ordering.{eq_by_cmp}
use Rattle.cell_addr.specs.Order.{place_cmp}
use Rattle.cell_addr.specs.Place.{Covers}
use Rattle.cell_addr.specs.declared.place.Block.{Block}
use Rattle.cell_addr.specs.declared.place.Place.{Place}
use Rattle.cell_addr.proofs.Places.{place_cmp-IsAntisymmetric, place_cmp-IsTotalOrder}
use Rattle.shift_core.proofs.CarriedEntries.{eq_by_cmp-decides}
use Rattle.session_questions.specs.internal.Areas.{area_over, widened}
use Rattle.session_operations.specs.internal.Pasting.{is_among}

-- the first of a list is one of it, and so is each later one
pub among_first : (p : Place) (ps : List Place) → is_among (p ∷ ps) p ≡ true
among_first p ps = ap (λ b. b || is_among ps p) ((eq_by_cmp-decides place_cmp-IsTotalOrder place_cmp-IsAntisymmetric p p).1 refl)

pub among_later : (p q : Place) (ps : List Place) → is_among ps q ≡ true → is_among (p ∷ ps) q ≡ true
among_later p q ps h = go (eq_by_cmp place_cmp q p) h
  where
    go : (b : Bool) → is_among ps q ≡ true → (b || is_among ps q) ≡ true
    go true h = refl
    go false h = h

among_cases : (p q : Place) (ps : List Place) → is_among (p ∷ ps) q ≡ true → (q ≡ p) ⊎ (is_among ps q ≡ true)
among_cases p q ps h = go (eq_by_cmp place_cmp q p) refl h
  where
    go : (b : Bool) → eq_by_cmp place_cmp q p ≡ b → (b || is_among ps q) ≡ true → (q ≡ p) ⊎ (is_among ps q ≡ true)
    go true same h = inl ((eq_by_cmp-decides place_cmp-IsTotalOrder place_cmp-IsAntisymmetric q p).0 same)
    go false other h = inr h

lesser : (a b : ℕ) → (min a b ≡ a) ⊎ (min a b ≡ b)
lesser a b = grind arith

greater : (a b : ℕ) → (max a b ≡ a) ⊎ (max a b ≡ b)
greater a b = grind arith

least_is : (a b n : ℕ) → a ≤ n → min a b ≤ n
least_is a b n h = grind arith

most_is : (a b n : ℕ) → n ≤ a → n ≤ max a b
most_is a b n h = grind arith

least_new : (a b : ℕ) → min a b ≤ b
least_new a b = grind arith

most_new : (a b : ℕ) → b ≤ max a b
most_new a b = grind arith

-- a wider block covers what the block did, and the place
widened_covers : (a : Block) (p q : Place) → Covers a q → Covers (widened (Some a) p) q
widened_covers a p q (sheet, top, bottom, left, right) =
    (sheet, least_is a.top p.row q.row top, most_is a.bottom p.row q.row bottom, least_is a.left p.col q.col left, most_is a.right p.col q.col right)

widened_new : (a : Block) (p : Place) → a.sheet ≡ p.sheet → Covers (widened (Some a) p) p
widened_new a p sheet = (sheet, least_new a.top p.row, most_new a.bottom p.row, least_new a.left p.col, most_new a.right p.col)

-- some place of a kind has a number at an edge
abbrev pub AtEdge : (Place → Type 0) → (Place → ℕ) → ℕ → Type 0
AtEdge Holds line edge = (p : Place) × Holds p × (line p ≡ edge)

at_edge : (Holds : Place → Type 0) (line : Place → ℕ) (edge next : ℕ) (p : Place) → Holds p → AtEdge Holds line edge → (next ≡ edge) ⊎ (next ≡ line p) → AtEdge Holds line next
at_edge Holds line edge next p holds at (inl same) = (at.0, at.1, at.2 ∙ sym same)
at_edge Holds line edge next p holds at (inr same) = (p, holds, sym same)

module _ (Holds : Place → Type 0) where
  -- at each edge of the block there is a place of the kind
  abbrev pub Reaches : Block → Type 0
  Reaches a = AtEdge Holds (λ p. p.row) a.top × AtEdge Holds (λ p. p.col) a.left × AtEdge Holds (λ p. p.row) a.bottom × AtEdge Holds (λ p. p.col) a.right

  reaches_widened : (a : Block) (p : Place) → Holds p → Reaches a → Reaches (widened (Some a) p)
  reaches_widened a p holds (top, left, bottom, right) = (
    at_edge Holds (λ p. p.row) a.top (min a.top p.row) p holds top (lesser a.top p.row),
    at_edge Holds (λ p. p.col) a.left (min a.left p.col) p holds left (lesser a.left p.col),
    at_edge Holds (λ p. p.row) a.bottom (max a.bottom p.row) p holds bottom (greater a.bottom p.row),
    at_edge Holds (λ p. p.col) a.right (max a.right p.col) p holds right (greater a.right p.col),
  )

  pub start_reaches : (p : Place) → Holds p → Reaches (widened None p)
  start_reaches p holds = ((p, holds, refl), (p, holds, refl), (p, holds, refl), (p, holds, refl))

  -- what comes of a block and of places of the kind
  pub record Grown (a : Block) (ps : List Place) : Type 0 where
    pub area : Block
    pub is : area_over (Some a) ps ≡ Some area
    pub reaches : Reaches area
    pub before : (q : Place) → Covers a q → Covers area q
    pub places : (q : Place) → is_among ps q ≡ true → Covers area q

  pub grown : (a : Block) (ps : List Place) → Reaches a → ((q : Place) → is_among ps q ≡ true → Holds q × (a.sheet ≡ q.sheet)) → Grown a ps
  grown a [] reaches all = record { area = a; is = refl; reaches = reaches; before = λ q h. h; places = λ q h. absurd (false≢true h) }
  grown a (p ∷ ps) reaches all =
      let first = all p (among_first p ps) in
      let rest = grown (widened (Some a) p) ps (reaches_widened a p first.0 reaches) (λ q h. all q (among_later p q ps h)) in record {
        area = rest.area;
        is = rest.is;
        reaches = rest.reaches;
        before = λ q h. rest.before q (widened_covers a p q h);
        places = λ q h. elim (among_cases p q ps h) [
          | inl same ↦ subst (Covers rest.area) (sym same) (rest.before p (widened_new a p first.1))
          | inr later ↦ rest.places q later
        ];
      }

  itself : (n : ℕ) → n ≤ n
  itself n = omega arith

  -- it covers each of them, where the block was that of a place
  pub every : (p : Place) (ps : List Place) (g : Grown (widened None p) ps) (q : Place) → is_among (p ∷ ps) q ≡ true → Covers g.area q
  every p ps g q h = elim (among_cases p q ps h) [
    | inl same ↦ subst (Covers g.area) (sym same) (g.before p (refl, itself p.row, itself p.row, itself p.col, itself p.col))
    | inr later ↦ g.places q later
  ]
