-- Tables that lead to and fro. Serves edits of lines.
use Rattle.std.proofs.Common.{◌≡◌, ◌∙◌, sym, ap, refl, ℕ, ◌+◌, ◌-◌, ◌<◌, ◌≤◌, true, List, [], ◌∷◌, ◌++◌, Option, Some, None, option_and_then, arith}
use Rattle.std.proofs.lemmas.Bool.Decides.{nat_tests}
use Rattle.std.proofs.lemmas.Option.{same_Some}
use Rattle.stable_lines.specs.Runs.{AreInverse, image}
use Rattle.stable_lines.specs.declared.run.Run.{Run}
use Rattle.stable_lines.specs.declared.turn.Turn.{Turn}
use Rattle.stable_lines.specs.internal.Tables.{is_table}
use Rattle.stable_lines.specs.internal.Turns.{IsTurn, fresh, fresh_back, swaps, turned_back, whole}
use Rattle.stable_lines.proofs.TableLemmas.{image_front, image_behind}

-- rules that lead to and fro, one after the other
chain : (F F' G G' : ℕ → Option ℕ) → AreInverse F F' → AreInverse G G' → (x z : ℕ) (r : Option ℕ) → F x ≡ r → option_and_then G r ≡ Some z → option_and_then F' (G' z) ≡ Some x
chain F F' G G' f g x z None e h = cc
chain F F' G G' f g x z (Some y) e h = ap (option_and_then F') ((g y z).0 h) ∙ (f x y).0 e

pub turned : (F G : ℕ → Option ℕ) → AreInverse F G → AreInverse G F
turned F G w x y = ((w y x).1, (w y x).0)

pub chained : (F F' G G' : ℕ → Option ℕ) → AreInverse F F' → AreInverse G G' → AreInverse (λ x. option_and_then G (F x)) (λ z. option_and_then F' (G' z))
chained F F' G G' f g x z = (chain F F' G G' f g x z (F x) refl, chain G' G F' F (turned G G' g) (turned F F' f) z x (G' z) refl)

pub same_inverse : (F G H K : ℕ → Option ℕ) → AreInverse F G → ((x : ℕ) → H x ≡ F x) → ((x : ℕ) → K x ≡ G x) → AreInverse H K
same_inverse F G H K w a b x y = (λ h. b y ∙ (w x y).0 (sym (a x) ∙ h), λ h. a x ∙ (w x y).1 (sym (b y) ∙ h))

-- a turn and the turn that takes it back
pub back_again : (t : Turn) → IsTurn t → turned_back (turned_back t) ≡ t
back_again t i = let e : t.first + (t.last - (t.first + (t.last - t.middle))) ≡ t.middle = omega arith in λ j. record t { middle = e j }

pub back_is_turn : (t : Turn) → IsTurn t → IsTurn (turned_back t)
back_is_turn t i = (omega arith, omega arith, omega arith, i.3)

swaps_return : (t : Turn) (x y : ℕ) → IsTurn t → image (swaps t) x ≡ Some y → image (swaps (turned_back t)) y ≡ Some x
swaps_return t x y i h = grind (arith, nat_tests)

pub swaps_inverse : (t : Turn) → IsTurn t → AreInverse (image (swaps t)) (image (swaps (turned_back t)))
swaps_inverse t i x y = (
  swaps_return t x y i,
  λ h. ap (λ u. image (swaps u) x) (sym (back_again t i)) ∙ swaps_return (turned_back t) y x (back_is_turn t i) h,
)

pub swaps_table : (t : Turn) → IsTurn t → is_table 0 (swaps t) ≡ true
swaps_table t i = grind (arith, nat_tests)

pub whole_inverse : (limit : ℕ) → AreInverse (image (whole limit ∷ [])) (image (whole limit ∷ []))
whole_inverse limit x y = (λ h. grind (arith, nat_tests), λ h. grind (arith, nat_tests))

-- fresh lines behind those of a sheet
module _ (lines positions : List Run) (limit next room : ℕ) (inverse : AreInverse (image lines) (image positions))
    (within : (p l : ℕ) → image lines p ≡ Some l → p < limit) (below : (p l : ℕ) → image lines p ≡ Some l → l < next) where
  fresh_lands : (x y : ℕ) → image (fresh limit next room ∷ []) x ≡ Some y → (limit ≤ x) × (x < limit + room) × (y ≡ next + (x - limit))
  fresh_lands x y h = (grind (arith, nat_tests), grind (arith, nat_tests), grind (arith, nat_tests))

  fresh_back_lands : (y x : ℕ) → image (fresh_back limit next room ∷ []) y ≡ Some x → (next ≤ y) × (y < next + room) × (x ≡ limit + (y - next))
  fresh_back_lands y x h = (grind (arith, nat_tests), grind (arith, nat_tests), grind (arith, nat_tests))

  fresh_there : (x y : ℕ) → limit ≤ x → x < limit + room → y ≡ next + (x - limit) → image (fresh limit next room ∷ []) x ≡ Some y
  fresh_there x y a b e = grind (arith, nat_tests)

  fresh_back_there : (y x : ℕ) → next ≤ y → y < next + room → x ≡ limit + (y - next) → image (fresh_back limit next room ∷ []) y ≡ Some x
  fresh_back_there y x a b e = grind (arith, nat_tests)

  no_position : (y : ℕ) (r : Option ℕ) → image positions y ≡ r → next ≤ y → image positions y ≡ None
  no_position y None e le = e
  no_position y (Some p) e le = let lt = below p y ((inverse p y).1 e) in absurd (omega arith)

  no_line : (x : ℕ) (r : Option ℕ) → image lines x ≡ r → limit ≤ x → image lines x ≡ None
  no_line x None e le = e
  no_line x (Some l) e le = let lt = within x l e in absurd (omega arith)

  forth : (x y : ℕ) (r : Option ℕ) → image lines x ≡ r → image (lines ++ fresh limit next room ∷ []) x ≡ Some y → image (positions ++ fresh_back limit next room ∷ []) y ≡ Some x
  forth x y None e h =
      let w = fresh_lands x y (sym (image_behind lines (fresh limit next room ∷ []) x e) ∙ h) in
      image_behind positions (fresh_back limit next room ∷ []) y (no_position y (image positions y) refl (omega arith)) ∙ fresh_back_there y x (omega arith) (omega arith) (omega arith)
  forth x y (Some l) e h =
      let same : l ≡ y = same_Some l y (sym (image_front lines (fresh limit next room ∷ []) x l e) ∙ h) in
      image_front positions (fresh_back limit next room ∷ []) y x ((inverse x y).0 (e ∙ ap (λ z. Some z) same))

  back : (y x : ℕ) (r : Option ℕ) → image positions y ≡ r → image (positions ++ fresh_back limit next room ∷ []) y ≡ Some x → image (lines ++ fresh limit next room ∷ []) x ≡ Some y
  back y x None e h =
      let w = fresh_back_lands y x (sym (image_behind positions (fresh_back limit next room ∷ []) y e) ∙ h) in
      image_behind lines (fresh limit next room ∷ []) x (no_line x (image lines x) refl (omega arith)) ∙ fresh_there x y (omega arith) (omega arith) (omega arith)
  back y x (Some p) e h =
      let same : p ≡ x = same_Some p x (sym (image_front positions (fresh_back limit next room ∷ []) y p e) ∙ h) in
      image_front lines (fresh limit next room ∷ []) x y ((inverse x y).1 (e ∙ ap (λ z. Some z) same))

  pub longer_inverse : AreInverse (image (lines ++ fresh limit next room ∷ [])) (image (positions ++ fresh_back limit next room ∷ []))
  longer_inverse x y = (forth x y (image lines x) refl, back y x (image positions y) refl)

  -- a position of the sheet keeps its line, one behind it has a fresh limit next room line
  pub longer_kept : (p : ℕ) (r : Option ℕ) → image lines p ≡ r → p < limit → image (lines ++ fresh limit next room ∷ []) p ≡ image lines p
  longer_kept p None e lt = image_behind lines (fresh limit next room ∷ []) p e ∙ grind (arith, nat_tests)
  longer_kept p (Some l) e lt = image_front lines (fresh limit next room ∷ []) p l e ∙ sym e

  pub longer_fresh : (p : ℕ) → limit ≤ p → p < limit + room → image (lines ++ fresh limit next room ∷ []) p ≡ Some (next + (p - limit))
  longer_fresh p le lt = image_behind lines (fresh limit next room ∷ []) p (no_line p (image lines p) refl le) ∙ fresh_there p (next + (p - limit)) le lt refl

  pub longer_within : (p l : ℕ) (r : Option ℕ) → image lines p ≡ r → image (lines ++ fresh limit next room ∷ []) p ≡ Some l → l < next + room
  longer_within p l None e h = let w = fresh_lands p l (sym (image_behind lines (fresh limit next room ∷ []) p e) ∙ h) in omega arith
  longer_within p l (Some k) e h =
      let same : k ≡ l = same_Some k l (sym (image_front lines (fresh limit next room ∷ []) p k e) ∙ h) in
      let lt = below p k e in omega arith
