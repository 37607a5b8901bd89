-- The lines of a sheet once they and fresh ones behind them take a turn. Serves edits of lines.
use Rattle.std.proofs.Common.{◌≡◌, ◌∙◌, sym, ap, refl, ℕ, ◌+◌, ◌-◌, ◌<◌, ◌≤◌, ◌⊎◌, inl, inr, true, List, [], ◌∷◌, ◌++◌, Option, Some, None, is_some, IsSomeAnd, option_and_then, subst, arith}
use Rattle.std.proofs.lemmas.Bool.Decides.{nat_tests}
use Rattle.stable_lines.specs.Runs.{AreInverse, image}
use Rattle.stable_lines.specs.declared.run.Run.{Run}
use Rattle.stable_lines.specs.declared.turn.Turn.{Turn}
use Rattle.stable_lines.specs.internal.Tables.{are_fit, composed, end_by, fits, is_table}
use Rattle.stable_lines.specs.internal.Turns.{IsTurn, fresh, fresh_back, new_lines, new_positions, swaps, turned_back, whole}
use Rattle.stable_lines.proofs.Compositions.{image-composed, composed_table, composed_ends, table_append, ends_append, ends_later}
use Rattle.stable_lines.proofs.Inverses.{chained, turned, same_inverse, swaps_inverse, swaps_table, whole_inverse, back_is_turn, longer_inverse, longer_kept, longer_fresh, longer_within}
use Rattle.stable_lines.proofs.TableLemmas.{table_whole, sums_fit, table_fits}

-- each number before the end goes to one before the end
pub swaps_some : (t : Turn) (x : ℕ) → IsTurn t → x < t.end → is_some (image (swaps t) x) ≡ true
swaps_some t x i lt = grind (arith, nat_tests)

pub swaps_within : (t : Turn) (x y : ℕ) → IsTurn t → image (swaps t) x ≡ Some y → y < t.end
swaps_within t x y i h = grind (arith, nat_tests)

pub whole_keeps : (limit x : ℕ) → x < limit → image (whole limit ∷ []) x ≡ Some x
whole_keeps limit x lt = grind (arith, nat_tests)

whole_within : (limit x y : ℕ) → image (whole limit ∷ []) x ≡ Some y → x < limit
whole_within limit x y h = grind (arith, nat_tests)

pub whole_ends_there : (limit x : ℕ) → limit ≤ x → image (whole limit ∷ []) x ≡ None
whole_ends_there limit x le = grind (arith, nat_tests)

whole_some : (limit p : ℕ) → p < limit → is_some (image (whole limit ∷ []) p) ≡ true
whole_some limit p lt = grind (arith, nat_tests)

whole_below : (limit p l : ℕ) → image (whole limit ∷ []) p ≡ Some l → l < limit
whole_below limit p l h = grind (arith, nat_tests)

pub whole_table : (limit : ℕ) → limit < 4294967296 → is_table 0 (whole limit ∷ []) ≡ true
whole_table limit lt = grind (arith, nat_tests)

whole_ends : (limit : ℕ) → end_by limit (whole limit ∷ []) ≡ true
whole_ends limit = grind (arith, nat_tests)

one_table : (low : ℕ) (r : Run) → low ≤ r.from → fits r ≡ true → is_table low (r ∷ []) ≡ true
one_table low r le fit = table_whole low r [] le fit refl

one_ends : (end : ℕ) (r : Run) → r.from + r.count ≤ end → end_by end (r ∷ []) ≡ true
one_ends end r le = grind (arith, nat_tests)

-- what is owed of lines and positions
pub record AreLines (limit next : ℕ) (lines positions : List Run) : Type 0 where
  pub lines_are_table : is_table 0 lines ≡ true
  pub lines_end : end_by limit lines ≡ true
  pub positions_are_table : is_table 0 positions ≡ true
  pub positions_end : end_by next positions ≡ true
  pub inverse : AreInverse (image lines) (image positions)
  pub filled : (p : ℕ) → p < limit → is_some (image lines p) ≡ true
  pub within : (p l : ℕ) → image lines p ≡ Some l → p < limit
  pub below : (p l : ℕ) → image lines p ≡ Some l → l < next

-- the positions of a sheet as its lines
pub whole_lines : (limit n : ℕ) → limit < 4294967296 → n ≡ limit → AreLines limit n (whole limit ∷ []) (whole limit ∷ [])
whole_lines limit n narrow e = record {
  lines_are_table = whole_table limit narrow;
  lines_end = whole_ends limit;
  positions_are_table = whole_table limit narrow;
  positions_end = subst (λ x. end_by x (whole limit ∷ []) ≡ true) (sym e) (whole_ends limit);
  inverse = whole_inverse limit;
  filled = whole_some limit;
  within = λ p l h. whole_within limit p l h;
  below = λ p l h. let lt = whole_below limit p l h in omega arith;
}

pub some_then : (f g : ℕ → Option ℕ) (x z : ℕ) (r : Option ℕ) → f x ≡ r → option_and_then g r ≡ Some z → (y : ℕ) × (f x ≡ Some y) × (g y ≡ Some z)
some_then f g x z None e h = cc
some_then f g x z (Some y) e h = (y, e, h)

cases_lt : (a b : ℕ) → (a < b) ⊎ (b ≤ a)
cases_lt a b = grind arith

module _ (limit next room : ℕ) (lines positions : List Run) (t : Turn) (old : AreLines limit next lines positions) (i : IsTurn t) (narrow : limit < 4294967296)
    (end : t.end ≡ limit + room) (sum : next + room < 18446744073709551616) where
  abbrev back : List Run
  back = composed (whole limit ∷ []) (swaps (turned_back t))

  abbrev forth : List Run
  forth = composed (swaps t) (whole limit ∷ [])

  abbrev longer : List Run
  longer = lines ++ fresh limit next room ∷ []

  abbrev longer_back : List Run
  longer_back = positions ++ fresh_back limit next room ∷ []

  abbrev newer : List Run
  newer = new_lines limit next room t lines

  abbrev newer_back : List Run
  newer_back = new_positions limit next room t positions

  fresh_fits : fits (fresh limit next room) ≡ true
  fresh_fits = sums_fit (fresh limit next room) (let b = i.3 in omega arith) (omega arith)

  fresh_back_fits : fits (fresh_back limit next room) ≡ true
  fresh_back_fits = sums_fit (fresh_back limit next room) (omega arith) (let b = i.3 in omega arith)

  pub longer_table : is_table 0 longer ≡ true
  longer_table = table_append 0 limit lines ((fresh limit next room) ∷ []) (omega arith) old.lines_are_table old.lines_end (one_table limit (fresh limit next room) (omega arith) fresh_fits)

  pub longer_back_table : is_table 0 longer_back ≡ true
  longer_back_table = table_append 0 next positions ((fresh_back limit next room) ∷ []) (omega arith) old.positions_are_table old.positions_end (one_table next (fresh_back limit next room) (omega arith) fresh_back_fits)

  back_turn : IsTurn (turned_back t)
  back_turn = back_is_turn t i

  pub back_table : is_table 0 back ≡ true
  back_table = composed_table 0 (whole limit ∷ []) (swaps (turned_back t)) (whole_table limit narrow) (swaps_table (turned_back t) back_turn)

  pub forth_table : is_table 0 forth ≡ true
  forth_table = composed_table 0 (swaps t) (whole limit ∷ []) (swaps_table t i) (whole_table limit narrow)

  image-back : (x : ℕ) → image back x ≡ option_and_then (image (swaps (turned_back t))) (image (whole limit ∷ []) x)
  image-back x = image-composed 0 (whole limit ∷ []) (swaps (turned_back t)) x (whole_table limit narrow)

  image-forth : (x : ℕ) → image forth x ≡ option_and_then (image (whole limit ∷ [])) (image (swaps t) x)
  image-forth x = image-composed 0 (swaps t) (whole limit ∷ []) x (swaps_table t i)

  image-lines : (x : ℕ) → image newer x ≡ option_and_then (image longer) (image back x)
  image-lines x = image-composed 0 back longer x back_table

  image-positions : (x : ℕ) → image newer_back x ≡ option_and_then (image forth) (image longer_back x)
  image-positions x = image-composed 0 longer_back forth x longer_back_table

  back_inverse : AreInverse (image back) (image forth)
  back_inverse =
      same_inverse (λ x. option_and_then (image (swaps (turned_back t))) (image (whole limit ∷ []) x)) (λ x. option_and_then (image (whole limit ∷ [])) (image (swaps t) x)) (image back) (image forth)
      (chained (image (whole limit ∷ [])) (image (whole limit ∷ [])) (image (swaps (turned_back t))) (image (swaps t)) (whole_inverse limit) (turned (image (swaps t)) (image (swaps (turned_back t))) (swaps_inverse t i)))
      image-back image-forth

  new_inverse : AreInverse (image newer) (image newer_back)
  new_inverse =
      same_inverse (λ x. option_and_then (image longer) (image back x)) (λ x. option_and_then (image forth) (image longer_back x)) (image newer) (image newer_back)
      (chained (image back) (image forth) (image longer) (image longer_back) back_inverse (longer_inverse lines positions limit next room old.inverse old.within old.below))
      image-lines image-positions

  -- where the turn back leads, the new lines follow
  pub follows : (q p : ℕ) → q < limit → image (swaps (turned_back t)) q ≡ Some p → image newer q ≡ image longer p
  follows q p lt h =
      image-lines q ∙ ap (option_and_then (image longer)) (image-back q ∙ ap (option_and_then (image (swaps (turned_back t)))) (whole_keeps limit q lt) ∙ h)

  pub follows_kept : (q p : ℕ) → q < limit → image (swaps (turned_back t)) q ≡ Some p → p < limit → image newer q ≡ image lines p
  follows_kept q p lt h le = follows q p lt h ∙ longer_kept lines positions limit next room old.inverse old.within old.below p (image lines p) refl le

  pub follows_fresh : (q p : ℕ) → q < limit → image (swaps (turned_back t)) q ≡ Some p → limit ≤ p → image newer q ≡ Some (next + (p - limit))
  follows_fresh q p lt h le =
      let short = swaps_within (turned_back t) q p back_turn h in
      follows q p lt h ∙ longer_fresh lines positions limit next room old.inverse old.within old.below p le (omega arith)

  some_line : (p : ℕ) → p < limit + room → is_some (image longer p) ≡ true
  some_line p lt = elim (cases_lt p limit) [
    | inl short ↦ ap is_some (longer_kept lines positions limit next room old.inverse old.within old.below p (image lines p) refl short) ∙ old.filled p short
    | inr long ↦ ap is_some (longer_fresh lines positions limit next room old.inverse old.within old.below p long lt)
  ]

  reached : (q : ℕ) (r : Option ℕ) → image (swaps (turned_back t)) q ≡ r → is_some r ≡ true → q < limit → is_some (image newer q) ≡ true
  reached q None e s lt = cc
  reached q (Some p) e s lt =
      let short = swaps_within (turned_back t) q p back_turn e in
      ap is_some (follows q p lt e) ∙ some_line p (omega arith)

  pub new_filled : (q : ℕ) → q < limit → is_some (image newer q) ≡ true
  new_filled q lt = reached q (image (swaps (turned_back t)) q) refl (swaps_some (turned_back t) q back_turn (omega arith)) lt

  pub new_within : (q l : ℕ) → image newer q ≡ Some l → q < limit
  new_within q l h =
      let w = some_then (image back) (image longer) q l (image back q) refl (sym (image-lines q) ∙ h) in
      let v = some_then (image (whole limit ∷ [])) (image (swaps (turned_back t))) q w.0 (image (whole limit ∷ []) q) refl (sym (image-back q) ∙ w.1) in
      whole_within limit q v.0 v.1

  pub new_below : (q l : ℕ) → image newer q ≡ Some l → l < next + room
  new_below q l h =
      let w = some_then (image back) (image longer) q l (image back q) refl (sym (image-lines q) ∙ h) in
      longer_within lines positions limit next room old.inverse old.within old.below w.0 l (image lines w.0) refl w.2

  pub are_lines : AreLines limit (next + room) newer newer_back
  are_lines = record {
    lines_are_table = composed_table 0 back longer back_table longer_table;
    lines_end = composed_ends limit back longer (composed_ends limit (whole limit ∷ []) (swaps (turned_back t)) (whole_ends limit));
    positions_are_table = composed_table 0 longer_back forth longer_back_table forth_table;
    positions_end = composed_ends (next + room) longer_back forth (ends_append (next + room) positions ((fresh_back limit next room) ∷ []) (ends_later next (next + room) positions (omega arith) old.positions_end) (one_ends (next + room) (fresh_back limit next room) (omega arith)));
    inverse = new_inverse;
    filled = new_filled;
    within = new_within;
    below = new_below;
  }

  pub longer_back_fits : are_fit longer_back ≡ true
  longer_back_fits = table_fits 0 longer_back longer_back_table

  pub back_fits : are_fit back ≡ true
  back_fits = table_fits 0 back back_table

  -- the same of lists that are equal to these
  pub owed : (n : ℕ) (made made_back : List Run) → n ≡ next + room → made ≡ newer → made_back ≡ newer_back → AreLines limit n made made_back
  owed n made made_back e f g =
      subst (λ x. AreLines limit x made made_back) (sym e) (subst (λ x. AreLines limit (next + room) x made_back) (sym f) (subst (λ x. AreLines limit (next + room) newer x) (sym g) are_lines))

  pub made_kept : (made : List Run) → made ≡ newer → (q p : ℕ) → q < limit → image (swaps (turned_back t)) q ≡ Some p → p < limit → image made q ≡ image lines p
  made_kept made e q p lt h le = ap (λ x. image x q) e ∙ follows_kept q p lt h le

  pub made_fresh : (made : List Run) → made ≡ newer → (q p : ℕ) → q < limit → image (swaps (turned_back t)) q ≡ Some p → limit ≤ p → IsSomeAnd (image made q) (λ l. next ≤ l)
  made_fresh made e q p lt h le =
      let there : image made q ≡ Some (next + (p - limit)) = ap (λ x. image x q) e ∙ follows_fresh q p lt h le in
      let late : next ≤ next + (p - limit) = omega arith in rw there late
