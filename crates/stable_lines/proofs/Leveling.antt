-- What the near level and the farther ones are together: each position has a line, and lines lead back. Serves the tables of lines.
use Rattle.std.proofs.Common.{◌≡◌, ◌∙◌, sym, ap, refl, ℕ, ◌+◌, ◌-◌, ◌<◌, ◌≤◌, inl, inr, List, [], ◌∷◌, ◌++◌, Option, Some, None, is_some, true, option_and_then, subst, arith}
use Rattle.std.proofs.lemmas.Bool.{cases_lt}
use Rattle.std.proofs.lemmas.Option.{same_Some}
use Rattle.stable_lines.specs.Runs.{AreInverse, Leveled, image}
use Rattle.stable_lines.specs.declared.run.Run.{Run}
use Rattle.stable_lines.specs.internal.Levels.{AreSameLevels, IsRead, IsReadBack, back_through, through}
use Rattle.stable_lines.specs.internal.Tables.{end_by, is_table}
use Rattle.stable_lines.specs.internal.Turns.{fresh, fresh_back, whole}
use Rattle.stable_lines.proofs.Compositions.{table_append}
use Rattle.stable_lines.proofs.Inverses.{chained, longer_fresh, longer_inverse, longer_kept, same_inverse}
use Rattle.stable_lines.proofs.TableLemmas.{sums_fit, table_whole}
use Rattle.stable_lines.proofs.Turning.{AreLines, some_then, whole_ends_there, whole_keeps}

-- what is owed of the farther levels: positions lead to lines below the next of theirs, and numbers behind the sheet to fresh ones
pub record AreFar (limit base : ℕ) (lead back : ℕ → Option ℕ) : Type 0 where
  pub inverse : AreInverse lead back
  pub filled : (y : ℕ) → y < limit → is_some (lead y) ≡ true
  pub below : (y l : ℕ) → y < limit → lead y ≡ Some l → l < base
  pub fresh : (y : ℕ) → limit ≤ y → base + (y - limit) < 9223372036854775808 → lead y ≡ Some (base + (y - limit))

some_value : (r : Option ℕ) → is_some r ≡ true → (y : ℕ) × (r ≡ Some y)
some_value None h = cc
some_value (Some y) h = (y, refl)

module _ (limit base next : ℕ) (near near_back : List Run) (lead back : ℕ → Option ℕ) (first : limit ≤ base) (older : base ≤ next) (low : next ≤ 9223372036854775808)
    (n : AreLines limit (limit + (next - base)) near near_back) (f : AreFar limit base lead back) where
  -- the line at a position, and where a line stands
  abbrev pub line : ℕ → Option ℕ
  line x = option_and_then lead (image near x)

  abbrev pub place : ℕ → Option ℕ
  place l = option_and_then (image near_back) (back l)

  pub leads_back : AreInverse line place
  leads_back = chained (image near) (image near_back) lead back n.inverse f.inverse

  lead_some : (m : ℕ) → m < limit + (next - base) → is_some (lead m) ≡ true
  lead_some m lt = elim (cases_lt m limit) [
    | inl short ↦ f.filled m short
    | inr long ↦ ap is_some (f.fresh m long (omega arith))
  ]

  lead_below : (m l : ℕ) → m < limit + (next - base) → lead m ≡ Some l → l < next
  lead_below m l lt e = elim (cases_lt m limit) [
    | inl short ↦ let le = f.below m l short e in omega arith
    | inr long ↦ let same : base + (m - limit) ≡ l = same_Some (base + (m - limit)) l (sym (f.fresh m long (omega arith)) ∙ e) in omega arith
  ]

  pub line_filled : (x : ℕ) → x < limit → is_some (line x) ≡ true
  line_filled x lt =
      let w = some_value (image near x) (n.filled x lt) in
      ap (λ r. is_some (option_and_then lead r)) w.1 ∙ lead_some w.0 (n.below x w.0 w.1)

  pub line_within : (x l : ℕ) → line x ≡ Some l → x < limit
  line_within x l h = let w = some_then (image near) lead x l (image near x) refl h in n.within x w.0 w.1

  pub line_below : (x l : ℕ) → line x ≡ Some l → l < next
  line_below x l h =
      let w = some_then (image near) lead x l (image near x) refl h in lead_below w.0 l (n.below x w.0 w.1) w.2

  -- the near level as the first of the farther ones
  abbrev room : ℕ
  room = 9223372036854775808 - (limit + (next - base))

  abbrev pub longer : List Run
  longer = near ++ fresh limit (limit + (next - base)) room ∷ []

  abbrev pub longer_back : List Run
  longer_back = near_back ++ fresh_back limit (limit + (next - base)) room ∷ []

  abbrev pub onward : ℕ → Option ℕ
  onward x = option_and_then lead (image longer x)

  abbrev pub backward : ℕ → Option ℕ
  backward l = option_and_then (image longer_back) (back l)

  pub onward_kept : (x : ℕ) → x < limit → onward x ≡ line x
  onward_kept x lt = ap (option_and_then lead) (longer_kept near near_back limit (limit + (next - base)) room n.inverse n.within n.below x (image near x) refl lt)

  onward_fresh : (y : ℕ) → limit ≤ y → next + (y - limit) < 9223372036854775808 → onward y ≡ Some (next + (y - limit))
  onward_fresh y le lt =
      let there : image longer y ≡ Some (limit + (next - base) + (y - limit)) = longer_fresh near near_back limit (limit + (next - base)) room n.inverse n.within n.below y le (omega arith) in
      let sum : base + (limit + (next - base) + (y - limit) - limit) ≡ next + (y - limit) = omega arith in
      ap (option_and_then lead) there ∙ f.fresh (limit + (next - base) + (y - limit)) (omega arith) (omega arith) ∙ ap (λ z. Some z) sum

  pub are_far : AreFar limit next onward backward
  are_far = record {
    inverse = chained (image longer) (image longer_back) lead back (longer_inverse near near_back limit (limit + (next - base)) room n.inverse n.within n.below) f.inverse;
    filled = λ y lt. ap is_some (onward_kept y lt) ∙ line_filled y lt;
    below = λ y l lt h. line_below y l (sym (onward_kept y lt) ∙ h);
    fresh = onward_fresh;
  }

-- of rules that are the same
pub same_far : (limit base : ℕ) (lead back lead' back' : ℕ → Option ℕ) → AreFar limit base lead back → ((x : ℕ) → lead' x ≡ lead x) → ((x : ℕ) → back' x ≡ back x) → AreFar limit base lead' back'
same_far limit base lead back lead' back' f a b = record {
  inverse = same_inverse lead back lead' back' f.inverse a b;
  filled = λ y lt. ap is_some (a y) ∙ f.filled y lt;
  below = λ y l lt h. f.below y l lt (sym (a y) ∙ h);
  fresh = λ y le lt. a y ∙ f.fresh y le lt;
}

-- rules back are the same where those forth are
back_step : (f g h k : ℕ → Option ℕ) → AreInverse f g → AreInverse h k → ((x : ℕ) → h x ≡ f x) → (y : ℕ) (r s : Option ℕ) → g y ≡ r → k y ≡ s → s ≡ r
back_step f g h k i j same y None None d e = refl
back_step f g h k i j same y None (Some x) d e = sym ((i x y).0 (sym (same x) ∙ (j x y).1 e)) ∙ d
back_step f g h k i j same y (Some x) s d e = sym e ∙ (j x y).0 (same x ∙ (i x y).1 d)

pub same_back : (f g h k : ℕ → Option ℕ) → AreInverse f g → AreInverse h k → ((x : ℕ) → h x ≡ f x) → (y : ℕ) → k y ≡ g y
same_back f g h k i j same y = back_step f g h k i j same y (g y) (k y) refl refl

no_line : (limit : ℕ) (line : ℕ → Option ℕ) → ((x l : ℕ) → line x ≡ Some l → x < limit) → (x : ℕ) (r : Option ℕ) → line x ≡ r → limit ≤ x → line x ≡ None
no_line limit line within x None e le = e
no_line limit line within x (Some l) e le = let lt = within x l e in absurd (omega arith)

-- behind a near level with nothing but the positions of the sheet, its lines stay
pub behind_whole : (limit : ℕ) (lead : ℕ → Option ℕ) (line : ℕ → Option ℕ) → ((x : ℕ) → x < limit → lead x ≡ line x) → ((x l : ℕ) → line x ≡ Some l → x < limit)
    → (x : ℕ) → option_and_then lead (image (whole limit ∷ []) x) ≡ line x
behind_whole limit lead line same within x = elim (cases_lt x limit) [
  | inl lt ↦ ap (option_and_then lead) (whole_keeps limit x lt) ∙ same x lt
  | inr le ↦ ap (option_and_then lead) (whole_ends_there limit x le) ∙ sym (no_line limit line within x (line x) refl le)
]

-- what is owed of a table in levels
pub record AreLeveled (limit base next : ℕ) (lines positions : Leveled) : Type 0 where
  pub first : limit ≤ base
  pub older : base ≤ next
  pub low : next ≤ 9223372036854775808
  pub near : AreLines limit (limit + (next - base)) lines.near positions.near
  pub far : AreFar limit base (through lines.far) (back_through positions.far)
  pub read : IsRead lines
  pub read_back : IsReadBack positions

module _ (limit base next : ℕ) (lines positions : Leveled) (a : AreLeveled limit base next lines positions) where
  pub all_inverse : AreInverse (image lines.items) (image positions.items)
  all_inverse =
      same_inverse (λ x. option_and_then (through lines.far) (image lines.near x)) (λ l. option_and_then (image positions.near) (back_through positions.far l)) (image lines.items) (image positions.items)
      (leads_back limit base next lines.near positions.near (through lines.far) (back_through positions.far) a.first a.older a.low a.near a.far) a.read a.read_back

  pub all_filled : (p : ℕ) → p < limit → is_some (image lines.items p) ≡ true
  all_filled p lt = ap is_some (a.read p) ∙ line_filled limit base next lines.near positions.near (through lines.far) (back_through positions.far) a.first a.older a.low a.near a.far p lt

  pub all_within : (p l : ℕ) → image lines.items p ≡ Some l → p < limit
  all_within p l h = line_within limit base next lines.near positions.near (through lines.far) (back_through positions.far) a.first a.older a.low a.near a.far p l (sym (a.read p) ∙ h)

  pub all_below : (p l : ℕ) → image lines.items p ≡ Some l → l < next
  all_below p l h = line_below limit base next lines.near positions.near (through lines.far) (back_through positions.far) a.first a.older a.low a.near a.far p l (sym (a.read p) ∙ h)

-- a near level with fresh numbers behind it
pub tail_table : (limit next room : ℕ) (near : List Run) → is_table 0 near ≡ true → end_by limit near ≡ true → limit + room < 18446744073709551616 → next + room < 18446744073709551616
    → is_table 0 (near ++ fresh limit next room ∷ []) ≡ true
tail_table limit next room near h ends a b =
    table_append 0 limit near (fresh limit next room ∷ []) (omega arith) h ends (table_whole limit (fresh limit next room) [] (omega arith) (sums_fit (fresh limit next room) a b) refl)

pub tail_back_table : (limit next room : ℕ) (near : List Run) → is_table 0 near ≡ true → end_by next near ≡ true → limit + room < 18446744073709551616 → next + room < 18446744073709551616
    → is_table 0 (near ++ fresh_back limit next room ∷ []) ≡ true
tail_back_table limit next room near h ends a b =
    table_append 0 next near (fresh_back limit next room ∷ []) (omega arith) h ends (table_whole next (fresh_back limit next room) [] (omega arith) (sums_fit (fresh_back limit next room) b a) refl)

-- levels that are the same
same_leveled : (l m : Leveled) → AreSameLevels l m → l ≡ m
same_leveled l m h = λ i. record { items = sym h.0 i; near = sym h.1 i; far = sym h.2 i }

pub copied_levels : (limit base next : ℕ) (lines positions lines' positions' : Leveled) → AreSameLevels lines lines' → AreSameLevels positions positions' → AreLeveled limit base next lines positions
    → AreLeveled limit base next lines' positions'
copied_levels limit base next lines positions lines' positions' a b h =
    subst (λ x. AreLeveled limit base next x positions') (same_leveled lines lines' a) (subst (λ x. AreLeveled limit base next lines x) (same_leveled positions positions' b) h)
