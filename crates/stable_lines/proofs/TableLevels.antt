-- The levels of a table of lines when it is made, once its lines took a turn, and with the near level as the first of the farther
-- ones. Serves edits of lines.
use Rattle.std.proofs.Common.{◌≡◌, ◌∙◌, sym, ap, refl, subst, ℕ, ◌+◌, ◌-◌, ◌<◌, ◌≤◌, [], ◌∷◌, Option, Some, IsSomeAnd, option_and_then, arith}
use Rattle.std.proofs.lemmas.Option.{same_Some}
use Rattle.std.proofs.lemmas.Bool.Decides.{nat_tests}
use Rattle.stable_lines.specs.Lines.{AreSame, first_line}
use Rattle.stable_lines.specs.Runs.{AreInverse, Leveled, image}
use Rattle.stable_lines.specs.declared.table.LineTable.{LineTable}
use Rattle.stable_lines.specs.declared.turn.Turn.{Turn}
use Rattle.stable_lines.specs.internal.Deepened.{LeadBack, LeadOn, near_next}
use Rattle.stable_lines.specs.internal.Levels.{IsRead, IsReadBack, back_through, through}
use Rattle.stable_lines.specs.internal.Turned.{IsTurned}
use Rattle.stable_lines.specs.internal.Turns.{IsTurn, new_lines, new_positions, swaps, turned_back, whole}
use Rattle.stable_lines.proofs.Leveling.{AreFar, AreLeveled, all_inverse, are_far, behind_whole, onward_kept, same_back, same_far}
use Rattle.stable_lines.proofs.Inverses.{back_is_turn}
use Rattle.stable_lines.proofs.Turning.{AreLines, follows_fresh, made_kept, owed, swaps_within, whole_lines}

-- what a table knows of its levels
pub near_of : (t : LineTable) → AreLines t.limit (near_next t) t.lines.near t.positions.near
near_of t = record {
  lines_are_table = t.near_lines;
  lines_end = t.near_lines_end;
  positions_are_table = t.near_positions;
  positions_end = t.near_positions_end;
  inverse = t.near_inverse;
  filled = t.near_filled;
  within = t.near_within;
  below = t.near_below;
}

pub far_of : (t : LineTable) → AreFar t.limit t.base (through t.lines.far) (back_through t.positions.far)
far_of t = record { inverse = t.far_inverse; filled = t.far_filled; below = t.far_below; fresh = t.far_fresh }

pub leveled_of : (t : LineTable) → AreLeveled t.limit t.base t.next t.lines t.positions
leveled_of t = record { first = t.first; older = t.older; low = t.low; near = near_of t; far = far_of t; read = t.read; read_back = t.read_back }

-- a table that is new: its lines are at the positions of their numbers
itself : AreInverse Some Some
itself x y = (λ h. ap (λ z. Some z) (sym (same_Some x y h)), λ h. ap (λ z. Some z) (sym (same_Some y x h)))

none_far : (limit : ℕ) → AreFar limit limit Some Some
none_far limit = record {
  inverse = itself;
  filled = λ y lt. refl;
  below = λ y l lt h. let same : y ≡ l = same_Some y l h in omega arith;
  fresh = λ y le lt. let same : y ≡ limit + (y - limit) = omega arith in ap (λ z. Some z) same;
}

module _ (limit : ℕ) (lines positions : Leveled) (narrow : limit < 4294967296) (near : lines.near ≡ whole limit ∷ []) (near_back : positions.near ≡ whole limit ∷ []) (far : lines.far ≡ []) (far_back : positions.far ≡ [])
    (read : IsRead lines) (read_back : IsReadBack positions) where
  pub new_levels : AreLeveled limit limit limit lines positions
  new_levels = record {
    first = omega arith;
    older = omega arith;
    low = omega arith;
    near = subst (λ x. AreLines limit (limit + (limit - limit)) x positions.near) (sym near)
        (subst (λ x. AreLines limit (limit + (limit - limit)) (whole limit ∷ []) x) (sym near_back) (whole_lines limit (limit + (limit - limit)) narrow (omega arith)));
    far = subst (λ x. AreFar limit limit (through x) (back_through positions.far)) (sym far) (subst (λ x. AreFar limit limit Some (back_through x)) (sym far_back) (none_far limit));
    read = read;
    read_back = read_back;
  }

  whole_first : (x : ℕ) → option_and_then Some (image (whole limit ∷ []) x) ≡ first_line limit x
  whole_first x = grind (arith, nat_tests)

  pub new_line : (x : ℕ) → image lines.items x ≡ first_line limit x
  new_line x = read x ∙ ap (λ fs. option_and_then (through fs) (image lines.near x)) far ∙ ap (λ n. option_and_then Some (image n x)) near ∙ whole_first x

  whole_there : (x : ℕ) → image (whole limit ∷ []) x ≡ first_line limit x
  whole_there x = grind (arith, nat_tests)

  pub new_position : (x : ℕ) → image positions.items x ≡ first_line limit x
  new_position x = read_back x ∙ ap (λ fs. option_and_then (image positions.near) (back_through fs x)) far_back ∙ ap (λ n. image n x) near_back ∙ whole_there x

-- lines that took a turn, all of which the near level takes
module _ (t : LineTable) (turn : Turn) (room : ℕ) (lines positions : Leveled) (i : IsTurn turn) (end : turn.end ≡ t.limit + room) (sum : t.next + room ≤ 9223372036854775808)
    (near : lines.near ≡ new_lines t.limit (near_next t) room turn t.lines.near) (near_back : positions.near ≡ new_positions t.limit (near_next t) room turn t.positions.near)
    (far : lines.far ≡ t.lines.far) (far_back : positions.far ≡ t.positions.far) (read : IsRead lines) (read_back : IsReadBack positions) where
  near_sum : near_next t + room < 18446744073709551616
  near_sum = let a = t.first in let b = t.older in omega arith

  pub turned_levels : AreLeveled t.limit t.base (t.next + room) lines positions
  turned_levels = record {
    first = t.first;
    older = let b = t.older in omega arith;
    low = sum;
    near = owed t.limit (near_next t) room t.lines.near t.positions.near turn (near_of t) i t.narrow end near_sum (t.limit + (t.next + room - t.base)) lines.near positions.near (let b = t.older in omega arith) near near_back;
    far = subst (λ x. AreFar t.limit t.base (through x) (back_through positions.far)) (sym far) (subst (λ x. AreFar t.limit t.base (through t.lines.far) (back_through x)) (sym far_back) (far_of t));
    read = read;
    read_back = read_back;
  }

  reads : (x : ℕ) → image lines.items x ≡ option_and_then (through t.lines.far) (image lines.near x)
  reads x = read x ∙ ap (λ fs. option_and_then (through fs) (image lines.near x)) far

  pub turned_kept : (q p : ℕ) → q < t.limit → image (swaps (turned_back turn)) q ≡ Some p → p < t.limit → image lines.items q ≡ image t.lines.items p
  turned_kept q p lt h le =
      reads q
      ∙ ap (option_and_then (through t.lines.far)) (made_kept t.limit (near_next t) room t.lines.near t.positions.near turn (near_of t) i t.narrow end near_sum lines.near near q p lt h le)
      ∙ sym (t.read p)

  late : (l : ℕ) (r : Option ℕ) → r ≡ Some l → t.next ≤ l → IsSomeAnd r (λ l. t.next ≤ l)
  late l r e le = rw e le

  pub turned_fresh : (q p : ℕ) → q < t.limit → image (swaps (turned_back turn)) q ≡ Some p → t.limit ≤ p → IsSomeAnd (image lines.items q) (λ l. t.next ≤ l)
  turned_fresh q p lt h le =
      let short = swaps_within (turned_back turn) q p (back_is_turn turn i) h in
      let a = t.first in
      let b = t.older in
      late (t.base + (near_next t + (p - t.limit) - t.limit)) (image lines.items q)
      (reads q
      ∙ ap (option_and_then (through t.lines.far)) (ap (λ n. image n q) near ∙ follows_fresh t.limit (near_next t) room t.lines.near t.positions.near turn (near_of t) i t.narrow end near_sum q p lt h le)
      ∙ t.far_fresh (near_next t + (p - t.limit)) (omega arith) (omega arith))
      (omega arith)

-- the near level as the first of the farther ones
module _ (t : LineTable) (lines positions : Leveled) (near : lines.near ≡ whole t.limit ∷ []) (near_back : positions.near ≡ whole t.limit ∷ [])
    (far : LeadOn t lines.far) (far_back : LeadBack t positions.far) (read : IsRead lines) (read_back : IsReadBack positions) where
  pub deepened_levels : AreLeveled t.limit t.next t.next lines positions
  deepened_levels = record {
    first = let a = t.first in let b = t.older in omega arith;
    older = omega arith;
    low = t.low;
    near = subst (λ x. AreLines t.limit (t.limit + (t.next - t.next)) x positions.near) (sym near)
        (subst (λ x. AreLines t.limit (t.limit + (t.next - t.next)) (whole t.limit ∷ []) x) (sym near_back) (whole_lines t.limit (t.limit + (t.next - t.next)) t.narrow (omega arith)));
    far = same_far t.limit t.next _ _ (through lines.far) (back_through positions.far)
        (are_far t.limit t.base t.next t.lines.near t.positions.near (through t.lines.far) (back_through t.positions.far) t.first t.older t.low (near_of t) (far_of t)) far far_back;
    read = read;
    read_back = read_back;
  }

  lead_same : (x : ℕ) → x < t.limit → through lines.far x ≡ image t.lines.items x
  lead_same x lt =
      far x
      ∙ onward_kept t.limit t.base t.next t.lines.near t.positions.near (through t.lines.far) (back_through t.positions.far) t.first t.older t.low (near_of t) (far_of t) x lt
      ∙ sym (t.read x)

  pub deepened_line : (x : ℕ) → image lines.items x ≡ image t.lines.items x
  deepened_line x =
      read x ∙ ap (λ n. option_and_then (through lines.far) (image n x)) near ∙ behind_whole t.limit (through lines.far) (image t.lines.items) lead_same t.within x

  pub deepened_position : (x : ℕ) → image positions.items x ≡ image t.positions.items x
  deepened_position =
      same_back (image t.lines.items) (image t.positions.items) (image lines.items) (image positions.items) t.inverse (all_inverse t.limit t.next t.next lines positions deepened_levels) deepened_line

-- lines that are the same took the same turn
pub same_turned : (turn : Turn) (old mid new : LineTable) → IsTurned turn old mid → AreSame new mid → IsTurned turn old new
same_turned turn old mid new h same = record {
  limit = same.0 ∙ h.limit;
  next = let e = same.1 in let le = h.next in omega arith;
  kept = λ q p lt e le. same.2 q ∙ h.kept q p lt e le;
  fresh = λ q p lt e le. subst (λ r. IsSomeAnd r (λ l. old.next ≤ l)) (sym (same.2 q)) (h.fresh q p lt e le);
}
