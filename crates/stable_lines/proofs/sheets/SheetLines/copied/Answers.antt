use Rattle.std.proofs.Common.{◌≡◌, ◌∙◌, sym, ap, ℕ, List, Option, Some, None, MatchOption, IsSomeAnd, unwrap_or}
use Rattle.std.specs.BTreeMap.{is_at}
use Rattle.std.specs.List.{AllZip}
use Rattle.std.specs.Map.{lookup}
use Rattle.std.specs.Ordering.{nat_cmp}
use Rattle.std.proofs.lemmas.Map.Entries.{lookup_clone}
use Rattle.stable_lines.specs.Lines.{AreSame}
use Rattle.stable_lines.specs.declared.table.LineTable.{LineTable}
use Rattle.stable_lines.proofs.sheets.SheetLines.copied.Goals as goal

-- the table of a sheet in the copy, where it is kept and where it isn't
copied_or : (p q : LineTable) (r s : Option LineTable) → AreSame q p → MatchOption r (s ≡ None) (λ v. IsSomeAnd s (λ w. AreSame w v)) → AreSame (unwrap_or s q) (unwrap_or r p)
copied_or p q None None same h = same
copied_or p q None (Some w) same h = cc
copied_or p q (Some v) None same h = absurd h
copied_or p q (Some v) (Some w) same h = h

copied_table : (C : ℕ → ℕ → Type 0) → ((x y : ℕ) → C x y → y ≡ x) → (p q : LineTable) (es fs : List (ℕ × LineTable)) → AreSame q p → AllZip (λ a b. C a.0 b.0 × AreSame b.1 a.1) es fs → (sheet : ℕ)
    → AreSame (unwrap_or (lookup (is_at (nat_cmp sheet)) fs) q) (unwrap_or (lookup (is_at (nat_cmp sheet)) es) p)
copied_table C keys p q es fs same all sheet =
    copied_or p q _ _ same (lookup_clone C (λ v w. AreSame w v) (is_at (nat_cmp sheet)) (λ x y h. ap (is_at (nat_cmp sheet)) (keys x y h)) es fs all)

pub invariant_of-result : goal.invariant_of-result
invariant_of-result c = record {
  limits = λ sheet.
      let t = c.args.self.now in
      (copied_table _ (λ x y h. cc) t.plain c.in_ok-clone.field-0 t.edited.entries c.in_ok-clone-2.field-0.entries c.in_ok-clone.ensures.cases c.in_ok-clone-2.ensures.cases sheet).0
      ∙ t.limits sheet ∙ sym c.in_ok-clone.ensures.cases.0;
}

pub returns-clause-unchanged : goal.returns-clause-unchanged
returns-clause-unchanged c = λ sheet.
    let t = c.args.self.now in
    copied_table _ (λ x y h. cc) t.plain c.in_ok-clone.field-0 t.edited.entries c.in_ok-clone-2.field-0.entries c.in_ok-clone.ensures.cases c.in_ok-clone-2.ensures.cases sheet
