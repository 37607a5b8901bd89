-- A finite map by the entries of a `BTreeMap`: look-ups, changes at one key, and the entries in order.
-- Serves the structs that hold such a map and stand for a finite map.
use Rattle.std.proofs.Common.{◌≡◌, ◌∙◌, sym, ap, refl, arith, cond, length, List, [], ◌∷◌, Some, None}
use Rattle.std.specs.declared.cmp.Ordering.{Ordering}
use Rattle.std.specs.Ordering.{is_eq, eq_by_cmp}
use Rattle.std.specs.Cmp.{IsTotalOrder, eq_by_cmp_equiv}
use Rattle.std.specs.List.Sorted.{IsStrictlySortedBy}
use Rattle.std.specs.Map.{lookup, keys_of}
use Rattle.std.specs.BTreeMap.{is_at}
use Rattle.std.specs.FinMap.{find, IsAntisymmetric, from_entries, empty, entries, get, insert, remove, same_map, get-from_entries, get-insert, get-remove, entries-insert, len-entries, len-empty}
use Rattle.std.specs.FinMap.Entries.{put, by_order}

module _ {K X : Type 0} (R : K → K → Ordering) where
  -- a scan of the entries finds what the map has
  pub lookup-find : (q : K) (es : List (K × X)) → lookup (is_at (R q)) es ≡ find R q es
  lookup-find q [] = refl
  lookup-find q (e ∷ es) = ap (λ r. cond (is_eq (R q e.0)) (Some e.1) r) (lookup-find q es)

no-entries : {A : Type 0} (es : List A) → length es ≡ 0 → es ≡ []
no-entries [] e = refl
no-entries (x ∷ es) e = absurd (omega arith)

pub entries-empty : {K : Type 0} (R : K → K → Ordering) (X : Type 0) → entries (empty {X = X} {R = R}) ≡ []
entries-empty R X = no-entries _ (sym (len-entries (empty {X = X} {R = R})) ∙ len-empty R X)

module _ {K X : Type 0} {R : K → K → Ordering} (o : IsTotalOrder R) where
  pub lookup-from_entries : (es : List (K × X)) (q : K) → lookup (is_at (R q)) es ≡ get (from_entries {R = R} es) q
  lookup-from_entries es q = lookup-find R q es ∙ sym (get-from_entries o es q)

  -- entries that were changed at one key are those of the map with the key
  pub from_entries-insert : IsAntisymmetric R → (old new : List (K × X)) (k : K) (v : X) → ((q : K) → lookup (is_at (R q)) new ≡ cond (is_at (R k) q) (Some v) (lookup (is_at (R q)) old))
      → from_entries {R = R} new ≡ insert (from_entries {R = R} old) k v
  from_entries-insert same old new k v h = same_map o same _ _ (λ q.
      sym (lookup-from_entries new q) ∙ h q
      ∙ ap (λ b. cond b (Some v) (lookup (is_at (R q)) old)) ((eq_by_cmp_equiv o).symm k q)
      ∙ ap (λ r. cond (eq_by_cmp R q k) (Some v) r) (lookup-from_entries old q)
      ∙ sym (get-insert o (from_entries old) k v q))

  -- and without the key, where they were taken out at it
  pub from_entries-remove : IsAntisymmetric R → (old new : List (K × X)) (k : K) → ((q : K) → lookup (is_at (R q)) new ≡ cond (is_at (R k) q) None (lookup (is_at (R q)) old))
      → from_entries {R = R} new ≡ remove (from_entries {R = R} old) k
  from_entries-remove same old new k h = same_map o same _ _ (λ q.
      sym (lookup-from_entries new q) ∙ h q
      ∙ ap (λ b. cond b None (lookup (is_at (R q)) old)) ((eq_by_cmp_equiv o).symm k q)
      ∙ ap (λ r. cond (eq_by_cmp R q k) None r) (lookup-from_entries old q)
      ∙ sym (get-remove o (from_entries old) k q))

  put-first : (k : K) (v : X) (es : List (K × X)) → IsStrictlySortedBy R (k ∷ keys_of es) → put R k v es ≡ (k, v) ∷ es
  unfolding IsStrictlySortedBy
  put-first k v [] h = refl
  put-first k v (e ∷ es) h = ap (λ r. by_order r ((k, v) ∷ e ∷ es) ((e.0, v) ∷ es) (e ∷ put R k v es)) h.0.0

  -- the entries of a map that stand in the order of their keys are its entries
  pub entries-from_entries : (es : List (K × X)) → IsStrictlySortedBy R (keys_of es) → entries (from_entries {R = R} es) ≡ es
  unfolding IsStrictlySortedBy
  entries-from_entries [] h = entries-empty R X
  entries-from_entries (e ∷ es) h =
      entries-insert o (from_entries es) e.0 e.1 ∙ ap (put R e.0 e.1) (entries-from_entries es h.1)
      ∙ put-first e.0 e.1 es h
