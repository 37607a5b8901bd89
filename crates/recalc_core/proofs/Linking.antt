-- Links stay the needs of a workbook where a node with another formula is linked anew. Serves the law.
use Rattle.std.proofs.Common.{◌≡◌, ◌≢◌, ◌∙◌, sym, ap, refl, subst, ℕ, Bool, true, false, cond, ◌==◌, List, get_or, Option, Some, None, ⊎_elim, eqb-true, eq-eqb, ◌<◌, ◌⊎◌, inl, inr, length, arith}
use Rattle.std.specs.Prelude.{IsTrue, slice_get, ◌↔◌}
use Rattle.std.specs.List.{AllPairs, list_any}
use Rattle.std.proofs.lemmas.Bool.{cases_lt, false≢true}
use Rattle.std.proofs.lemmas.Option.{get_or_from_slice_get, slice_get_within}
use Rattle.cell_addr.specs.declared.place.TheConstants.{NO_SHEET}
use Rattle.formula_tree.specs.Links.{names_in}
use Rattle.formula_tree.specs.Reference.{sheet_of}
use Rattle.formula_tree.specs.Term.{Term}
use Rattle.formula_tree.specs.declared.reference.Corner.{Corner}
use Rattle.book_values.specs.Names.{Key, Names, found, is_found}
use Rattle.book_values.specs.Workbook as book
use Rattle.book_values.specs.Workbook.{Workbook, home_of, mentions_node, tree_at}
use Rattle.dep_graph.specs.Graph.{AreLinked}
use Rattle.dep_graph.specs.Needs.{Links}
use Rattle.dep_graph.specs.Nodes.{has, same_node}
use Rattle.dep_graph.specs.declared.node.Node.{Node}
use Rattle.dep_graph.specs.declared.node.Node.TheVariants.{Cell, Name, Range, Whole}
use Rattle.dep_graph.specs.internal.Hashed.{own_node, same_nodes}
use Rattle.recalc_core.specs.Laws.{DifferAt, LinkingHolds}
use Rattle.recalc_core.specs.Links.{AreLinksFor, AreLinksOf, IsLinkAt, IsLinkOf}
use Rattle.recalc_core.specs.Nodes.{AreNumbered, name_at, node_at, scope_at}
use Rattle.recalc_core.proofs.Bridge.{none_some, same_some}

-- ---- one node for each place and name

-- no two numbers have one scope
one_scope : (s t : ℕ) → scope_at s ≡ scope_at t → s ≡ t
one_scope s t e = by (s == NO_SHEET) (t == NO_SHEET) refl refl
  where
    by : (m n : Bool) → (s == NO_SHEET) ≡ m → (t == NO_SHEET) ≡ n → s ≡ t
    by true true p q = eqb-true s NO_SHEET p ∙ sym (eqb-true t NO_SHEET q)
    by true false p q = absurd (none_some t (sym (ap (λ m. cond m None (Some s)) p) ∙ e ∙ ap (λ m. cond m None (Some t)) q))
    by false true p q = absurd (none_some s (sym (ap (λ m. cond m None (Some t)) q) ∙ sym e ∙ ap (λ m. cond m None (Some s)) p))
    by false false p q = same_some s t (sym (ap (λ m. cond m None (Some s)) p) ∙ e ∙ ap (λ m. cond m None (Some t)) q)

-- no word has two numbers
one_number : (words : List (List ℕ)) (m n : ℕ) (word : List ℕ) → AllPairs (λ v w. v ≢ w) words → slice_get words m ≡ Some word → slice_get words n ≡ Some word → m ≡ n
one_number words m n word once p q = by (m == n) refl
  where
    low : m < length words
    low = slice_get_within words m word p

    high : n < length words
    high = slice_get_within words n word q

    same : get_or words m word ≡ get_or words n word
    same = get_or_from_slice_get words m word word p ∙ sym (get_or_from_slice_get words n word word q)

    apart : (m ≢ n) → ⊥
    apart other = ⊎_elim
        (λ (less : m < n). once m n word less high same)
        (λ (more : n < m). once n m word more low (sym same))
        (less_or_more m n other)
      where
        less_or_more : (i j : ℕ) → (i ≢ j) → (i < j) ⊎ (j < i)
        less_or_more i j other = ⊎_elim (λ l. inl l) (λ g. inr (omega (arith, g, other))) (cases_lt i j)

    by : (t : Bool) → (m == n) ≡ t → m ≡ n
    by true e = eqb-true m n e
    by false e = absurd (apart (λ is. false≢true (sym e ∙ eq-eqb m n is)))

key_scope : (k l : Key) → book.name k ≡ book.name l → k ≡ l
key_scope k l e = cc

pub one_node : (words : List (List ℕ)) (a c : Node) (x : book.Node) → AllPairs (λ v w. v ≢ w) words → node_at words a ≡ Some x → node_at words c ≡ Some x → a ≡ c
one_node words (Cell p) (Cell q) x once at to = cc
one_node words (Cell p) (Name scope word) x once at to = by (slice_get words word) refl
  where
    by : (o : Option (List ℕ)) → slice_get words word ≡ o → Cell p ≡ Name scope word
    by None e = absurd (none_some x (sym (ap (name_at scope) e) ∙ to))
    by (Some w) e = absurd (apart (same_some _ _ (at ∙ sym to ∙ ap (name_at scope) e)))
      where
        apart : book.place p ≡ book.name (record { scope = scope_at scope; word = w }) → ⊥
        apart h = cc
one_node words (Cell p) (Range block) x once at to = absurd (none_some x to)
one_node words (Cell p) (Whole w) x once at to = absurd (none_some x to)
one_node words (Name scope word) (Cell q) x once at to = by (slice_get words word) refl
  where
    by : (o : Option (List ℕ)) → slice_get words word ≡ o → Name scope word ≡ Cell q
    by None e = absurd (none_some x (sym (ap (name_at scope) e) ∙ at))
    by (Some w) e = absurd (apart (same_some _ _ (to ∙ sym at ∙ ap (name_at scope) e)))
      where
        apart : book.place q ≡ book.name (record { scope = scope_at scope; word = w }) → ⊥
        apart h = cc
one_node words (Name s v) (Name t w) x once at to = by (slice_get words v) (slice_get words w) refl refl
  where
    by : (m n : Option (List ℕ)) → slice_get words v ≡ m → slice_get words w ≡ n → Name s v ≡ Name t w
    by None n p q = absurd (none_some x (sym (ap (name_at s) p) ∙ at))
    by (Some m) None p q = absurd (none_some x (sym (ap (name_at t) q) ∙ to))
    by (Some m) (Some n) p q =
        let one : record { scope = scope_at s; word = m } ≡ record { scope = scope_at t; word = n } =
        key_scope (record { scope = scope_at s; word = m }) (record { scope = scope_at t; word = n })
        (same_some _ _ (sym (ap (name_at s) p) ∙ at ∙ sym to ∙ ap (name_at t) q)) in
        let scope = one_scope s t (ap (λ (k : Key). k.scope) one) in
        let number = one_number words v w m once p (q ∙ ap Some (sym (ap (λ (k : Key). k.word) one))) in
        λ i. Name (scope i) (number i)
one_node words (Name scope word) (Range block) x once at to = absurd (none_some x to)
one_node words (Name scope word) (Whole w) x once at to = absurd (none_some x to)
one_node words (Range block) c x once at to = absurd (none_some x at)
one_node words (Whole w) c x once at to = absurd (none_some x at)

-- ---- the law

-- a formula is linked to the same nodes where each word finds the same
pub links_alike : (words : List (List ℕ)) (names others : Names) (sheet : ℕ) (t : Term Corner) (c : Node)
    → ((word : List ℕ) → found others word sheet ≡ found names word sheet) → IsLinkOf words names sheet t c → IsLinkOf words others sheet t c
links_alike words names others sheet t (Cell p) finds h = h
links_alike words names others sheet t (Range block) finds h = h
links_alike words names others sheet t (Whole w) finds h = h
links_alike words names others sheet t (Name scope word) finds (key, at, h) =
    (key, at, (λ i. list_any (λ w. is_found (finds w i) key) (names_in t)) ∙ h)

module _ (b c : Workbook) (words : List (List ℕ)) (old new : Links) (a : Node) (x : book.Node) (needs : List Node) (good : AreLinksOf b words old) (differ : DifferAt b c x)
    (numbered : AreNumbered words c.names) (at : node_at words a ≡ Some x) (exact : AreLinksFor words c.names (sheet_of (home_of x)) (tree_at c x) needs) (linked : AreLinked a needs old new) where
  here_only : (o : Option (Term Corner)) → tree_at c x ≡ o → AreLinksFor words c.names (sheet_of (home_of x)) o needs → (d : Node) → IsTrue (has d needs) → IsLinkAt c words a d
  here_only None is for d h = absurd (for d h)
  here_only (Some t) is for d h = (x, t, at, is, (for d).0 h)

  here_all : (t : Term Corner) → tree_at c x ≡ Some t → AreLinksFor words c.names (sheet_of (home_of x)) (Some t) needs → (d : Node) → IsLinkOf words c.names (sheet_of (home_of x)) t d → IsTrue (has d needs)
  here_all t is for d h = (for d).1 h

  here : (d : Node) → IsTrue (has d needs) ↔ IsLinkAt c words a d
  here d = (here_only (tree_at c x) refl exact d, back)
    where
      back : IsLinkAt c words a d → IsTrue (has d needs)
      back (y, t, to, is, h) =
          let same : y ≡ x = same_some y x (sym to ∙ at) in
          let tree : tree_at c x ≡ Some t = ap (tree_at c) (sym same) ∙ is in
          here_all t tree (subst (λ o. AreLinksFor words c.names (sheet_of (home_of x)) o needs) tree exact) d (subst (λ z. IsLinkOf words c.names (sheet_of (home_of z)) t d) same h)

  elsewhere : (e d : Node) → ¬ (e ≡ a) → IsTrue (has d (old e)) ↔ IsLinkAt c words e d
  elsewhere e d apart = (forth, back)
    where
      other : (y : book.Node) → node_at words e ≡ Some y → ¬ (y ≡ x)
      other y to same = apart (one_node words e a x numbered.once (to ∙ ap Some same) at)

      forth : IsTrue (has d (old e)) → IsLinkAt c words e d
      forth h =
          let (y, t, to, is, link) = (good.exact e d).0 h in
          (y, t, to, differ.trees y (other y to) ∙ is, links_alike words b.names c.names (sheet_of (home_of y)) t d (λ word. differ.finds word (sheet_of (home_of y))) link)

      back : IsLinkAt c words e d → IsTrue (has d (old e))
      back (y, t, to, is, link) =
          (good.exact e d).1 (
            y,
            t,
            to,
            sym (differ.trees y (other y to)) ∙ is,
            links_alike words c.names b.names (sheet_of (home_of y)) t d (λ word. sym (differ.finds word (sheet_of (home_of y)))) link,
          )

  each : (e d : Node) → IsTrue (has d (new e)) ↔ IsLinkAt c words e d
  each e d = by (same_node e a) refl
    where
      by : (m : Bool) → same_node e a ≡ m → IsTrue (has d (new e)) ↔ IsLinkAt c words e d
      by true is =
          let same = same_nodes e a is in
          subst (λ ns. IsTrue (has d ns) ↔ IsLinkAt c words e d) (sym (linked e ∙ ap (λ m. cond m needs (old e)) is))
          (subst (λ n. IsTrue (has d needs) ↔ IsLinkAt c words n d) (sym same) (here d))
      by false isnt =
          subst (λ ns. IsTrue (has d ns) ↔ IsLinkAt c words e d) (sym (linked e ∙ ap (λ m. cond m needs (old e)) isnt))
          (elsewhere e d (λ same. false≢true (sym isnt ∙ ap (λ n. same_node n a) same ∙ own_node a)))

pub linking_holds : LinkingHolds
linking_holds b c words old new a x needs good differ numbered at exact linked =
    record { numbered = numbered; exact = each b c words old new a x needs good differ numbered at exact linked }
