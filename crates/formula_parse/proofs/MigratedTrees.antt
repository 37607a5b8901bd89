-- Tokens that spell a tree by the rows that a sheet had spell, as they become, the tree with its names migrated. Serves the
-- law of migration.
use Rattle.std.proofs.Common.{◌≡◌, sym, ◌∙◌, ap, subst, refl, ℕ, Bool, true, false, inl, inr, List, [], ◌∷◌, ◌++◌, Option, Some, None, Result, Ok, Err, IfOk}
use Rattle.std.specs.Prelude.{nat_lt, if◌then◌else◌}
use Rattle.std.proofs.lemmas.Bool.{cond-false}
use Rattle.cell_addr.specs.declared.place.TheConstants.{ROWS}
use Rattle.formula_tree.specs.declared.address.Address.{Address}
use Rattle.formula_tree.specs.declared.address.End.{End}
use Rattle.formula_tree.specs.declared.reference.Corner.{Corner}
use Rattle.formula_tree.specs.Token.{Token}
use Rattle.formula_tree.specs.Token as tok
use Rattle.formula_tree.specs.Level.{op_of}
use Rattle.formula_tree.specs.Term.{Term, Terms}
use Rattle.formula_tree.specs.Whole.{whole_term}
use Rattle.formula_tree.specs.Grammar.{SpellsText, LeafAt, SpellsAt, SpellsAllAt, cell_on, area_on, end_of, whole_on, a_number, a_text, a_truth, a_fault, a_name, a_corner, a_range, a_sheet_corner, a_sheet_range, a_whole, a_sheet_whole, lower, between, followed, before, leaf, inside, alone, called, last, more}
use Rattle.formula_parse.specs.Migrated.{SpellsMigrated, is_gap_word, migrated, migrated_name, migrated_tree, migrated_trees}
use Rattle.formula_parse.specs.declared.migration.TheConstants.{OLD_ROWS}
use Rattle.formula_parse.proofs.GapWords.{old_end, old_end-no_gap}
use Rattle.formula_parse.proofs.MigratedTokens.{Become, Becomes, text_goes}

-- references, blocks and whole ranges have no names
cell-stays : (sheet : Option ℕ) (a : Address) → migrated_tree (cell_on sheet a) ≡ cell_on sheet a
cell-stays None a = refl
cell-stays (Some s) a = refl

area-stays : (sheet : Option ℕ) (a b : Address) → migrated_tree (area_on sheet a b) ≡ area_on sheet a b
area-stays None a b = refl
area-stays (Some s) a b = refl

whole-stays : (sheet : Option ℕ) (a b : End) → migrated_tree (whole_on sheet a b) ≡ whole_on sheet a b
whole-stays None a b = refl
whole-stays (Some s) a b = by (nat_lt b.line a.line)
  where
    by : (t : Bool) → migrated_tree (if t
        then whole_term (record { sheet = s; axis = a.axis; first = b.line; last = a.line }) b.fixed a.fixed
        else whole_term (record { sheet = s; axis = a.axis; first = a.line; last = b.line }) a.fixed b.fixed) ≡ (if t
        then whole_term (record { sheet = s; axis = a.axis; first = b.line; last = a.line }) b.fixed a.fixed
        else whole_term (record { sheet = s; axis = a.axis; first = a.line; last = b.line }) a.fixed b.fixed)
    by true = refl
    by false = refl

-- an end of a whole range stays one
end-goes : (x y : Token) (a : End) → Becomes x y → end_of OLD_ROWS x ≡ Some a → end_of ROWS y ≡ Some a
end-goes (tok.Number w) y a b e = rw b (old_end w a e)
end-goes (tok.Name w) y a b e =
    let same : migrated_name w ≡ w = cond-false (is_gap_word w) (w ++ 95 ∷ []) w (old_end-no_gap w a e) in
    rw (b, same) (old_end w a e)
end-goes (tok.Other w) y a (inl b) e = rw b (old_end w a e)
end-goes (tok.Other w) y a (inr b) e =
    let same : migrated_name w ≡ w = cond-false (is_gap_word w) (w ++ 95 ∷ []) w (old_end-no_gap w a e) in
    rw (b, same) (old_end w a e)
end-goes (tok.Text w) y a b e = cc
end-goes (tok.Truth t) y a b e = cc
end-goes (tok.Fault f) y a b e = cc
end-goes (tok.Sheet w) y a b e = cc
end-goes (tok.Corner c) y a b e = cc
end-goes (tok.Word w) y a b e = cc
end-goes (tok.Operator o) y a b e = cc
end-goes tok.Percent y a b e = cc
end-goes tok.Colon y a b e = cc
end-goes tok.Comma y a b e = cc
end-goes tok.Open y a b e = cc
end-goes tok.Close y a b e = cc

-- a token that becomes itself, in front
front : (x : Token) → ((y : Token) → Becomes x y → y ≡ x) → (xs ys : List Token) → Become (x ∷ xs) ys → (rest : List Token) × (ys ≡ x ∷ rest) × Become xs rest
front x same xs [] b = absurd b
front x same xs (y ∷ ys) b = (ys, ap (λ t. t ∷ ys) (same y b.0), b.1)

-- an end of a whole range, in front
end-front : (x : Token) (a : End) (xs ys : List Token) → end_of OLD_ROWS x ≡ Some a → Become (x ∷ xs) ys → (y : Token) × (rest : List Token) × (ys ≡ y ∷ rest) × (end_of ROWS y ≡ Some a) × Become xs rest
end-front x a xs [] e b = absurd b
end-front x a xs (y ∷ ys) e b = (y, ys, refl, end-goes x y a b.0 e, b.1)

name-front : (w : List ℕ) (xs ys : List Token) → Become (tok.Name w ∷ xs) ys → (rest : List Token) × (ys ≡ tok.Name (migrated_name w) ∷ rest) × Become xs rest
name-front w xs [] b = absurd b
name-front w xs (y ∷ ys) b = (ys, ap (λ t. t ∷ ys) b.0, b.1)

-- a token and what stands behind it
joined : {xs ys zs : List Token} (x : Token) → zs ≡ x ∷ ys → ys ≡ xs → zs ≡ x ∷ xs
joined x e d = e ∙ ap (λ r. x ∷ r) d

-- the tokens spell the migrated tree, and what follows it is what followed the old one
module _ (home : ℕ) (find : List ℕ → Option ℕ) where
  leaf-as : {xs ys : List Token} {t u : Term Corner} {zs : List Token} → ys ≡ xs → u ≡ t → LeafAt ROWS home find xs t zs → LeafAt ROWS home find ys u zs
  leaf-as {xs = xs} {ys = ys} {t = t} {u = u} {zs = zs} e d l = subst (λ x. LeafAt ROWS home find x u zs) (sym e) (subst (λ y. LeafAt ROWS home find xs y zs) (sym d) l)

  spelt-as : {k : ℕ} {xs ys : List Token} {t : Term Corner} {zs : List Token} → ys ≡ xs → SpellsAt ROWS home find k xs t zs → SpellsAt ROWS home find k ys t zs
  spelt-as {k = k} {xs = xs} {ys = ys} {t = t} {zs = zs} e s = subst (λ x. SpellsAt ROWS home find k x t zs) (sym e) s

  abbrev LeafGoes : List Token → Term Corner → List Token → Type 0
  LeafGoes ys t zs = (rest : List Token) × Become zs rest × LeafAt ROWS home find ys (migrated_tree t) rest

  leaf-goes : {xs : List Token} {t : Term Corner} {zs : List Token} → LeafAt OLD_ROWS home find xs t zs → (ys : List Token) → Become xs ys → LeafGoes ys t zs
  leaf-goes (a_number {w = w} {zs = zs} n) ys b = let f = front (tok.Number w) (λ y e. e) zs ys b in (f.0, f.2, leaf-as f.1 refl (a_number n))
  leaf-goes (a_text {w = w} {zs = zs}) ys b = let f = front (tok.Text w) (λ y e. e) zs ys b in (f.0, f.2, leaf-as f.1 refl a_text)
  leaf-goes (a_truth {b = t} {zs = zs}) ys b = let f = front (tok.Truth t) (λ y e. e) zs ys b in (f.0, f.2, leaf-as f.1 refl a_truth)
  leaf-goes (a_fault {f = k} {zs = zs}) ys b = let f = front (tok.Fault k) (λ y e. e) zs ys b in (f.0, f.2, leaf-as f.1 refl a_fault)
  leaf-goes (a_name {w = w} {zs = zs}) ys b = let f = name-front w zs ys b in (f.0, f.2, leaf-as f.1 refl a_name)
  leaf-goes (a_corner {a = a} {zs = zs}) ys b = let f = front (tok.Corner a) (λ y e. e) zs ys b in (f.0, f.2, leaf-as f.1 (cell-stays (Some home) a) a_corner)
  leaf-goes (a_range {a = a} {b = d} {zs = zs}) ys b =
      let f = front (tok.Corner a) (λ y e. e) (tok.Colon ∷ tok.Corner d ∷ zs) ys b in
      let g = front tok.Colon (λ y e. e) (tok.Corner d ∷ zs) f.0 f.2 in
      let h = front (tok.Corner d) (λ y e. e) zs g.0 g.2 in
      (h.0, h.2, leaf-as (joined (tok.Corner a) f.1 (joined tok.Colon g.1 h.1)) (area-stays (Some home) a d) a_range)
  leaf-goes (a_sheet_corner {s = s} {a = a} {zs = zs}) ys b =
      let f = front (tok.Sheet s) (λ y e. e) (tok.Corner a ∷ zs) ys b in
      let g = front (tok.Corner a) (λ y e. e) zs f.0 f.2 in
      (g.0, g.2, leaf-as (joined (tok.Sheet s) f.1 g.1) (cell-stays (find s) a) a_sheet_corner)
  leaf-goes (a_sheet_range {s = s} {a = a} {b = d} {zs = zs}) ys b =
      let k = front (tok.Sheet s) (λ y e. e) (tok.Corner a ∷ tok.Colon ∷ tok.Corner d ∷ zs) ys b in
      let f = front (tok.Corner a) (λ y e. e) (tok.Colon ∷ tok.Corner d ∷ zs) k.0 k.2 in
      let g = front tok.Colon (λ y e. e) (tok.Corner d ∷ zs) f.0 f.2 in
      let h = front (tok.Corner d) (λ y e. e) zs g.0 g.2 in
      (h.0, h.2, leaf-as (joined (tok.Sheet s) k.1 (joined (tok.Corner a) f.1 (joined tok.Colon g.1 h.1))) (area-stays (find s) a d) a_sheet_range)
  leaf-goes (a_whole {x = x} {y = y} {a = a} {b = d} {zs = zs} e g same) ys b =
      let f = end-front x a (tok.Colon ∷ y ∷ zs) ys e b in
      let k = front tok.Colon (λ t e. e) (y ∷ zs) f.1 f.4 in
      let h = end-front y d zs k.0 g k.2 in
      (h.1, h.4, leaf-as (joined f.0 f.2 (joined tok.Colon k.1 h.2)) (whole-stays (Some home) a d) (a_whole f.3 h.3 same))
  leaf-goes (a_sheet_whole {s = s} {x = x} {y = y} {a = a} {b = d} {zs = zs} e g same) ys b =
      let n = front (tok.Sheet s) (λ t e. e) (x ∷ tok.Colon ∷ y ∷ zs) ys b in
      let f = end-front x a (tok.Colon ∷ y ∷ zs) n.0 e n.2 in
      let k = front tok.Colon (λ t e. e) (y ∷ zs) f.1 f.4 in
      let h = end-front y d zs k.0 g k.2 in
      (h.1, h.4, leaf-as (joined (tok.Sheet s) n.1 (joined f.0 f.2 (joined tok.Colon k.1 h.2))) (whole-stays (find s) a d) (a_sheet_whole f.3 h.3 same))

  abbrev TreeGoes : ℕ → List Token → Term Corner → List Token → Type 0
  TreeGoes k ys t zs = (rest : List Token) × Become zs rest × SpellsAt ROWS home find k ys (migrated_tree t) rest

  abbrev AllGo : List Token → Terms Corner → List Token → Type 0
  AllGo ys ts zs = (rest : List Token) × Become zs rest × SpellsAllAt ROWS home find ys (migrated_trees ts) rest

  mutual
    pub tree-goes : {k : ℕ} {xs : List Token} {t : Term Corner} {zs : List Token} → SpellsAt OLD_ROWS home find k xs t zs → (ys : List Token) → Become xs ys → TreeGoes k ys t zs
    tree-goes (lower s) ys b = let p = tree-goes s ys b in (p.0, p.1, lower p.2)
    tree-goes (between o {ys = ms} l r) ys b =
        let p = tree-goes l ys b in
        let f = front (tok.Operator o) (λ y e. e) ms p.0 p.1 in
        let q = tree-goes r f.0 f.2 in
        (q.0, q.1, between o (rw f.1 at p.2) q.2)
    tree-goes (followed {zs = zs} s) ys b =
        let p = tree-goes s ys b in
        let f = front tok.Percent (λ y e. e) zs p.0 p.1 in
        (f.0, f.2, followed (rw f.1 at p.2))
    tree-goes (before s {xs = xs} t) ys b =
        let f = front (tok.Operator (op_of s)) (λ y e. e) xs ys b in
        let p = tree-goes t f.0 f.2 in
        (p.0, p.1, spelt-as f.1 (before s p.2))
    tree-goes (leaf l) ys b = let p = leaf-goes l ys b in (p.0, p.1, leaf p.2)
    tree-goes (inside {xs = xs} {zs = zs} s) ys b =
        let f = front tok.Open (λ y e. e) xs ys b in
        let p = tree-goes s f.0 f.2 in
        let g = front tok.Close (λ y e. e) zs p.0 p.1 in
        (g.0, g.2, spelt-as f.1 (inside (rw g.1 at p.2)))
    tree-goes (alone {w = w} {zs = zs}) ys b =
        let f = front (tok.Word w) (λ y e. e) (tok.Open ∷ tok.Close ∷ zs) ys b in
        let g = front tok.Open (λ y e. e) (tok.Close ∷ zs) f.0 f.2 in
        let h = front tok.Close (λ y e. e) zs g.0 g.2 in
        (h.0, h.2, spelt-as (joined (tok.Word w) f.1 (joined tok.Open g.1 h.1)) alone)
    tree-goes (called {w = w} {xs = xs} s) ys b =
        let f = front (tok.Word w) (λ y e. e) (tok.Open ∷ xs) ys b in
        let g = front tok.Open (λ y e. e) xs f.0 f.2 in
        let p = all-go s g.0 g.2 in
        (p.0, p.1, spelt-as (joined (tok.Word w) f.1 g.1) (called p.2))

    all-go : {xs : List Token} {ts : Terms Corner} {zs : List Token} → SpellsAllAt OLD_ROWS home find xs ts zs → (ys : List Token) → Become xs ys → AllGo ys ts zs
    all-go (last {zs = zs} s) ys b =
        let p = tree-goes s ys b in
        let f = front tok.Close (λ y e. e) zs p.0 p.1 in
        (f.0, f.2, last (rw f.1 at p.2))
    all-go (more {ys = ms} s rest) ys b =
        let p = tree-goes s ys b in
        let f = front tok.Comma (λ y e. e) ms p.0 p.1 in
        let q = all-go rest f.0 f.2 in
        (q.0, q.1, more (rw f.1 at p.2) q.2)

-- a text that spelt a tree by the rows that a sheet had spells, once it is migrated, that tree with its names migrated
none-behind : (rest : List Token) → Become [] rest → rest ≡ []
none-behind [] b = refl
none-behind (y ∷ ys) b = absurd b

pub migrated-spells : (old : List ℕ) → SpellsMigrated old (migrated old)
migrated-spells [] home find t s = absurd s
migrated-spells (c ∷ cs) home find t (tokens, (is, split, spelt)) =
    let g = text_goes cs tokens split in
    let p = tree-goes home find spelt g.others g.become in
    let whole : SpellsAt ROWS home find 0 g.others (migrated_tree t) [] = rw (none-behind p.0 p.1) at p.2 in
    let text : migrated (c ∷ cs) ≡ c ∷ g.text = rw is (rw g.made refl) in
    subst (λ x. SpellsText home find x (migrated_tree t)) (sym text) (g.others, (is, g.lexes, whole))

pub copy-spells : {E : Type 0} (r : Result (List ℕ) E) (old : List ℕ) → migrated old ≡ old → IfOk r (λ copy. copy ≡ old) → IfOk r (λ new. SpellsMigrated old new)
copy-spells (Ok x) old same e = subst (λ new. SpellsMigrated old new) (same ∙ sym e) (migrated-spells old)
copy-spells (Err x) old same e = tt
