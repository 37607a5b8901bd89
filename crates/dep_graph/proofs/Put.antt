-- Filings put for few nodes, one after another. Serves the files.
use Rattle.std.proofs.Common.{◌≡◌, ◌∙◌, ◌⊎◌, inl, inr, sym, ap, arith, refl, subst, ℕ, ◌<◌, Bool, true, false, cond, ◌||◌, List, [], ◌∷◌, length, eqb, is_some, unwrap_or, Option, Some, None}
use Rattle.std.specs.BTreeMap as tree
use Rattle.std.specs.BTreeMap.{is_at}
use Rattle.std.specs.List.{All, AllByRecursion, list_any}
use Rattle.std.specs.Map.{lookup}
use Rattle.std.specs.Option.{option_map}
use Rattle.std.specs.Ordering.{nat_cmp}
use Rattle.std.specs.declared.alloc.Global.{Global}
use Rattle.std.specs.declared.vec.Vec.{Vec}
use Rattle.std.proofs.lemmas.Bool.{eq-eqb, eqb-true, false≢true, or_cases, or_left, or_right}
use Rattle.std.proofs.lemmas.Option.{same_Some}
use Rattle.std.proofs.lemmas.List.Elements.{recursion_from_All}
use Rattle.std.proofs.lemmas.Bool.Decides.{nat_tests}
use Rattle.dep_graph.specs.declared.files.Files.{Files}
use Rattle.dep_graph.specs.declared.serving.Serving.{Serving}
use Rattle.dep_graph.specs.internal.Files.{AreServing}
use Rattle.dep_graph.specs.internal.Filings.{AreLastServed, filing_of, filing_then, is_given, is_last, owner_at, serves_at, since}
use Rattle.dep_graph.proofs.FiledCells.{same_test}

abbrev Few : Type 0
Few = tree.BTreeMap ℕ (Option Serving)

abbrev Entry : Type 0
Entry = ℕ × Option Serving

abbrev firsts : Option Serving → Option ℕ
firsts = option_map (λ all. all.first)

abbrev Filings : Type 0
Filings = Vec (Option ℕ) Global

-- the number is one of those that are left
abbrev is_left : List Entry → ℕ → Bool
is_left rest n = list_any (λ e. is_at (nat_cmp n) e.0) rest

-- some are left, and the others are put
pub record ArePut (filings : Few) (old new : Filings) (rest : List Entry) : Type 0 where
  pub count : length new.items ≡ length old.items
  pub entries : AllByRecursion (λ e. tree.get nat_cmp filings e.0 ≡ Some e.1) rest
  pub put : (n : ℕ) → is_left rest n ≡ false → filing_of new n ≡ firsts (filing_then filings old n)

none_left : (a : ℕ) (es : List Entry) → is_left es a ≡ false → lookup (is_at (nat_cmp a)) es ≡ None
none_left a [] h = refl
none_left a (e ∷ es) h = by (is_at (nat_cmp a) e.0) (λ later. none_left a es later) h
  where
    by : (t : Bool) → (is_left es a ≡ false → lookup (is_at (nat_cmp a)) es ≡ None) → (t || is_left es a) ≡ false → cond t (Some e.1) (lookup (is_at (nat_cmp a)) es) ≡ None
    by true rest h = absurd (false≢true (sym h))
    by false rest h = rest h

back : (o : Option ℕ) → firsts (option_map since o) ≡ o
back (Some f) = refl
back None = refl

nothing : {A : Type 0} (x : A) → None ≡ Some x → ⊥
nothing x e = cc

-- what is last of some filings
last_is : (o : Option Serving) (f : ℕ) → is_last o f ≡ true → (all : Serving) × (o ≡ Some all) × (f ≡ all.last)
last_is (Some all) f h = (all, refl, eqb-true f all.last h)
last_is None f h = absurd (false≢true h)

pub put_first : (filings : Few) (old : Filings) (rest : List Entry) → rest ≡ filings.entries → All (λ e. tree.get nat_cmp filings e.0 ≡ Some e.1) filings.entries → ArePut filings old old rest
put_first filings old rest same all = record {
  count = refl;
  entries = subst (AllByRecursion (λ e. tree.get nat_cmp filings e.0 ≡ Some e.1)) (sym same) (recursion_from_All (λ e. tree.get nat_cmp filings e.0 ≡ Some e.1) filings.entries all);
  put = λ n h. sym (ap (λ o. firsts (unwrap_or o (option_map since (filing_of old n)))) (none_left n filings.entries (subst (λ es. is_left es n ≡ false) same h)) ∙ back (filing_of old n));
}

pub put_inside : (filings : Few) (old new : Filings) (e : Entry) (rest : List Entry) → ArePut filings old new (e ∷ rest) → ((n : ℕ) → is_given filings n ≡ true → n < length old.items) → e.0 < length new.items
put_inside filings old new e rest are inside = subst (λ k. e.0 < k) (sym are.count) (inside e.0 (ap is_some are.entries.0))

other_left : (n m : ℕ) → eqb n m ≡ false → is_at (nat_cmp n) m ≡ false
other_left n m h = grind (arith, nat_tests)

pub put_next : (filings : Few) (old mid new : Filings) (e : Entry) (rest : List Entry) → ArePut filings old mid (e ∷ rest) → length new.items ≡ length mid.items
    → ((n : ℕ) → filing_of new n ≡ cond (eqb n e.0) (firsts e.1) (filing_of mid n)) → ArePut filings old new rest
put_next filings old mid new e rest are count kept = record {
  count = count ∙ are.count;
  entries = are.entries.1;
  put = λ n h. kept n ∙ by n (eqb n e.0) refl h;
}
  where
    by : (n : ℕ) (t : Bool) → eqb n e.0 ≡ t → is_left rest n ≡ false → cond t (firsts e.1) (filing_of mid n) ≡ firsts (filing_then filings old n)
    by n true here h = sym (ap (λ o. firsts (unwrap_or o (option_map since (filing_of old n)))) (ap (tree.get nat_cmp filings) (eqb-true n e.0 here) ∙ are.entries.0))
    by n false other h = are.put n (ap (λ t. t || is_left rest n) (other_left n e.0 other) ∙ h)

pub put_last : (filings : Few) (old new : Filings) → ArePut filings old new [] → (n : ℕ) → filing_of new n ≡ firsts (filing_then filings old n)
put_last filings old new are n = are.put n refl

-- ---- those that may serve

-- some are left, and the last ones of the others may serve
pub record AreLetServe (filings : Few) (old new : Vec Bool Global) (rest : List Entry) : Type 0 where
  pub count : length new.items ≡ length old.items
  pub entries : AllByRecursion (λ e. tree.get nat_cmp filings e.0 ≡ Some e.1) rest
  pub grows : (f : ℕ) → serves_at old f ≡ true → serves_at new f ≡ true
  pub only : (f : ℕ) → serves_at new f ≡ true → (serves_at old f ≡ true) ⊎ ((n : ℕ) × (all : Serving) × (tree.get nat_cmp filings n ≡ Some (Some all)) × (f ≡ all.last))
  pub last : (n : ℕ) (all : Serving) → is_left rest n ≡ false → tree.get nat_cmp filings n ≡ Some (Some all) → serves_at new all.last ≡ true

pub serve_first : (filings : Few) (old : Vec Bool Global) (rest : List Entry) → rest ≡ filings.entries → All (λ e. tree.get nat_cmp filings e.0 ≡ Some e.1) filings.entries → AreLetServe filings old old rest
serve_first filings old rest same all = record {
  count = refl;
  entries = subst (AllByRecursion (λ e. tree.get nat_cmp filings e.0 ≡ Some e.1)) (sym same) (recursion_from_All (λ e. tree.get nat_cmp filings e.0 ≡ Some e.1) filings.entries all);
  grows = λ f h. h;
  only = λ f h. inl h;
  last = λ n them h is. absurd (nothing (Some them) (sym (none_left n filings.entries (subst (λ es. is_left es n ≡ false) same h)) ∙ is));
}

pub serve_inside : (filings : Few) (old new : Vec Bool Global) (e : Entry) (rest : List Entry) → AreLetServe filings old new (e ∷ rest) → ((n : ℕ) (all : Serving) → tree.get nat_cmp filings n ≡ Some (Some all) → all.last < length old.items)
    → (all : Serving) → e.1 ≡ Some all → all.last < length new.items
serve_inside filings old new e rest are inside all is = subst (λ k. all.last < k) (sym are.count) (inside e.0 all (are.entries.0 ∙ ap Some is))

pub serve_next : (filings : Few) (old mid new : Vec Bool Global) (e : Entry) (rest : List Entry) → AreLetServe filings old mid (e ∷ rest) → length new.items ≡ length mid.items
    → ((f : ℕ) → serves_at new f ≡ (serves_at mid f || is_last e.1 f)) → AreLetServe filings old new rest
serve_next filings old mid new e rest are count serves = record {
  count = count ∙ are.count;
  entries = are.entries.1;
  grows = λ f h. serves f ∙ or_left (serves_at mid f) (is_last e.1 f) (are.grows f h);
  only = λ f h. elim (or_cases (serves_at mid f) (is_last e.1 f) (sym (serves f) ∙ h)) [
    | inl was ↦ are.only f was
    | inr now ↦ let (all, is, same) = last_is e.1 f now in inr (e.0, all, are.entries.0 ∙ ap Some is, same)
  ];
  last = λ n all h is. by n all (eqb n e.0) refl h is;
}
  where
    by : (n : ℕ) (all : Serving) (t : Bool) → eqb n e.0 ≡ t → is_left rest n ≡ false → tree.get nat_cmp filings n ≡ Some (Some all) → serves_at new all.last ≡ true
    by n all true here h is =
        let same : e.1 ≡ Some all = same_Some e.1 (Some all) (sym are.entries.0 ∙ (ap (tree.get nat_cmp filings) (sym (eqb-true n e.0 here)) ∙ is)) in
        serves all.last ∙ or_right (serves_at mid all.last) (is_last e.1 all.last) (ap (λ o. is_last o all.last) same ∙ eq-eqb all.last all.last refl)
    by n all false other h is =
        serves all.last ∙ or_left (serves_at mid all.last) (is_last e.1 all.last) (are.last n all (ap (λ t. t || is_left rest n) (other_left n e.0 other) ∙ h) is)

pub serve_last : (filings : Few) (old new : Vec Bool Global) → AreLetServe filings old new [] → AreLastServed filings old new
serve_last filings old new are = record { count = are.count; grows = are.grows; only = are.only; last = λ n all is. are.last n all refl is }

-- ---- what the files say of it

pub first_of : (o : Option Serving) (f : ℕ) → firsts o ≡ Some f → (all : Serving) × (o ≡ Some all) × (all.first ≡ f)
first_of (Some all) f e = (all, refl, same_Some all.first f e)
first_of None f e = absurd (nothing f e)

pub then_given : (files : Files) (filings : Few) (n : ℕ) (all : Serving) → tree.get nat_cmp filings n ≡ Some (Some all) → filing_then filings files.current n ≡ Some all
then_given files filings n all is = ap (λ o. unwrap_or o (option_map since (filing_of files.current n))) is

module _ (files : Files) (filings : Few) (new : Vec Bool Global) (serving : (n : ℕ) (all : Serving) → filing_then filings files.current n ≡ Some all → AreServing files n all) (are : AreLastServed filings files.serves new) where
  -- the last of the filings of a node serves it
  last_serves : (n : ℕ) (all : Serving) → filing_then filings files.current n ≡ Some all → serves_at new all.last ≡ true
  last_serves n all is = by (tree.get nat_cmp filings n) (filing_of files.current n) refl refl is
    where
      by : (o : Option (Option Serving)) (c : Option ℕ) → tree.get nat_cmp filings n ≡ o → filing_of files.current n ≡ c → unwrap_or o (option_map since c) ≡ Some all → serves_at new all.last ≡ true
      by (Some them) c given at e = are.last n all (given ∙ ap Some e)
      by None (Some first) given at e = are.grows all.last (ap (λ (x : Serving). serves_at files.serves x.last) (sym (same_Some (since first) all e)) ∙ files.served n first at)
      by None None given at e = absurd (nothing all e)

  -- a filing of a node may serve where it might, or where it is the last
  pub owned_serve : (n f : ℕ) → owner_at files.owners f ≡ Some n → serves_at new f ≡ (serves_at files.serves f || is_last (filing_then filings files.current n) f)
  owned_serve n f owner = same_test (serves_at new f) (serves_at files.serves f || is_last (filing_then filings files.current n) f) goes comes
    where
      goes : serves_at new f ≡ true → (serves_at files.serves f || is_last (filing_then filings files.current n) f) ≡ true
      goes h = elim (are.only f h) [
        | inl was ↦ or_left (serves_at files.serves f) (is_last (filing_then filings files.current n) f) was
        | inr (m, all, is, same) ↦
            let given : filing_then filings files.current m ≡ Some all = then_given files filings m all is in
            let here : m ≡ n = same_Some m n (sym (serving m all given).1.0 ∙ (ap (owner_at files.owners) (sym same) ∙ owner)) in
            or_right (serves_at files.serves f) (is_last (filing_then filings files.current n) f) (ap (λ o. is_last o f) (subst (λ k. filing_then filings files.current k ≡ Some all) here given) ∙ eq-eqb f all.last same)
      ]

      comes : (serves_at files.serves f || is_last (filing_then filings files.current n) f) ≡ true → serves_at new f ≡ true
      comes h = elim (or_cases (serves_at files.serves f) (is_last (filing_then filings files.current n) f) h) [
        | inl was ↦ are.grows f was
        | inr last ↦ let (all, is, same) = last_is (filing_then filings files.current n) f last in ap (serves_at new) same ∙ last_serves n all is
      ]

  module _ (current : Filings) (put : (n : ℕ) → filing_of current n ≡ firsts (filing_then filings files.current n)) where
    -- the first filing of a node is its own
    pub put_owned : (n f : ℕ) → filing_of current n ≡ Some f → owner_at files.owners f ≡ Some n
    put_owned n f at =
        let (all, is, first) = first_of (filing_then filings files.current n) f (sym (put n) ∙ at) in
        subst (λ g. owner_at files.owners g ≡ Some n) first (serving n all is).0.0

    -- and may serve
    pub put_served : (n f : ℕ) → filing_of current n ≡ Some f → serves_at new f ≡ true
    put_served n f at =
        let (all, is, first) = first_of (filing_then filings files.current n) f (sym (put n) ∙ at) in
        subst (λ g. serves_at new g ≡ true) first (elim (serving n all is).0.2 [
          | inl same ↦ ap (serves_at new) same ∙ last_serves n all is
          | inr was ↦ are.grows all.first was
        ])
