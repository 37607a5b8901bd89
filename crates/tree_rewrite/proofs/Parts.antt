-- The arguments of a call, of which some stay and some become others. Serves the passage of trees.
use Rattle.std.proofs.Common.{◌≡◌, ◌≢◌, ◌∙◌, sym, ap, arith, ℕ, zero, suc, ◌+◌, ◌<◌, List, [], ◌∷◌, ◌++◌, map, length, get_or, take, drop, append_assoc}
use Rattle.std.proofs.lemmas.List.{take-append-drop, map-append, take_more}
use Rattle.formula_tree.proofs.Once.{drop-item}
use Rattle.formula_tree.specs.Term.{Term, terms_of}
use Rattle.formula_tree.specs.declared.reference.Ref.{Ref}

-- where all arguments are the same, each is
pub same-item : {X : Type 0} (f g : X → Term Ref) (items : List X) (i : ℕ) (item : X) → i < length items → item ≡ get_or items i item
    → terms_of (map f items) ≡ terms_of (map g items) → f item ≡ g item
same-item f g [] i item h e s = absurd (omega arith)
same-item f g (x ∷ xs) zero item h e s = let first : f x ≡ g x = cc in rw e first
same-item f g (x ∷ xs) (suc i) item h e s = same-item f g xs i item (omega arith) e (cc)

-- arguments of which those in front stay and one becomes another
pub changed-items : {X : Type 0} (f g : X → Term Ref) (items : List X) (i : ℕ) (item : X) → i < length items → item ≡ get_or items i item
    → map f (take i items) ≡ map g (take i items) → map g (take i items) ++ (f item ∷ map f (drop (i + 1) items)) ≡ map f items
changed-items f g items i item h e s =
    sym (
    ap (map f) (sym (take-append-drop i items))
    ∙ map-append f (take i items) (drop i items)
    ∙ ap (λ xs. xs ++ map f (drop i items)) s
    ∙ ap (λ xs. map g (take i items) ++ map f xs) (drop-item items i item h e)
    )

-- one argument more that stays
pub staying-item : {X : Type 0} (f g : X → Term Ref) (items : List X) (i : ℕ) (item : X) → i < length items → item ≡ get_or items i item
    → map f (take i items) ≡ map g (take i items) → f item ≡ g item → map f (take (i + 1) items) ≡ map g (take (i + 1) items)
staying-item f g items i item h e s t =
    let more : take (i + 1) items ≡ take i items ++ item ∷ [] = take_more items i item h ∙ ap (λ x. take i items ++ x ∷ []) (sym e) in
    ap (map f) more
    ∙ map-append f (take i items) (item ∷ [])
    ∙ ap (λ xs. xs ++ f item ∷ []) s
    ∙ ap (λ x. map g (take i items) ++ x ∷ []) t
    ∙ sym (map-append g (take i items) (item ∷ []))
    ∙ ap (map g) (sym more)

-- one argument more that is pushed
pub pushed : {X Y : Type 0} (f : X → Y) (new old : List X) (x : X) (ys : List Y) (y : Y) → new ≡ old ++ x ∷ [] → map f old ≡ ys → f x ≡ y → map f new ≡ ys ++ y ∷ []
pushed f new old x ys y n o e = ap (map f) n ∙ map-append f old (x ∷ []) ∙ ap (λ zs. zs ++ f x ∷ []) o ∙ ap (λ z. ys ++ z ∷ []) e

pub map-take_more : {X Y : Type 0} (f : X → Y) (items : List X) (i : ℕ) (item : X) → i < length items → item ≡ get_or items i item
    → map f (take (i + 1) items) ≡ map f (take i items) ++ f item ∷ []
map-take_more f items i item h e = ap (map f) (take_more items i item h ∙ ap (λ x. take i items ++ x ∷ []) (sym e)) ∙ map-append f (take i items) (item ∷ [])

-- one more of those in front
pub front-pushed : {X Y : Type 0} (f : X → Y) (new old items : List X) (i : ℕ) (x item : X) → i < length items → item ≡ get_or items i item
    → new ≡ old ++ x ∷ [] → map f old ≡ map f (take i items) → f x ≡ f item → map f new ≡ map f (take (i + 1) items)
front-pushed f new old items i x item h e n o t = pushed f new old x (map f (take i items)) (f item) n o t ∙ sym (map-take_more f items i item h e)

-- one more of the rest
pub rest-pushed : {X Y : Type 0} (f g : X → Y) (new old front items : List X) (changed : Y) (i : ℕ) (x item : X) → i < length items → item ≡ get_or items i item
    → new ≡ old ++ x ∷ [] → map f old ≡ map f front ++ (changed ∷ map g (take i items)) → f x ≡ g item → map f new ≡ map f front ++ (changed ∷ map g (take (i + 1) items))
rest-pushed f g new old front items changed i x item h e n o t =
    pushed f new old x (map f front ++ (changed ∷ map g (take i items))) (g item) n o t
    ∙ append_assoc (map f front) (changed ∷ map g (take i items)) (g item ∷ [])
    ∙ ap (λ ys. map f front ++ (changed ∷ ys)) (sym (map-take_more g items i item h e))

-- the terms of a call's arguments differ where those of one do
pub items-differ : {X : Type 0} (f g : X → Term Ref) (items : List X) (i : ℕ) (item : X) → i < length items → item ≡ get_or items i item
    → f item ≢ g item → terms_of (map f items) ≢ terms_of (map g items)
items-differ f g items i item h e d s = d (same-item f g items i item h e s)
