-- The order of values is total: for the laws of the order, and for what sorts or searches values.
use Rattle.std.proofs.Common.{◌≡◌, ◌↔◌, ◌∙◌, sym, ap, refl, subst, ℕ, ℤ, pos, Bool, false, List, [], Ok}
use Rattle.std.specs.declared.cmp.Ordering.{Ordering}
use Rattle.std.specs.declared.cmp.Ordering.TheVariants.{Less, Equal, Greater}
use Rattle.std.specs.Ordering.{is_eq, nat_cmp, int_cmp, bool_cmp, ordering_then, then_cmp, on}
use Rattle.std.specs.Cmp.{IsTotalOrder, Equal-is, on_total, then_total, nat_cmp_total, int_cmp_total, bool_cmp_total}
use Rattle.std.specs.Cmp.Lexicographic.{slice_cmp, on_texts, texts_ties, bytes_decides}
use Rattle.cell_addr.specs.Text.{folded}
use Rattle.cell_value.specs.declared.scalar.Scalar.{Scalar}
use Rattle.cell_value.specs.declared.scalar.Scalar.TheVariants.{Empty, Number, Text, Truth, Fault}
use Rattle.cell_value.specs.Scalar.{order_of, value_order, text_order, kind_rank, beside, counted_order}
use Rattle.cell_value.specs.Laws.{IsValue, IsNoFault, IsNumeric, IsTextual, IsLogical, IsOrdered, Compares}

-- lists of bytes are equal exactly where their order answers so
pub bytes_equal : (xs ys : List ℕ) → (slice_cmp nat_cmp xs ys ≡ Equal) ↔ (xs ≡ ys)
bytes_equal xs ys = (
  λ e. (bytes_decides xs ys).0 (texts_ties xs ys ∙ ap is_eq e),
  λ e. (Equal-is (slice_cmp nat_cmp xs ys)).0 (sym (texts_ties xs ys) ∙ (bytes_decides xs ys).1 e),
)

-- the order of texts is total
pub text_order_total : IsTotalOrder text_order
text_order_total = on_texts folded

-- the number of a value, and 0 where it is none
abbrev number_in : Scalar → ℤ
number_in (Number number) = number
number_in _ = pos 0

-- the text of a value, and no characters where it is none
abbrev text_in : Scalar → List ℕ
text_in (Text text) = text
text_in _ = []

-- the truth value of a value, and FALSE where it is none
abbrev truth_in : Scalar → Bool
truth_in (Truth truth) = truth
truth_in _ = false

-- the order by kind, then by number, text and truth value
abbrev by_parts : Scalar → Scalar → Ordering
by_parts = then_cmp (on kind_rank nat_cmp) (then_cmp (on number_in int_cmp) (then_cmp (on text_in text_order) (on truth_in bool_cmp)))

then-Equal : (o : Ordering) → ordering_then o Equal ≡ o
then-Equal Less = refl
then-Equal Equal = refl
then-Equal Greater = refl

value_order-by_parts : (a b : Scalar) → by_parts a b ≡ value_order a b
value_order-by_parts (Number a) (Number b) = then-Equal (int_cmp a b)
value_order-by_parts (Text a) (Text b) = then-Equal (text_order a b)
value_order-by_parts (Truth a) (Truth b) = refl
value_order-by_parts Empty Empty = refl
value_order-by_parts Empty (Number b) = refl
value_order-by_parts Empty (Text b) = refl
value_order-by_parts Empty (Truth b) = refl
value_order-by_parts Empty (Fault b) = refl
value_order-by_parts (Fault a) Empty = refl
value_order-by_parts (Fault a) (Number b) = refl
value_order-by_parts (Fault a) (Text b) = refl
value_order-by_parts (Fault a) (Truth b) = refl
value_order-by_parts (Fault a) (Fault b) = refl
value_order-by_parts a b = refl

-- the order of values is total
pub value_order_total : IsTotalOrder value_order
value_order_total =
    let parts : IsTotalOrder by_parts =
    then_total (on_total kind_rank nat_cmp_total) (then_total (on_total number_in int_cmp_total) (then_total (on_total text_in text_order_total) (on_total truth_in bool_cmp_total))) in
    subst IsTotalOrder (λ i a b. value_order-by_parts a b i) parts

-- where each scalar counts as f of it, the order of the three is that of values
ordered_by : (f : Scalar → Scalar) (a b c : Scalar) → order_of a b ≡ Ok (value_order (f a) (f b)) → order_of b a ≡ Ok (value_order (f b) (f a)) → order_of b c ≡ Ok (value_order (f b) (f c))
    → order_of a c ≡ Ok (value_order (f a) (f c)) → IsOrdered a b c
ordered_by f a b c ab ba bc ac =
    let o = value_order_total in
    record {
      compared = (value_order (f a) (f b), ab, ba ∙ ap Ok (o.antisymm (f b) (f a)));
      chained = λ h k.
          let p : value_order (f a) (f b) ≡ Less = cc in
          let q : value_order (f b) (f c) ≡ Less = cc in
          ac ∙ ap Ok (o.trans (f a) (f b) (f c) p q);
      alike = λ h.
          let p : value_order (f a) (f b) ≡ Equal = cc in
          ac ∙ ap Ok (o.congr (f a) (f b) (f c) p) ∙ sym bc;
    }

-- what Empty counts as beside values of one kind
abbrev filled : Scalar → Scalar → Scalar
filled none Empty = none
filled none x = x

-- values compare by their order
pub order_of-values : (a b : Scalar) → IsValue a → IsValue b → order_of a b ≡ Ok (value_order a b)
order_of-values Empty b h k = absurd h
order_of-values (Fault a) b h k = absurd h
order_of-values a Empty h k = absurd k
order_of-values a (Fault b) h k = absurd k
order_of-values a b h k = refl

pub values_ordered : (a b c : Scalar) → IsValue a → IsValue b → IsValue c → IsOrdered a b c
values_ordered a b c p q r =
    ordered_by (λ x. x) a b c (order_of-values a b p q) (order_of-values b a q p) (order_of-values b c q r) (order_of-values a c p r)

-- scalars that are no faults compare as they count beside each other
order_of-counted : (a b : Scalar) → IsNoFault a → IsNoFault b → order_of a b ≡ Ok (counted_order a b)
order_of-counted (Fault a) b h k = absurd h
order_of-counted a (Fault b) h k = absurd k
order_of-counted a b h k = refl

pub each_two : (a b : Scalar) → IsNoFault a → IsNoFault b → Compares a b
each_two a b h k =
    (counted_order a b, order_of-counted a b h k, order_of-counted b a k h ∙ ap Ok (value_order_total.antisymm (beside b a) (beside a b)))

order_of-numeric : (a b : Scalar) → IsNumeric a → IsNumeric b → order_of a b ≡ Ok (value_order (filled (Number (pos 0)) a) (filled (Number (pos 0)) b))
order_of-numeric Empty Empty h k = refl
order_of-numeric Empty (Number b) h k = refl
order_of-numeric (Number a) Empty h k = refl
order_of-numeric (Number a) (Number b) h k = refl
order_of-numeric (Text a) b h k = absurd h
order_of-numeric (Truth a) b h k = absurd h
order_of-numeric (Fault a) b h k = absurd h
order_of-numeric a (Text b) h k = absurd k
order_of-numeric a (Truth b) h k = absurd k
order_of-numeric a (Fault b) h k = absurd k

order_of-textual : (a b : Scalar) → IsTextual a → IsTextual b → order_of a b ≡ Ok (value_order (filled (Text []) a) (filled (Text []) b))
order_of-textual Empty Empty h k = refl
order_of-textual Empty (Text b) h k = refl
order_of-textual (Text a) Empty h k = refl
order_of-textual (Text a) (Text b) h k = refl
order_of-textual (Number a) b h k = absurd h
order_of-textual (Truth a) b h k = absurd h
order_of-textual (Fault a) b h k = absurd h
order_of-textual a (Number b) h k = absurd k
order_of-textual a (Truth b) h k = absurd k
order_of-textual a (Fault b) h k = absurd k

order_of-logical : (a b : Scalar) → IsLogical a → IsLogical b → order_of a b ≡ Ok (value_order (filled (Truth false) a) (filled (Truth false) b))
order_of-logical Empty Empty h k = refl
order_of-logical Empty (Truth b) h k = refl
order_of-logical (Truth a) Empty h k = refl
order_of-logical (Truth a) (Truth b) h k = refl
order_of-logical (Number a) b h k = absurd h
order_of-logical (Text a) b h k = absurd h
order_of-logical (Fault a) b h k = absurd h
order_of-logical a (Number b) h k = absurd k
order_of-logical a (Text b) h k = absurd k
order_of-logical a (Fault b) h k = absurd k

pub numeric_ordered : (a b c : Scalar) → IsNumeric a → IsNumeric b → IsNumeric c → IsOrdered a b c
numeric_ordered a b c p q r =
    ordered_by (filled (Number (pos 0))) a b c (order_of-numeric a b p q) (order_of-numeric b a q p) (order_of-numeric b c q r) (order_of-numeric a c p r)

pub textual_ordered : (a b c : Scalar) → IsTextual a → IsTextual b → IsTextual c → IsOrdered a b c
textual_ordered a b c p q r =
    ordered_by (filled (Text [])) a b c (order_of-textual a b p q) (order_of-textual b a q p) (order_of-textual b c q r) (order_of-textual a c p r)

pub logical_ordered : (a b c : Scalar) → IsLogical a → IsLogical b → IsLogical c → IsOrdered a b c
logical_ordered a b c p q r =
    ordered_by (filled (Truth false)) a b c (order_of-logical a b p q) (order_of-logical b a q p) (order_of-logical b c q r) (order_of-logical a c p r)
