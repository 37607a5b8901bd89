use Rattle.std.proofs.Common.{◌≡◌, ◌∙◌, sym, arith, ℕ, ◌+◌, ◌⊎◌, inl, inr, length, List, [], ◌∷◌}
use Rattle.std.specs.Ordering.{nat_cmp}
use Rattle.std.specs.Cmp.{nat_cmp_is}
use Rattle.std.specs.declared.cmp.Ordering.TheVariants.{Less, Equal, Greater}
use Rattle.cell_value.specs.Scalar.{text_order}
use Rattle.cell_value.proofs.order.compare_texts.Goals as goal

-- where one text is done, the lengths of the texts decide
lengths_decide : (xs ys : List ℕ) (m n : ℕ) → length xs + n ≡ length ys + m → ((length xs ≡ 0) ⊎ (length ys ≡ 0)) → nat_cmp m n ≡ text_order xs ys
lengths_decide [] [] m n e h = sym (nat_cmp_is m n Equal (omega arith))
lengths_decide [] (y ∷ ys) m n e h = sym (nat_cmp_is m n Less (omega arith))
lengths_decide (x ∷ xs) [] m n e h = sym (nat_cmp_is m n Greater (omega arith))
lengths_decide (x ∷ xs) (y ∷ ys) m n e (inl h) = absurd (omega arith)
lengths_decide (x ∷ xs) (y ∷ ys) m n e (inr h) = absurd (omega arith)

pub returns : goal.returns
returns c =
    let i = c.bytes.invariant in
    c.cmp-2.ensures
    ∙ lengths_decide _ _ _ _ i.pace (elim c.in-None.ensures.steps [ inl p ↦ inl p.1.0 | inr p ↦ inr p.1.0 ])
    ∙ i.order
