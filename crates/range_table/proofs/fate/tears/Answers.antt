use Rattle.std.proofs.Common.{◌≡◌, sym, subst, arith, true, false, inl, inr}
use Rattle.cell_addr.specs.Place.{CoverOne}
use Rattle.shift_core.specs.Form.{form_of}
use Rattle.shift_core.specs.declared.shift.Shift.{Shift}
use Rattle.range_table.specs.Shifted.{TearsBlock}
use Rattle.range_table.proofs.fate.tears.Goals as goal

pub returns-else-meets : goal.returns-else-meets
returns-else-meets c =
    let out : c.contains.result ≡ false = let f = c.if-not-contains.true in grind arith in (
      λ h. subst (λ (s : Shift). TearsBlock (form_of s) c.args.b) (sym c.in-MoveBlock.is)
          ((λ all. let is = c.contains.ensures.1 all in cc), inr (subst (CoverOne c.args.b) c.destination.ensures (c.meets-else-meets.ensures.0 h))),
      λ torn. elim (subst (λ (s : Shift). TearsBlock (form_of s) c.args.b) c.in-MoveBlock.is torn).1 [
        | inl met ↦ let is = c.meets.ensures.1 met in let isnt = c.if-meets.false in cc
        | inr met ↦ c.meets-else-meets.ensures.1 (subst (CoverOne c.args.b) (sym c.destination.ensures) met)
      ],
    )

pub returns-else-not-contains : goal.returns-else-not-contains
returns-else-not-contains c =
    let in_it : c.contains.result ≡ true = let f = c.if-not-contains.false in grind arith in (
      λ h. absurd (cc),
      λ torn. absurd ((subst (λ (s : Shift). TearsBlock (form_of s) c.args.b) c.in-MoveBlock.is torn).0 (c.contains.ensures.0 in_it)),
    )
