-- Probes bend the whole ranges that their operations bent, and few others. Serves these laws.
use Rattle.std.proofs.Common.{◌≡◌, ◌∙◌, sym, ap, refl, subst, true, ◌⊎◌, inl, inr, Some, option_map}
use Rattle.std.proofs.lemmas.Bool.{cases_Bool, cases_eq, cond-true}
use Rattle.std.proofs.lemmas.Option.{none-some, same_Some}
use Rattle.cell_addr.specs.Axis.{across, same_axis}
use Rattle.cell_addr.specs.Whole.{whole_block, whole_of}
use Rattle.cell_addr.specs.declared.whole.Whole.{Whole}
use Rattle.cell_addr.proofs.SamePlaces.{same_axis-equal, same_axis-self}
use Rattle.cell_addr.proofs.Wholes.{whole_block-inside}
use Rattle.shift_core.specs.declared.form.Form.{Form}
use Rattle.shift_core.specs.declared.form.Form.TheVariants.{Cells, Lines, Sheet}
use Rattle.shift_core.specs.Form.{form_of}
use Rattle.shift_core.specs.Opposite.{shift_of}
use Rattle.shift_core.specs.Tables.{block_moved}
use Rattle.shift_core.specs.Wholes.{BendsWhole, MeetsAcross, whole_moved}
use Rattle.shift_core.proofs.WholeMoves.{whole_moves_as_block}
use Rattle.restored_values.specs.Probes.{BentWholesAreProbed, ProbesBendFewWholes, form_probe}
use Rattle.restored_values.proofs.NearBlocks.{probes_bend_few}
use Rattle.restored_values.proofs.ProbedBlocks.{bent_are_probed, form_given, form_of-shift_of}

-- an operation edits lines across a whole range, or doesn't
meets : (f : Form) (w : Whole) → MeetsAcross f w ⊎ (¬ MeetsAcross f w)
meets (Cells source to) w = inr (λ never. never)
meets (Sheet sheet) w = inr (λ never. never)
meets (Lines sheet axis edit) w = elim (cases_eq w.sheet sheet) [
  | inr off ↦ inr (λ m. off m.0)
  | inl on ↦ elim (cases_Bool (same_axis w.axis (across axis))) [
    | inl same ↦ inl (on, same_axis-equal w.axis (across axis) same)
    | inr other ↦ inr (λ m. let same : same_axis w.axis (across axis) ≡ true = ap (λ a. same_axis a (across axis)) m.1 ∙ same_axis-self (across axis) in absurd (cc))
  ]
]

-- such a one stays where it is, and the probe edits lines across it too
stays_across : (f : Form) (w after : Whole) → MeetsAcross f w → whole_moved f w ≡ Some after → after ≡ w
stays_across (Cells source to) w after m h = absurd m
stays_across (Sheet sheet) w after m h = absurd m
stays_across (Lines sheet axis edit) w after m h =
    let same : same_axis w.axis (across axis) ≡ true = ap (λ a. same_axis a (across axis)) m.1 ∙ same_axis-self (across axis) in
    sym (same_Some w after (sym (cond-true (same_axis w.axis (across axis)) (Some w) (option_map (whole_of w.axis) (block_moved (Lines sheet axis edit) (whole_block w))) same) ∙ h))

probed_across : (f : Form) (w : Whole) → MeetsAcross f w → (g : Form) × (form_probe f ≡ Some g) × MeetsAcross g w
probed_across (Lines sheet axis edit) w m = (_, refl, m)
probed_across (Cells source to) w m = absurd m
probed_across (Sheet sheet) w m = absurd m

probe_across : (f g : Form) (w : Whole) → form_probe f ≡ Some g → MeetsAcross g w → MeetsAcross f w
probe_across (Lines sheet axis edit) g w e m = subst (λ h. MeetsAcross h w) (sym (same_Some _ g e)) m
probe_across (Cells source to) g w e m = absurd (none-some g e)
probe_across (Sheet sheet) g w e m = absurd (none-some g e)

pub bent_wholes_are_probed : BentWholesAreProbed
bent_wholes_are_probed s w after sound inside bent h = elim (meets (form_of s) w) [
  | inl m ↦
      let (g, is, crossed) = probed_across (form_of s) w m in
      let there : BendsWhole g after = inl (subst (MeetsAcross g) (sym (stays_across (form_of s) w after m h)) crossed) in
      (shift_of g, ap (option_map shift_of) is, subst (λ f. BendsWhole f after) (sym (form_of-shift_of g)) there)
  | inr apart ↦ elim bent [
    | inl m ↦ absurd (apart m)
    | inr touched ↦
        let goes = whole_moves_as_block (form_of s) w sound apart ∙ ap (option_map whole_block) h in
        let (probe, named, bends) = bent_are_probed s (whole_block w) (whole_block after) sound (whole_block-inside w inside) touched goes in
        (probe, named, inr bends)
  ]
]

pub probes_bend_few_wholes : ProbesBendFewWholes
probes_bend_few_wholes s probe w sound named inside bent = elim bent [
  | inl m ↦ inl (probe_across (form_of s) (form_of probe) w (form_given (form_probe (form_of s)) probe named) m)
  | inr touched ↦ inr (probes_bend_few s probe (whole_block w) sound named (whole_block-inside w inside) touched)
]
