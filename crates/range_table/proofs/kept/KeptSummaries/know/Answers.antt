use Rattle.std.proofs.Common.{◌∙◌, ap, sym, Some}
use Rattle.place_lines.specs.Spots.{area_of}
use Rattle.range_table.specs.internal.States.{is_found}
use Rattle.range_table.specs.internal.Tables.{IsUnder, kept_below}
use Rattle.range_table.proofs.Growing.{grown_bounded, grown_found, grown_map, grown_stand, number_found, same_more}
use Rattle.range_table.proofs.kept.KeptSummaries.know.Goals as goal

pub invariant_of-self : goal.invariant_of-self
invariant_of-self c =
    let k = c.args.self.now in
    let t = c.know.new.self in
    let g = c.know.ensures.grown in record {
      stands = grown_stand k t k.files g (same_more k.files);
      found = grown_found k t k.files g (same_more k.files);
      bounded = grown_bounded k t k.files g (same_more k.files);
    }

pub returns-in_err-number-clause-same : goal.returns-in_err-number-clause-same
returns-in_err-number-clause-same c = let k = c.args.self.now in grown_map k c.know.new.self k.files c.know.ensures.grown (same_more k.files)

pub invariant_of-self-then-not-is_found-2 : goal.invariant_of-self-then-not-is_found-2
invariant_of-self-then-not-is_found-2 c =
    let k = c.args.self.now in
    let t = c.know.new.self in
    let g = c.know.ensures.grown in
    let f = c.file.new.self in
    let m = c.file.ensures.more in record {
      stands = grown_stand k t f g m;
      found = grown_found k t f g m;
      bounded = grown_bounded k t f g m;
    }

pub returns-in_err-file-clause-same : goal.returns-in_err-file-clause-same
unfolding kept_below
returns-in_err-file-clause-same c = grown_map c.args.self.now c.know.new.self c.file.new.self c.know.ensures.grown c.file.ensures.more

pub invariant_of-self-else-not-is_found : goal.invariant_of-self-else-not-is_found
invariant_of-self-else-not-is_found c =
    let k = c.args.self.now in
    let t = c.know.new.self in
    let g = c.know.ensures.grown in record {
      stands = grown_stand k t k.files g (same_more k.files);
      found = grown_found k t k.files g (same_more k.files);
      bounded = grown_bounded k t k.files g (same_more k.files);
    }

pub returns-in_ok-file-clause-same : goal.returns-in_ok-file-clause-same
unfolding kept_below
returns-in_ok-file-clause-same c = grown_map c.args.self.now c.know.new.self c.file.new.self c.know.ensures.grown c.file.ensures.more

pub returns-else-not-is_found-clause-same : goal.returns-else-not-is_found-clause-same
returns-else-not-is_found-clause-same c = let k = c.args.self.now in grown_map k c.know.new.self k.files c.know.ensures.grown (same_more k.files)

pub returns-else-not-is_found-clause-number : goal.returns-else-not-is_found-clause-number
returns-else-not-is_found-clause-number c =
    let k = c.args.self.now in
    let t = c.know.new.self in
    let g = c.know.ensures.grown in
    let n = c.in_ok-number.number in
    let under : IsUnder t n c.args.b = c.in_ok-number.ensures.number ∙ (ap (λ a. Some a) c.area-area.ensures ∙ ap (λ l. Some (area_of l c.args.b)) (sym g.lines)) in record {
      under = under;
      finds = number_found k t k.files g (same_more k.files) c.args.b n under (sym (c.is_found.ensures ∙ ap is_found c.state.ensures) ∙ c.if-not-is_found.false);
    }

pub returns-in_ok-file-clause-number : goal.returns-in_ok-file-clause-number
returns-in_ok-file-clause-number c = record {
  under = c.in_ok-number.ensures.number ∙ (ap (λ a. Some a) c.area-area.ensures ∙ ap (λ l. Some (area_of l c.args.b)) (sym c.know.ensures.grown.lines));
  finds = c.in_ok-file.ensures.finds;
}
