use Rattle.std.proofs.Common.{◌≡◌, ◌∙◌, sym, ap, refl, List, ℕ, Option, Some, None, option_map, if◌then◌else◌, false}
use denote.Bor.{Bor}
use Rattle.std.specs.Option.{is_some, option_copied}
use Rattle.cell_addr.specs.Quoted.{quoted}
use Rattle.formula_parse.specs.declared.progress.Kind.TheVariants as kinds
use Rattle.formula_parse.specs.internal.Front.{text_of, sheet_of, token_of}
use Rattle.formula_parse.specs.internal.Progress.{kind_of}
use Rattle.formula_parse.proofs.progress.Kind.of.Goals as goal

-- a text, and a sheet's name, where a quote closes it
text-kind : (r : Option (Bor (List ℕ))) (parts : Option (List ℕ × List ℕ)) → option_copied r ≡ option_map (λ p. p.1) parts → kinds.Atom (is_some r) None ≡ kind_of (text_of (option_map (λ p. p.0) parts))
text-kind None None e = refl
text-kind None (Some p) e = cc
text-kind (Some rest) None e = cc
text-kind (Some rest) (Some p) e = refl

sheet-kind : (r : Option (Bor (List ℕ))) (parts : Option (List ℕ × List ℕ)) → option_copied r ≡ option_map (λ p. p.1) parts
    → (if is_some r then kinds.Sheet else kinds.Atom false None) ≡ kind_of (sheet_of (option_map (λ p. p.0) parts))
sheet-kind None None e = refl
sheet-kind None (Some p) e = cc
sheet-kind (Some rest) None e = cc
sheet-kind (Some rest) (Some p) e = refl

pub returns-in-Text : goal.returns-in-Text
returns-in-Text c =
    ap (λ b. kinds.Atom b None) c.is_some.ensures ∙ text-kind c.after_quoted.result (quoted 34 c.in-Text.after_quote.now) c.after_quoted.ensures
    ∙ ap (λ token. kind_of (token_of token)) (sym c.in-Text.is)

pub returns-in-QuotedSheet : goal.returns-in-QuotedSheet
returns-in-QuotedSheet c =
    c.sheet.ensures ∙ ap (λ b. if b then kinds.Sheet else kinds.Atom false None) c.is_some-in-QuotedSheet.ensures
    ∙ sheet-kind c.after_quoted-in-QuotedSheet.result (quoted 39 c.in-QuotedSheet.after_quote.now) c.after_quoted-in-QuotedSheet.ensures
    ∙ ap (λ token. kind_of (token_of token)) (sym c.in-QuotedSheet.is)
