-- The spot of a text by its two parts, the sheet's name and the area. Serves `sheet_part` and `read_place`.
use Rattle.std.proofs.Common.{◌≡◌, ◌∙◌, sym, ap, refl, rules, ℕ, List, Option, Some, None, Result, Ok, Err, IfOk, IsSome, IfSome, option_map}
use Rattle.std.specs.Option.{option_and_then}
use Rattle.cell_addr.specs.Parts.{strip_prefix}
use Rattle.cell_addr.specs.Quoted.{quoted}
use Rattle.cell_addr.specs.SheetName.{quoted_sheet, sheet_by_start}
use Rattle.cell_addr.specs.declared.spot.Spot.{Spot}
use Rattle.cell_addr.specs.Address.{area_of, on_sheet, area_on_sheet}

-- the name between apostrophes, whatever follows it
named-before : (rest : Option (List ℕ)) (n : List ℕ) (name : Option (List ℕ)) → name ≡ Some n → IfSome {T = Option (List ℕ) × List ℕ} (option_map (λ area. (Some n, area)) rest) (λ p. name ≡ p.0)
named-before None n name e = tt
named-before (Some area) n name e = e

named-by : (parts : Option (List ℕ × List ℕ)) (name : Option (List ℕ)) → name ≡ option_map (λ p. p.0) parts → IfSome (option_and_then quoted_sheet parts) (λ p. name ≡ p.0)
named-by None name e = tt
named-by (Some p) name e = named-before (strip_prefix 33 p.1) p.0 name e

pub sheet-quoted : {E : Type 0} (text after : List ℕ) (start : Option (List ℕ)) (r : Result (Option (List ℕ)) E) → Some after ≡ start → IfOk r (λ name. name ≡ option_map (λ p. p.0) (quoted 39 after))
    → IfOk r (λ name. IfSome (sheet_by_start text start) (λ p. name ≡ p.0))
sheet-quoted text after start (Ok name) e h = rw (← e) (named-by (quoted 39 after) name h)
sheet-quoted text after start (Err error) e h = tt

pub spot-Some : (parts : Option (Option (List ℕ) × List ℕ)) (sheet : Option (List ℕ)) (area : List ℕ) (spot : Spot)
    → Some area ≡ option_map (λ p. p.1) parts → Some spot ≡ area_of area → IfSome parts (λ p. sheet ≡ p.0) → option_and_then area_on_sheet parts ≡ Some (on_sheet sheet spot)
spot-Some None sheet area spot a s n = cc
spot-Some (Some p) sheet area spot a s n =
    let same : p.1 ≡ area = cc in
    ap (λ xs. option_map (on_sheet p.0) (area_of xs)) same ∙ ap (option_map (on_sheet p.0)) (sym s)
    ∙ ap (λ name. Some (on_sheet name spot)) (sym n)

pub spot-IsSome : (parts : Option (Option (List ℕ) × List ℕ)) (area : List ℕ) (spot : Spot) → Some area ≡ option_map (λ p. p.1) parts → Some spot ≡ area_of area → IsSome (option_and_then area_on_sheet parts)
spot-IsSome None area spot a s = cc
spot-IsSome (Some p) area spot a s =
    rw (spot-Some (Some p) p.0 area spot a s refl) (search rules)
