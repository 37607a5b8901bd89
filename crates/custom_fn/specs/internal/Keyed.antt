-- A registry's functions by their names: what stands under which, and which of them is found.
use Rattle.std.specs.Prelude.{◌≡◌, ℕ, List, All, Option}
use Rattle.std.specs.Map.{lookup}
use Rattle.cell_addr.specs.Sheets.{same_name}
use Rattle.custom_fn.specs.declared.custom.Custom.{Custom}
use Rattle.folded_key.specs.declared.key.FoldedKey.{FoldedKey}
use Rattle.custom_fn.specs.Custom.{name_of}
use Rattle.folded_key.specs.Key.{text_of}

-- each function stands under its name
abbrev pub AreKeyed : {I : _} {D : _} {g : _} → List (FoldedKey × Custom I D g) → Type 0
AreKeyed entries = All (λ e. text_of e.0 ≡ name_of e.1) entries

-- the function under this name, in some case of its letters
abbrev pub under : {I : _} {D : _} {g : _} → List ℕ → List (FoldedKey × Custom I D g) → Option (Custom I D g)
under name entries = lookup (λ k. same_name name (text_of k)) entries
