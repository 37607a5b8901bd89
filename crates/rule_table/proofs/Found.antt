-- The function that is found by its word. Serves the look-up among rules.
use Rattle.std.proofs.Common.{◌≡◌, refl, ℕ, Bool, true, false, cond, List, [], ◌∷◌, map, Option, Some, None, option_map}
use Rattle.std.specs.Prelude.{find}
use Rattle.cell_addr.specs.Sheets.{same_name}
use Rattle.custom_fn.specs.Registry.{custom_named}
use Rattle.custom_fn.specs.declared.rule.Rule.{Rule}
use Rattle.rule_table.specs.Rules.{named}
use Rattle.rule_table.specs.declared.rules.NamedRule.{NamedRule}

pub mapped-twice : {X Y Z : Type 0} (f : Y → Z) (g : X → Y) (o : Option X) → option_map (λ x. f (g x)) o ≡ option_map f (option_map g o)
mapped-twice f g None = refl
mapped-twice f g (Some x) = refl

chosen : (b : Bool) (r : NamedRule) (o : Option NamedRule) (p : Option (List ℕ × Rule)) → option_map named o ≡ p → option_map named (cond b (Some r) o) ≡ cond b (Some (named r)) p
chosen true r o p h = refl
chosen false r o p h = h

-- the word and the rule of the first function that has the word are the first of the words and rules that do
pub found-named : (q : List ℕ) (rules : List NamedRule) → option_map named (find (λ r. same_name r.word q) rules) ≡ custom_named q (map named rules)
found-named q [] = refl
found-named q (r ∷ rules) = chosen (same_name r.word q) r (find (λ (s : NamedRule). same_name s.word q) rules) (custom_named q (map named rules)) (found-named q rules)
