use Rattle.std.proofs.Common.{◌≡◌, ◌∙◌, sym, ap, subst, refl, arith, ℕ, ◌+◌, ◌<◌, ◌≤◌, true, false, List, [], ◌++◌, map, length, get_or, Some, None, IfOk, Global}
use Rattle.std.specs.Prelude.{slice_get}
use Rattle.std.specs.declared.rc.Rc.{Rc}
use Rattle.std.proofs.lemmas.Option.{slice_get_past, slice_get_read}
use Rattle.custom_fn.specs.declared.rule.Rule.{Rule}
use Rattle.formula_tree.specs.Arguments.{trees}
use Rattle.formula_tree.specs.Links.{is_place_word}
use Rattle.formula_tree.specs.Reference.{sheet_of}
use Rattle.formula_tree.specs.Term.{Terms}
use Rattle.formula_tree.specs.declared.node.Node.{Node}
use Rattle.formula_tree.specs.declared.node.TreeList.{TreeList}
use Rattle.formula_tree.specs.declared.reference.Corner.{Corner}
use Rattle.formula_tree.specs.declared.reference.Home.{Home}
use Rattle.calc_terms.specs.Choices.{choice_value, picked}
use Rattle.calc_terms.specs.Cost.{cost, cost_all}
use Rattle.calc_terms.specs.Meaning.{evaluated, meaning}
use Rattle.calc_terms.specs.References.{argument_of, argument_value, reference_of}
use Rattle.calc_terms.specs.World.{World}
use Rattle.calc_terms.specs.declared.argument.Argument.{Argument}
use Rattle.calc_eval.specs.internal.Steps.{cost_at, sizes, term_at, terms_at}
use Rattle.calc_eval.proofs.Choosing.{choice_picked, chosen_value, none_picked, nothing_there}
use Rattle.calc_eval.proofs.Costs.{choice_asks, custom_asks, data_asks, plain_within, two_within}
use Rattle.calc_eval.proofs.Lists.{all_at, as_many, terms_at-trees, found, found_cost, none}
use Rattle.calc_eval.proofs.walk.+value.Goals as goal

-- what the tree of an argument takes
item_cost : (w : World) (home : Home) (list : TreeList) (items : List (Rc Node Global)) (place : ℕ) (item : Rc Node Global) (node : Node) → items ≡ trees list → place < length items → item ≡ get_or items place item → node ≡ item.value
    → cost w (sheet_of home) (term_at home node) ≡ cost_at w (sheet_of home) (terms_at home list) place
item_cost w home list items place item node are h e is =
    ap (λ n. cost w (sheet_of home) (term_at home n)) is
    ∙ sym (found_cost w [] home items place item (slice_get_read items (length items) place item refl h e))
    ∙ ap (λ ts. cost_at w (sheet_of home) ts place) (sym (terms_at-trees home list items are))

pub argument_at-returns-in_err-argument-in-Some-clause-most : goal.argument_at-returns-in_err-argument-in-Some-clause-most
argument_at-returns-in_err-argument-in-Some-clause-most g t c =
    let found = c.in-Some.ensures.lookup in
    subst (λ n. c.argument.new.steps ≤ c.args.steps.now + n)
    (item_cost (g.V.View.world c.args.view.now) c.args.home c.args.list.now c.items.result.now c.args.place c.in-Some.tree.now c.deref.result.now c.items.ensures found.3.0 found.1 c.deref.ensures)
    c.argument.ensures.most

pub argument_at-returns-in_ok-argument-in-Some-clause-means : goal.argument_at-returns-in_ok-argument-in-Some-clause-means
argument_at-returns-in_ok-argument-in-Some-clause-means g t c =
    let found_there = c.in-Some.ensures.lookup in
    let w = g.V.View.world c.args.view.now in
    let customs = g.C.Customs.customs c.args.customs.now in
    let items = c.items.result.now in
    ap Some (c.in_ok-argument-in-Some.ensures.means ∙ ap (λ n. argument_of (reference_of w (sheet_of c.args.home) (term_at c.args.home n)) (meaning w customs c.args.home (term_at c.args.home n))) c.deref.ensures)
    ∙ sym (found w customs c.args.home items c.args.place c.in-Some.tree.now (slice_get_read items (length items) c.args.place c.in-Some.tree.now refl found_there.3.0 found_there.1))
    ∙ ap (λ ts. slice_get (evaluated w customs c.args.home ts) c.args.place) (sym (terms_at-trees c.args.home c.args.list.now items c.items.ensures))

pub argument_at-returns-in_ok-argument-in-Some-clause-most : goal.argument_at-returns-in_ok-argument-in-Some-clause-most
argument_at-returns-in_ok-argument-in-Some-clause-most g t c =
    let found = c.in-Some.ensures.lookup in
    subst (λ n. c.argument.new.steps ≤ c.args.steps.now + n)
    (item_cost (g.V.View.world c.args.view.now) c.args.home c.args.list.now c.items.result.now c.args.place c.in-Some.tree.now c.deref.result.now c.items.ensures found.3.0 found.1 c.deref.ensures)
    c.argument.ensures.most

pub argument_at-returns-in-None-clause-means : goal.argument_at-returns-in-None-clause-means
argument_at-returns-in-None-clause-means g t c =
    let past = c.in-None.ensures.lookup in
    let w = g.V.View.world c.args.view.now in
    let customs = g.C.Customs.customs c.args.customs.now in
    let items = c.items.result.now in
    sym (none w customs c.args.home items c.args.place (slice_get_past items c.args.place past.3))
    ∙ ap (λ ts. slice_get (evaluated w customs c.args.home ts) c.args.place) (sym (terms_at-trees c.args.home c.args.list.now items c.items.ensures))

pub arguments-trees-init : goal.arguments-trees-init
arguments-trees-init g t c =
    let w = g.V.View.world c.args.view.now in
    let same = sym (terms_at-trees c.args.home c.args.list.now c.items-tree-items.result.now c.items-tree-items.ensures) in
    let costs : cost_all w (sheet_of c.args.home) false (all_at c.args.home c.items-tree-items.result.now) ≡ cost_all w (sheet_of c.args.home) false (terms_at c.args.home c.args.list.now) = ap (cost_all w (sheet_of c.args.home) false) same in
    let asks : cost_all w (sheet_of c.args.home) true (all_at c.args.home c.items-tree-items.result.now) ≡ cost_all w (sheet_of c.args.home) true (terms_at c.args.home c.args.list.now) = ap (cost_all w (sheet_of c.args.home) true) same in
    let none_yet : sizes w c.new-args.result.items ≡ 0 = ap (sizes w) c.new-args.ensures.items in
    record {
      same = refl;
      told = ap (λ xs. xs ++ evaluated w (g.C.Customs.customs c.args.customs.now) c.args.home (all_at c.args.home c.items-tree-items.result.now)) c.new-args.ensures.items
          ∙ ap (evaluated w (g.C.Customs.customs c.args.customs.now) c.args.home) same;
      least = omega arith;
      asked = omega arith;
      room = omega arith;
    }

pub choice-returns-in_default-clause-means : goal.choice-returns-in_default-clause-means
choice-returns-in_default-clause-means g t c =
    let w = g.V.View.world c.args.view.now in
    sym (nothing_there c.args.f (argument_value w) (evaluated w (g.C.Customs.customs c.args.customs.now) c.args.home (terms_at c.args.home c.args.list.now)) (sym c.in_ok-first.ensures.means ∙ c.in_default.is))

-- the arguments of a list are as many as its trees
count_is : (w : World) (customs : List (List ℕ × Rule)) (home : Home) (list : TreeList) (items : List (Rc Node Global)) → items ≡ trees list → length items ≡ length (evaluated w customs home (terms_at home list))
count_is w customs home list items are = sym (as_many w customs home items) ∙ ap (λ ts. length (evaluated w customs home ts)) (sym (terms_at-trees home list items are))

-- the first argument and the chosen one take no more than all
both_within : (w u : World) (sheet : ℕ) (ts : Terms Corner) (place before between after : ℕ) → u ≡ w → 1 ≤ place → between ≤ before + cost_at w sheet ts 0 → after ≤ between + cost_at u sheet ts place → after ≤ before + cost_all w sheet false ts
both_within w u sheet ts place before between after same h first second =
    let two = two_within w sheet ts place h in
    let e : cost_at u sheet ts place ≡ cost_at w sheet ts place = ap (λ v. cost_at v sheet ts place) same in
    omega arith

pub choice-returns-in_err-chosen-in-At-clause-most : goal.choice-returns-in_err-chosen-in-At-clause-most
choice-returns-in_err-chosen-in-At-clause-most g t c =
    both_within (g.V.View.world c.args.view.now) (g.V.View.world c.argument_at.new.view) (sheet_of c.args.home) (terms_at c.args.home c.args.list.now) c.in-At.place c.args.steps.now c.argument_at.new.steps c.argument_at-in-At.new.steps
    c.argument_at.ensures.leaves c.in-At.ensures.among.0 c.argument_at.ensures.most c.argument_at-in-At.ensures.most

pub choice-returns-in-Value-clause-means : goal.choice-returns-in-Value-clause-means
choice-returns-in-Value-clause-means g t c =
    let w = g.V.View.world c.args.view.now in
    let customs = g.C.Customs.customs c.args.customs.now in
    let args = evaluated w customs c.args.home (terms_at c.args.home c.args.list.now) in
    sym (choice_picked c.args.f w (g.V.View.world c.argument_at.new.view) args c.in-Some.first c.in_ok-first-2.first c.choose.result (length c.items.result.now)
    c.argument_at.ensures.leaves (sym c.in_ok-first.ensures.means ∙ c.in-Some.is) c.in_ok-first-2.ensures (count_is w customs c.args.home c.args.list.now c.items.result.now c.items.ensures) c.choose.ensures.decides
    ∙ ap (λ made. picked made (map (argument_value w) args)) c.in-Value.is)

pub choice-returns-in-Some-2-clause-means : goal.choice-returns-in-Some-2-clause-means
choice-returns-in-Some-2-clause-means g t c =
    let w = g.V.View.world c.args.view.now in
    let customs = g.C.Customs.customs c.args.customs.now in
    let args = evaluated w customs c.args.home (terms_at c.args.home c.args.list.now) in
    let first_left = c.argument_at.ensures.leaves in
    let there : slice_get args c.in-At.place ≡ Some c.in-Some-2.chosen =
    ap (λ u. slice_get (evaluated u customs c.args.home (terms_at c.args.home c.args.list.now)) c.in-At.place) (sym first_left) ∙ sym c.in_ok-chosen-in-At.ensures.means ∙ c.in-Some-2.is in
    let is : choice_value c.args.f (map (argument_value w) args) ≡ argument_value (g.V.View.world c.argument_at-in-At.new.view) c.in-Some-2.chosen =
    choice_picked c.args.f w (g.V.View.world c.argument_at.new.view) args c.in-Some.first c.in_ok-first-2.first c.choose.result (length c.items.result.now)
    first_left (sym c.in_ok-first.ensures.means ∙ c.in-Some.is) c.in_ok-first-2.ensures (count_is w customs c.args.home c.args.list.now c.items.result.now c.items.ensures) c.choose.ensures.decides
    ∙ ap (λ made. picked made (map (argument_value w) args)) c.in-At.is
    ∙ chosen_value w (g.V.View.world c.argument_at-in-At.new.view) args c.in-At.place c.in-Some-2.chosen (c.argument_at-in-At.ensures.leaves ∙ first_left) there in
    subst (λ v. IfOk c.into_value-in-Some-2.result (λ value. value ≡ v)) (sym is) c.into_value-in-Some-2.ensures

pub choice-returns-in-Some-2-clause-most : goal.choice-returns-in-Some-2-clause-most
choice-returns-in-Some-2-clause-most g t c =
    both_within (g.V.View.world c.args.view.now) (g.V.View.world c.argument_at.new.view) (sheet_of c.args.home) (terms_at c.args.home c.args.list.now) c.in-At.place c.args.steps.now c.argument_at.new.steps c.argument_at-in-At.new.steps
    c.argument_at.ensures.leaves c.in-At.ensures.among.0 c.argument_at.ensures.most c.argument_at-in-At.ensures.most

pub choice-returns-in-None-clause-means : goal.choice-returns-in-None-clause-means
choice-returns-in-None-clause-means g t c =
    let w = g.V.View.world c.args.view.now in
    let customs = g.C.Customs.customs c.args.customs.now in
    let args = evaluated w customs c.args.home (terms_at c.args.home c.args.list.now) in
    let first_left = c.argument_at.ensures.leaves in
    let nothing : slice_get args c.in-At.place ≡ None =
    ap (λ u. slice_get (evaluated u customs c.args.home (terms_at c.args.home c.args.list.now)) c.in-At.place) (sym first_left) ∙ sym c.in_ok-chosen-in-At.ensures.means ∙ c.in-None.is in
    sym (choice_picked c.args.f w (g.V.View.world c.argument_at.new.view) args c.in-Some.first c.in_ok-first-2.first c.choose.result (length c.items.result.now)
    first_left (sym c.in_ok-first.ensures.means ∙ c.in-Some.is) c.in_ok-first-2.ensures (count_is w customs c.args.home c.args.list.now c.items.result.now c.items.ensures) c.choose.ensures.decides
    ∙ ap (λ made. picked made (map (argument_value w) args)) c.in-At.is
    ∙ none_picked w args c.in-At.place nothing)

pub choice-returns-in-None-clause-most : goal.choice-returns-in-None-clause-most
choice-returns-in-None-clause-most g t c =
    both_within (g.V.View.world c.args.view.now) (g.V.View.world c.argument_at.new.view) (sheet_of c.args.home) (terms_at c.args.home c.args.list.now) c.in-At.place c.args.steps.now c.argument_at.new.steps c.argument_at-in-At.new.steps
    c.argument_at.ensures.leaves c.in-At.ensures.among.0 c.argument_at.ensures.most c.argument_at-in-At.ensures.most

pub call-returns-in-Some-Choice-clause-most : goal.call-returns-in-Some-Choice-clause-most
call-returns-in-Some-Choice-clause-most g t c =
    plain_within (g.V.View.world c.args.view.now) (sheet_of c.args.home) (is_place_word c.args.word.now) (terms_at c.args.home c.args.list.now) c.args.steps.now c.choice.new.steps
    (choice_asks c.args.word.now c.in-Some-Choice.f (sym c.named.ensures ∙ c.in-Some-Choice.is ∙ ap Some c.in-Some-Choice.field-0-is)) c.choice.ensures.most

-- what the arguments take and what their blocks do are no more than all
data_within : (w u : World) (args items : List Argument) (most before between after : ℕ) → u ≡ w → args ≡ items → between + sizes w items ≤ before + most → after ≤ between + sizes u args → after ≤ before + most
data_within w u args items most before between after same are room taken =
    let e : sizes u args ≡ sizes w items = ap (λ v. sizes v args) same ∙ ap (sizes w) are in
    omega (arith, room, taken, e)

pub call-returns-in_ok-args-in-Some-Data-clause-most : goal.call-returns-in_ok-args-in-Some-Data-clause-most
call-returns-in_ok-args-in-Some-Data-clause-most g t c =
    let w = g.V.View.world c.args.view.now in
    let ts = terms_at c.args.home c.args.list.now in
    plain_within w (sheet_of c.args.home) (is_place_word c.args.word.now) ts c.args.steps.now c.data_value.new.steps
    (data_asks c.args.word.now c.in-Some-Data.f (sym c.named.ensures ∙ c.in-Some-Data.is ∙ ap Some c.in-Some-Data.field-0-is))
    (data_within w (g.V.View.world c.arguments-in-Some-Data.new.view) c.deref-in-Some-Data.result.now c.in_ok-args-in-Some-Data.args.items (cost_all w (sheet_of c.args.home) false ts)
    c.args.steps.now c.arguments-in-Some-Data.new.steps c.data_value.new.steps c.arguments-in-Some-Data.ensures.leaves c.deref-in-Some-Data.ensures.value c.in_ok-args-in-Some-Data.ensures.room c.data_value.ensures.most)

pub call-returns-in-None-clause-most : goal.call-returns-in-None-clause-most
call-returns-in-None-clause-most g t c =
    plain_within (g.V.View.world c.args.view.now) (sheet_of c.args.home) (is_place_word c.args.word.now) (terms_at c.args.home c.args.list.now) c.args.steps.now c.custom_call.new.steps
    (custom_asks c.args.word.now (sym c.named.ensures ∙ c.in-None.is)) c.custom_call.ensures.most
