use Rattle.std.proofs.Common.{◌≡◌, ◌<◌, sym, refl, subst, get_or, inl, inr, Some}
use Rattle.needs_order.proofs.Lists.{has_at}
use Rattle.dep_graph.specs.internal.Numbers.{count_of, found_under, key_at}
use Rattle.dep_graph.specs.internal.Touches.{IsKept}
use Rattle.dep_graph.proofs.Untouched.{all_more, found_of_key, kept_more, more_more, taken_cases}
use Rattle.dep_graph.proofs.touches.Touches.keep_all.Goals as goal

pub keep_found-requires-clause-number : goal.keep_found-requires-clause-number
keep_found-requires-clause-number c = c.requires.inside (get_or c.args.numbers.now c.numbers.number-index 0) (has_at c.args.numbers.now c.numbers.number-index c.numbers-test.true)

pub keep_found-requires-clause-indexed : goal.keep_found-requires-clause-indexed
keep_found-requires-clause-indexed c = all_more c.args.nodes.now c.args.self.now c.numbers.self c.numbers.invariant.more c.requires.indexed

pub numbers-preserved : goal.numbers-preserved
numbers-preserved c =
    let lines = c.args.lines.now in
    let i = c.numbers.number-index in
    let number = get_or c.args.numbers.now i 0 in
    let low : number < count_of c.args.nodes.now = c.requires.inside number (has_at c.args.numbers.now i c.numbers-test.true) in
    record {
      more = more_more c.args.self.now c.numbers.self c.keep_found.new.self c.numbers.invariant.more c.keep_found.ensures.more;
      kept = λ n a h low_n is. elim (taken_cases c.args.numbers.now i n 0 c.numbers-test.true h) [
        | inl early ↦ kept_more lines c.numbers.self c.keep_found.new.self n a c.keep_found.ensures.more (c.numbers.invariant.kept n a early (subst (λ m. n < m) c.keep_found.ensures.more.kept low_n) is)
        | inr here ↦ subst (λ m. IsKept lines c.keep_found.new.self m a) (sym here)
            (c.in_ok-keep_found.ensures.kept a (subst (λ m. m < c.keep_found.new.self.kept) here low_n) (found_of_key lines c.args.nodes.now number (key_at c.args.nodes.now number) a low refl (subst (λ m. found_under lines c.args.nodes.now.keys.keys m ≡ Some a) here is)))
      ];
    }
