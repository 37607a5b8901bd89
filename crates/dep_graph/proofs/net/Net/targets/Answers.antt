use Rattle.std.proofs.Common.{◌≡◌, ◌<◌, arith, get_or, subst, true}
use Rattle.std.proofs.lemmas.List.{take_all}
use Rattle.needs_order.specs.Needs as plain
use Rattle.needs_order.proofs.Lists.{has_at}
use Rattle.dep_graph.specs.internal.Numbers.{count_of}
use Rattle.dep_graph.proofs.Growing.{grown_length, grows_on, same_grows}
use Rattle.dep_graph.proofs.Targets.{AreTargetsOf, all_targets, next_targets, no_targets}
use Rattle.dep_graph.proofs.Untouched.{taken_before, taken_cases, taken_here, taken_once}
use Rattle.dep_graph.proofs.net.Net.targets.Goals as goal

pub target-requires-clause-number : goal.target-requires-clause-number
target-requires-clause-number c =
    let low = c.requires.inside (get_or c.args.found.now c.numbers.number-index 0) (has_at c.args.found.now c.numbers.number-index c.numbers-test.true) in
    omega (arith, low, grown_length c.args.self.now c.numbers.self c.numbers.invariant.grown)

pub returns-in_err-target-clause-grown : goal.returns-in_err-target-clause-grown
returns-in_err-target-clause-grown c = grows_on c.args.self.now c.numbers.self c.target.new.self c.numbers.invariant.grown c.target.ensures.grown

pub set_target-requires : goal.set_target-requires
set_target-requires c = λ among. taken_once c.args.found.now c.numbers.number-index 0 c.requires.once c.numbers-test.true (c.numbers.invariant.targets.among (get_or c.args.found.now c.numbers.number-index 0) among)

pub returns-in_err-set_target-clause-grown : goal.returns-in_err-set_target-clause-grown
returns-in_err-set_target-clause-grown c = grows_on c.args.self.now c.numbers.self c.target.new.self c.numbers.invariant.grown c.target.ensures.grown

pub numbers-init : goal.numbers-init
numbers-init c = record {
  grown = same_grows c.args.self.now;
  targets = no_targets c.args.s.now c.args.lines.now c.args.self.now c.new-few.result c.new-few.ensures.empty;
}

pub numbers-preserved : goal.numbers-preserved
numbers-preserved c =
    let found = c.args.found.now in
    let i = c.numbers.number-index in
    let low = c.requires.inside (get_or found i 0) (has_at found i c.numbers-test.true) in
    let inside : get_or found i 0 < count_of c.numbers.self.nodes = omega (arith, low, grown_length c.args.self.now c.numbers.self c.numbers.invariant.grown) in
    record {
      grown = grows_on c.args.self.now c.numbers.self c.target.new.self c.numbers.invariant.grown c.target.ensures.grown;
      targets = next_targets c.args.s.now c.args.lines.now c.numbers.self c.target.new.self _ _ (get_or found i 0) c.numbers.few c.set_target.new.few c.in_ok-target.target
          c.target.ensures.grown inside c.numbers.invariant.targets c.in_ok-set_target.ensures
          (λ n h. taken_cases found i n 0 c.numbers-test.true h) (λ n h. taken_before found i n 0 c.numbers-test.true h) (taken_here found i 0 c.numbers-test.true)
          c.in_ok-target.ensures.aim c.in_ok-target.ensures.inside;
    }

pub returns-clause-targets : goal.returns-clause-targets
returns-clause-targets c =
    let s = c.args.s.now in
    let lines = c.args.lines.now in
    all_targets s lines c.args.self.now c.numbers.self c.args.found.now c.numbers.few c.requires.sound c.requires.moved c.numbers.invariant.grown c.requires.found
    (subst (λ l. AreTargetsOf s lines c.numbers.self l c.numbers.few) (take_all c.numbers.number-index c.args.found.now c.numbers-test.false) c.numbers.invariant.targets)

pub returns-clause-among : goal.returns-clause-among
returns-clause-among c = λ n h. subst (λ l. plain.has n l ≡ true) (take_all c.numbers.number-index c.args.found.now c.numbers-test.false) (c.numbers.invariant.targets.among n h)
