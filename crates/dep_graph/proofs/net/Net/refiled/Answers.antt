use Rattle.std.proofs.Common.{◌≡◌, ◌∙◌, ◌<◌, get_or, inl, inr, refl, subst, sym, true}
use Rattle.std.specs.Prelude.{IsSome}
use Rattle.std.proofs.lemmas.Bool.{false≢true}
use Rattle.std.proofs.lemmas.List.{take_all}
use Rattle.needs_order.specs.Needs.{has}
use Rattle.needs_order.proofs.Lists.{has_at}
use Rattle.node_links.specs.Redirect.{few_target}
use Rattle.dep_graph.specs.declared.table.NodeTable.{NodeTable}
use Rattle.dep_graph.specs.internal.Filings.{filing_of, filing_then}
use Rattle.dep_graph.specs.internal.Numbers.{count_of}
use Rattle.dep_graph.specs.internal.ShiftedNumbers.{IsRefiled}
use Rattle.dep_graph.proofs.Refiling.{all_refiled, files_on_on, files_same, others_serve, refiled_before, same_targets, still_refiled, unfiled_inside, unfiled_still}
use Rattle.dep_graph.proofs.Untouched.{taken_cases}
use Rattle.dep_graph.proofs.net.Net.refiled.Goals as goal

pub numbers-init : goal.numbers-init
numbers-init c =
    let net = c.args.self.now in
    record {
      nodes = refl;
      links = refl;
      files = files_same net.files;
      inside = unfiled_inside c.args.found.now c.in_ok-filings.filings (count_of net.nodes) c.in_ok-filings.ensures c.requires.inside;
      filings = others_serve c.args.s.now c.args.lines.now net c.args.found.now c.in_ok-filings.filings c.requires.sound c.requires.moved c.requires.found c.in_ok-filings.ensures;
      refiled = λ n h. absurd (false≢true h);
      others = λ n other h. unfiled_still c.args.found.now c.in_ok-filings.filings net.files c.in_ok-filings.ensures n other h;
    }

pub refile-requires-clause-number : goal.refile-requires-clause-number
refile-requires-clause-number c =
    let i = c.numbers.number-index in
    subst (λ (t : NodeTable). get_or c.args.found.now i 0 < count_of t) (sym c.numbers.invariant.nodes) (c.requires.inside (get_or c.args.found.now i 0) (has_at c.args.found.now i c.numbers-test.true))

pub refile-requires-clause-targets : goal.refile-requires-clause-targets
refile-requires-clause-targets c =
    same_targets c.args.s.now c.args.lines.now c.args.self.now c.numbers.self c.numbers.invariant.nodes c.numbers.invariant.links (few_target c.args.few.now) c.requires.targets

pub returns-in_err-refile-clause-files : goal.returns-in_err-refile-clause-files
returns-in_err-refile-clause-files c = files_on_on c.args.self.now.files c.numbers.self.files c.refile.new.self.files c.numbers.invariant.files c.refile.ensures.files

pub numbers-preserved : goal.numbers-preserved
numbers-preserved c =
    let s = c.args.s.now in
    let target = few_target c.args.few.now in
    let old = c.numbers.self in
    let new = c.refile.new.self in
    let filing = filing_then c.refile.new.filings new.files.current in
    let i = c.numbers.number-index in
    record {
      nodes = c.refile.ensures.nodes ∙ c.numbers.invariant.nodes;
      links = c.refile.ensures.links ∙ c.numbers.invariant.links;
      files = files_on_on c.args.self.now.files old.files new.files c.numbers.invariant.files c.refile.ensures.files;
      inside = λ n h. subst (λ (t : NodeTable). n < count_of t) c.numbers.invariant.nodes (c.in_ok-refile.ensures.inside n h);
      filings = c.in_ok-refile.ensures.filings;
      refiled = λ n h. refiled_before s c.args.lines.now old new c.refile.ensures.nodes c.refile.ensures.links target n filing (elim (taken_cases c.args.found.now i n 0 c.numbers-test.true h) [
        | inl early ↦ still_refiled s old target n (filing_then c.numbers.filings old.files.current) filing c.in_ok-refile.ensures.still (c.numbers.invariant.refiled n early)
        | inr here ↦ subst (λ m. IsRefiled s old target m filing) (sym here) c.in_ok-refile.ensures.refiled
      ]);
      others = λ n other h. c.in_ok-refile.ensures.still n (c.numbers.invariant.others n other h);
    }

pub returns-clause-inside : goal.returns-clause-inside
returns-clause-inside c = λ n h. subst (λ (t : NodeTable). n < count_of t) (sym c.numbers.invariant.nodes) (c.numbers.invariant.inside n h)

pub returns-clause-refiled : goal.returns-clause-refiled
returns-clause-refiled c =
    let net = c.numbers.self in
    let filing = filing_then c.numbers.filings net.files.current in
    all_refiled c.args.s.now net c.args.few.now c.args.found.now filing c.requires.among
    (λ n h. c.numbers.invariant.refiled n (subst (λ l. has n l ≡ true) (sym (take_all c.numbers.number-index c.args.found.now c.numbers-test.false)) h))
    (λ n other h. c.numbers.invariant.others n other (subst (λ v. IsSome (filing_of v n)) c.numbers.invariant.files.current h))
