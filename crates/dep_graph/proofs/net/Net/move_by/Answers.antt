use Rattle.std.proofs.Common.{◌≡◌, ◌∙◌, ◌<◌, ap, map, refl, subst, sym, true}
use Rattle.needs_order.specs.Needs as plain
use Rattle.node_links.specs.Nodes.{needs_of}
use Rattle.node_links.specs.Redirect.{AreRedirected, few_target}
use Rattle.place_lines.specs.Moved.{AreMoved}
use Rattle.shift_core.specs.Form.{form_of}
use Rattle.dep_graph.specs.Graph.{AreSame}
use Rattle.dep_graph.specs.declared.table.NodeTable.{NodeTable}
use Rattle.dep_graph.specs.internal.Filings.{filing_then}
use Rattle.dep_graph.specs.internal.Nets.{links_in}
use Rattle.dep_graph.specs.internal.Numbers.{count_of, linked, node_at, place_of}
use Rattle.dep_graph.specs.internal.ShiftedNumbers.{AreTargets}
use Rattle.dep_graph.specs.internal.Touches.{AreInside, AreKept, FindsTouched}
use Rattle.dep_graph.proofs.Adding.{on_err}
use Rattle.dep_graph.proofs.Growing.{same_grows}
use Rattle.dep_graph.proofs.Refiling.{same_targets}
use Rattle.dep_graph.proofs.Shifting.{all_shifted, by_lines, ends_alive, filings_after, same_links, shifted_after, still_served, used_filed}
use Rattle.dep_graph.proofs.Untouched.{all_indexed, all_more}
use Rattle.dep_graph.proofs.net.Net.move_by.Goals as goal

pub refiled-requires-clause-among : goal.refiled-requires-clause-among
refiled-requires-clause-among c = λ n h. subst (λ l. plain.has n l ≡ true) (sym c.as_slice-found.ensures.keys) (c.requires.among n h)

pub refiled-requires-clause-found : goal.refiled-requires-clause-found
refiled-requires-clause-found c = subst (FindsTouched c.args.s.now c.args.self.now.nodes) (sym c.as_slice-found.ensures.keys) c.requires.found

pub refiled-requires-clause-inside : goal.refiled-requires-clause-inside
refiled-requires-clause-inside c = subst (AreInside c.args.self.now.nodes) (sym c.as_slice-found.ensures.keys) c.requires.inside

pub returns-in_err-filings-clause-err : goal.returns-in_err-filings-clause-err
returns-in_err-filings-clause-err c =
    let old = c.args.self.now in
    on_err c.from_residual.result _ (same_links old old c.refiled.new.self (same_grows old) c.refiled.ensures.nodes c.refiled.ensures.links)

pub keep_all-requires-clause-moved : goal.keep_all-requires-clause-moved
keep_all-requires-clause-moved c = subst (λ (t : NodeTable). AreMoved (form_of c.args.s.now) t.lines c.args.lines) (sym c.refiled.ensures.nodes) c.requires.moved

pub keep_all-requires-clause-indexed : goal.keep_all-requires-clause-indexed
keep_all-requires-clause-indexed c = c.refiled.new.self.indexed

pub keep_all-requires-clause-inside : goal.keep_all-requires-clause-inside
keep_all-requires-clause-inside c =
    subst (AreInside c.refiled.new.self.nodes) (sym c.as_slice-found.ensures.keys) (subst (λ (t : NodeTable). AreInside t c.args.aims.now.found.keys) (sym c.refiled.ensures.nodes) c.requires.inside)

pub invariant_of-self : goal.invariant_of-self
invariant_of-self c =
    let net = c.refiled.new.self in
    record {
      counts = net.counts;
      rooms = net.rooms;
      alive = net.alive;
      filed = net.filed;
      used = net.used;
      indexed = all_more net.nodes net.touches c.keep_all.new.self c.keep_all.ensures.more net.indexed;
    }

pub returns-in_err-keep_all-clause-err : goal.returns-in_err-keep_all-clause-err
returns-in_err-keep_all-clause-err c =
    let old = c.args.self.now in
    on_err c.from_residual-in_err-keep_all.result _ (same_links old old c.refiled.new.self (same_grows old) c.refiled.ensures.nodes c.refiled.ensures.links)

pub redirect_few-requires-clause-nodes : goal.redirect_few-requires-clause-nodes
redirect_few-requires-clause-nodes c =
    let net = c.refiled.new.self in
    λ a h. subst (λ k. a < k) (sym net.counts) (subst (λ (t : NodeTable). a < count_of t) (sym c.refiled.ensures.nodes) (c.requires.inside a (c.requires.among a h)))

pub redirect_few-requires-clause-targets : goal.redirect_few-requires-clause-targets
redirect_few-requires-clause-targets c =
    let net = c.refiled.new.self in
    λ a t is low. subst (λ k. t < k) (sym net.counts)
    ((same_targets c.args.s.now c.args.lines c.args.self.now net c.refiled.ensures.nodes c.refiled.ensures.links (few_target c.args.aims.now.few) c.requires.targets).inside a t (subst (λ k. a < k) net.counts low) is)

pub invariant_of-self-in-Break-branch-3 : goal.invariant_of-self-in-Break-branch-3
invariant_of-self-in-Break-branch-3 c =
    let net = c.refiled.new.self in
    record {
      counts = c.redirect_few.ensures.count ∙ net.counts;
      rooms = net.rooms;
      alive = λ a n h. net.alive a n (subst (λ l. plain.has n l ≡ true) (c.in_err-redirect_few.ensures.err a) h);
      filed = net.filed;
      used = λ a n h. net.used a n (subst (λ l. plain.has n l ≡ true) (c.in_err-redirect_few.ensures.err a) h);
      indexed = all_more net.nodes net.touches c.keep_all.new.self c.keep_all.ensures.more net.indexed;
    }

pub returns-in_err-redirect_few-clause-err : goal.returns-in_err-redirect_few-clause-err
returns-in_err-redirect_few-clause-err c =
    let old = c.args.self.now in
    let net = c.refiled.new.self in
    on_err c.from_residual-in_err-redirect_few.result _
    (λ x. ap (map (node_at net.nodes)) (c.in_err-redirect_few.ensures.err (place_of net.nodes x)) ∙ same_links old old net (same_grows old) c.refiled.ensures.nodes c.refiled.ensures.links x)

pub put_few-requires-clause-inside : goal.put_few-requires-clause-inside
put_few-requires-clause-inside c =
    let net = c.refiled.new.self in
    λ n h. subst (λ k. n < k) (sym net.rooms) (c.in_ok-filings.ensures.inside n h)

pub put_few-requires-clause-serving : goal.put_few-requires-clause-serving
put_few-requires-clause-serving c = λ n all is. (c.in_ok-filings.ensures.filings n all is).0

pub invariant_of-self-3 : goal.invariant_of-self-3
invariant_of-self-3 c =
    let s = c.args.s.now in
    let net = c.refiled.new.self in
    let lines = c.args.lines in
    let target = few_target c.args.aims.now.few in
    let links = c.redirect_few.new.self in
    let filing = filing_then c.in_ok-filings.filings net.files.current in
    let are : AreTargets s lines net target = same_targets s lines c.args.self.now net c.refiled.ensures.nodes c.refiled.ensures.links target c.requires.targets in
    let redirected : AreRedirected target (needs_of net.links) (needs_of links) = c.in_ok-redirect_few.ensures.ok in
    let touches = c.keep_all.new.self in
    let more = c.args.aims.now.found.keys in
    let moved : AreMoved (form_of s) net.nodes.lines lines = subst (λ (t : NodeTable). AreMoved (form_of s) t.lines lines) (sym c.refiled.ensures.nodes) c.requires.moved in
    let finds : FindsTouched s net.nodes more = subst (λ (t : NodeTable). FindsTouched s t more) (sym c.refiled.ensures.nodes) c.requires.found in
    let kept : AreKept lines net.nodes.keys.keys touches more = subst (AreKept lines net.nodes.keys.keys touches) c.as_slice-found.ensures.keys c.in_ok-keep_all.ensures.kept in
    record {
      counts = c.redirect_few.ensures.count ∙ net.counts;
      rooms = c.put_few.ensures.count ∙ net.rooms;
      alive = ends_alive s lines net target are links redirected;
      filed = λ n f is. filings_after net.files c.put_few.new.self filing c.put_few.ensures.owners c.put_few.ensures.kept c.put_few.ensures.serves lines net refl c.in_ok-filings.ensures.filings c.put_few.ensures.index c.put_few.ensures.wholes n f is;
      used = λ a n h range.
          still_served net.files c.put_few.new.self filing c.put_few.ensures.owners c.put_few.ensures.kept c.put_few.ensures.serves n
          (used_filed s lines net target are links redirected filing c.in_ok-filings.ensures.refiled a n h range);
      indexed = record {
        reached = (all_more net.nodes net.touches touches c.keep_all.ensures.more net.indexed).reached;
        each = all_indexed s c.requires.sound net.nodes.lines lines moved net.nodes refl touches more (all_more net.nodes net.touches touches c.keep_all.ensures.more net.indexed) finds kept;
      };
    }

pub returns-clause-ok : goal.returns-clause-ok
returns-clause-ok c =
    let s = c.args.s.now in
    let old = c.args.self.now in
    let net = c.refiled.new.self in
    let lines = c.args.lines in
    let target = few_target c.args.aims.now.few in
    let links = c.redirect_few.new.self in
    let are : AreTargets s lines net target = same_targets s lines old net c.refiled.ensures.nodes c.refiled.ensures.links target c.requires.targets in
    let redirected : AreRedirected target (needs_of net.links) (needs_of links) = c.in_ok-redirect_few.ensures.ok in
    let same : AreSame (links_in old) (links_in net) = same_links old old net (same_grows old) c.refiled.ensures.nodes c.refiled.ensures.links in
    shifted_after s (links_in old) (links_in net) (linked (by_lines lines net.nodes) links) same (all_shifted s lines net target are links redirected)
