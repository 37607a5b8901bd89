use Rattle.std.proofs.Common.{◌≡◌, ◌<◌, ℕ, false, take, true}
use Rattle.std.specs.Prelude.{IsSome}
use Rattle.needs_order.specs.Needs.{has}
use Rattle.node_links.specs.Redirect.{few_target}
use Rattle.dep_graph.specs.internal.Files.{FilesOn}
use Rattle.dep_graph.specs.internal.Filings.{filing_of, filing_then, is_given}
use Rattle.dep_graph.specs.internal.Numbers.{count_of}
use Rattle.dep_graph.specs.internal.ShiftedNumbers.{AreFilingsUnder, IsRefiled}
use Rattle.dep_graph.proofs.net.Net.refiled.Given as goal

-- the used ranges gone by are filed where they go, and all that weren't found are filed as they were
abbrev pub invariant-numbers : goal.invariant-numbers
invariant-numbers l = record {
  nodes : l.self.nodes ≡ l.fn.self.nodes;
  links : l.self.links ≡ l.fn.self.links;
  files : FilesOn l.fn.self.files l.self.files;
  inside : (n : ℕ) → is_given l.filings n ≡ true → n < count_of l.fn.self.nodes;
  filings : AreFilingsUnder l.fn.lines l.self (filing_then l.filings l.self.files.current);
  refiled : (n : ℕ) → has n (take l.number-index l.found) ≡ true → IsRefiled l.fn.s l.self (few_target l.fn.few) n (filing_then l.filings l.self.files.current);
  others : (n : ℕ) → has n l.found ≡ false → IsSome (filing_of l.fn.self.files.current n) → IsSome (filing_then l.filings l.self.files.current n);
}
