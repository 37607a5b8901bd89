use Rattle.std.proofs.Common.{◌≡◌, take}
use Rattle.std.specs.BTreeSet.{contains}
use Rattle.std.specs.List.{list_any}
use Rattle.name_table.specs.Named.{words_of}
use Rattle.session_questions.specs.declared.shown_name.ShownName.{ShownName}
use Rattle.session_questions.specs.internal.Links.{is_shown_at}
use Rattle.session_questions.specs.internal.Names.{shown_cmp}
use Rattle.session_questions.proofs.links.names_among.Given as goal

-- the names among the nodes gone by
abbrev pub invariant-nodes : goal.invariant-nodes
invariant-nodes l = (q : ShownName) → contains shown_cmp l.shown_names q ≡ list_any (is_shown_at (words_of l.names) q) (take l.node-index l.nodes)
