-- Canonical texts are read as their trees. Serves the laws on reading what was printed.
use Rattle.std.proofs.Common.{refl, ℕ, List}
use Rattle.cell_addr.specs.Sheets.{AreApart, id_in, name_in}
use Rattle.cell_addr.proofs.Listed.{id_in-listed, name_in-listed, listed-id_in}
use Rattle.formula_tree.specs.Proper.{AreNamed}
use Rattle.formula_tree.proofs.Exact.{text_reader-exact}
use Rattle.formula_tree.proofs.CanonicalText.{canonical-spells}
use Rattle.formula_tree.proofs.ProperTrees.{spelled-proper, spelled-listed}
use Rattle.formula_tree.specs.Canonical.{formula_text}
use Rattle.formula_parse.specs.Laws.{CanonicalIsRead, ReadAgain}

pub canonical-is-read : CanonicalIsRead
canonical-is-read home find names t proper listed depth =
    (text_reader-exact home find (formula_text home names t) t).1 (canonical-spells home find names t proper listed, depth)

-- in a list without a name twice, each sheet that is found has a name by which it is found
pub named-apart : (sheets : List (ℕ × List ℕ)) → AreApart sheets → AreNamed (name_in sheets) (id_in sheets)
named-apart sheets apart v sheet found =
    let (w, (listed, same)) = listed-id_in sheets v sheet found in
    (w, name_in-listed sheets (sheet, w) apart listed, id_in-listed sheets (sheet, w) w apart listed refl)

pub read-again : ReadAgain
read-again home sheets text t apart read =
    let spelt = (text_reader-exact home (id_in sheets) text t).0 read in
    canonical-is-read home (id_in sheets) (name_in sheets) t (spelled-proper home (id_in sheets) text t spelt.0)
    (spelled-listed home (id_in sheets) (name_in sheets) text t (named-apart sheets apart) spelt.0) spelt.1
