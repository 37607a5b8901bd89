use Rattle.cell_addr.specs.Sheets.{same_name}
use Rattle.formula_tree.specs.Links.{same_link}
use Rattle.formula_tree.specs.Mentions.{same_mention}
use Rattle.formula_tree.proofs.AllMentions.{mentions_alike}
use Rattle.formula_tree.proofs.Once.{lists_once}
use Rattle.formula_tree.proofs.SameLinks.{names_alike, links_alike}
use Rattle.formula_tree.proofs.laws.each_is_listed_once.Goals as goal

pub returns : goal.returns
returns c = record { names = lists_once same_name names_alike; links = lists_once same_link links_alike; mentions = lists_once same_mention mentions_alike }
