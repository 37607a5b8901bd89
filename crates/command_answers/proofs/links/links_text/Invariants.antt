use Rattle.std.proofs.Common.{◌≡◌, ◌++◌, drop, string_bytes}
use Rattle.command_answers.specs.Replies.{links_text}
use Rattle.book_model.specs.Workbook.{State}
use Rattle.book_engine.specs.Engine.{StandsFor}
use Rattle.command_answers.specs.internal.Links.{links_left}
use Rattle.command_answers.proofs.links.links_text.Given as goal

-- the text so far and the links that are left make the whole
abbrev pub invariant-links : goal.invariant-links
invariant-links g l = (d : State) → StandsFor g.C.Customs.customs l.engine d → string_bytes l.text ++ links_left d.book l.place (drop l.place l.links) ≡ links_text d.book l.links
