use Rattle.std.proofs.Common.{subst, List}
use Rattle.formula_tree.specs.declared.link.Link.{Link}
use Rattle.engine_face.specs.Links.{LinksTold}
use Rattle.engine_face.proofs.Linking.{told_written}
use Rattle.engine_face.proofs.links.answer_links.Goals as goal

pub returns-in-Ok-list_of-clause-told : goal.returns-in-Ok-list_of-clause-told
returns-in-Ok-list_of-clause-told c =
    let P : List Link → Type 0 = λ links. LinksTold links c.args.counts.now c.write_links.new.counts c.write_links.result in
    let listed = c.in-Ok-list_of.listed in
    rw c.in-Ok.is (subst P c.deref.ensures.value (told_written c.deref.result.now listed.rows.items c.args.rows.now c.write_links.new.rows listed.words.items c.args.words.now c.write_links.new.words c.args.counts.now c.write_links.new.counts c.in-Ok-list_of.ensures.0 c.in-Ok-list_of.ensures.1 c.write_links.ensures.links c.write_links.ensures.words c.write_links.result c.write_links.ensures.fits))
