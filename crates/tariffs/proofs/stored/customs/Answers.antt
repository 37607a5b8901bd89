-- Neither function is refused.
use Rattle.tariffs.proofs.NewNames.{levy-is_new, postage-is_new}
use Rattle.tariffs.proofs.stored.customs.Goals as goal

pub add-requires : goal.add-requires
add-requires g c = rw (c.in_ok-registry.ensures, c.new-2.ensures.name, c.in_ok-name.ensures) postage-is_new

pub add-requires-2 : goal.add-requires-2
add-requires-2 g c = rw (c.in_ok-add.ensures, c.in_ok-registry.ensures, c.new-2.ensures.name, c.new-2.ensures.rule, c.in_ok-name.ensures, c.in_ok-postage_rule.ensures, c.new-3.ensures.name, c.in_ok-name-2.ensures) levy-is_new
