use Rattle.std.proofs.Common.{◌≡◌, false, rules}
use Rattle.block_index.specs.internal.Keys.{has_size}
use Rattle.block_index.proofs.Filing.{size_more}
use Rattle.block_index.proofs.index.BlockIndex.use_size.Goals as goal

pub returns-in_ok-push-clause-alike : goal.returns-in_ok-push-clause-alike
returns-in_ok-push-clause-alike c =
    let fresh : has_size c.args.size c.args.self.now.sizes.items ≡ false = search rules in
    size_more c.args.self.now c.push.new.self.items c.args.size fresh c.in_ok-push.ensures.items
