-- `romix::State::mix` meets its contract: the block is mixed from one place to the other, and counted.
use Rattle.romix.proofs.Blocks.{pair_fits}
use Rattle.romix.proofs.State.mix.Goals as goal

pub block_mix-requires : goal.block_mix-requires
block_mix-requires c =
    let pair = pair_fits c.args.from c.args.to c.requires.0 c.requires.1 c.requires.2 c.requires.3 in
    rw (c.at.ensures, c.at-2.ensures) (c.requires.0.thin, c.requires.0.wide, pair.0, pair.1, pair.2)
