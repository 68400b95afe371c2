-- `romix::State::copy_block` meets its contract: two blocks lie within the scratch, and apart.
use Rattle.romix.proofs.Blocks.{pair_fits}
use Rattle.romix.proofs.State.copy_block.Goals as goal

pub copy_within-requires : goal.copy_within-requires
copy_within-requires c =
    rw (c.at.ensures, c.at-2.ensures) (pair_fits c.args.from c.args.to c.requires.0 c.requires.1 c.requires.2 c.requires.3)
