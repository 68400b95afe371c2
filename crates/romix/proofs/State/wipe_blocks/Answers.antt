-- `romix::State::wipe_blocks` meets its contract: the blocks lie within the scratch.
use Rattle.std.proofs.Common.{arith}
use Rattle.romix.proofs.Blocks.{blocks_in}
use Rattle.romix.proofs.State.wipe_blocks.Goals as goal

pub wipe-requires : goal.wipe-requires
wipe-requires c =
    let room = blocks_in c.args.i c.args.n c.requires.0 c.requires.1 in
    omega arith
