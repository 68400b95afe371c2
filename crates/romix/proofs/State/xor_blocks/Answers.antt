-- `romix::State::xor_blocks` meets its contract: three blocks lie within the scratch, the one written apart from the others.
use Rattle.romix.proofs.Blocks.{pair_fits}
use Rattle.romix.proofs.State.xor_blocks.Goals as goal

pub xor_to-requires : goal.xor_to-requires
xor_to-requires c =
    let one = pair_fits c.args.a c.args.to c.requires.0 c.requires.1 c.requires.3 c.requires.4 in
    let two = pair_fits c.args.b c.args.to c.requires.0 c.requires.2 c.requires.3 c.requires.5 in
    rw (c.at.ensures, c.at-2.ensures, c.at-3.ensures) (one.0, two.0, one.1, one.2, two.2)
