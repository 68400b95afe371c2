-- `romix::State::load` meets its contract: the lane's block is written to two others, and stays.
use Rattle.std.proofs.Common.{◌∙◌, add-zero, arith}
use Rattle.romix.proofs.Blocks.{get-put_other, length-get}
use Rattle.romix.specs.Machine.{get, loaded}
use Rattle.romix.proofs.State.load.Goals as goal

pub returns : goal.returns
unfolding loaded
returns c =
    let t = c.args.self in
    let s = c.args.s.now in
    let lane = c.args.lane in
    let x = c.copy_block.ensures in
    let still = get-put_other t t.p lane (get t lane s) s (length-get lane s c.requires.0 (omega arith)) (omega arith) in
    c.copy_block-2.ensures ∙ rw (x, still, add-zero)
