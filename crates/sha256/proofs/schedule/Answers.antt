-- `sha256::schedule` meets its contract: after the turn of t the first t + 1 words are the schedule's.
use Rattle.std.proofs.Common.{refl, arith, length-set}
use Rattle.sha256.specs.Sha256.{schedule}
use Rattle.sha256.proofs.Laws.{schedule_load, schedule-next}
use Rattle.sha256.proofs.schedule.Goals as goal
use Rattle.sha256.proofs.schedule.Goals.{then-t-lt16, else-t-lt16}

pub loop-t-init : goal.loop-t-init
unfolding schedule
loop-t-init c = (refl, refl)

pub loop-t-preserved : goal.loop-t-preserved
loop-t-preserved c =
    let i = c.loop-t.invariant in
    let b = c.args.block.now in (
      simp length-set i.0,
      elim c.if-t-lt16.branch [
        | then-t-lt16 w ↦ rw (w.w-is, w.get.ensures) (schedule_load b c.loop-t.w c.loop-t.t (omega arith) i.1 w.if-t-lt16.true)
        | else-t-lt16 w ↦ rw (w.w-is, w.next.ensures) (schedule-next b c.loop-t.w c.loop-t.t (omega arith) i.1 w.if-t-lt16.false)
      ],
    )
