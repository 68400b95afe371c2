-- `romix::State::run` meets its contract: each turn makes one mixing of those that are left.
use Rattle.std.proofs.Common.{◌-◌}
use Rattle.romix.proofs.Steps.{Running}
use Rattle.romix.proofs.State.run.Given as goal

abbrev pub invariant-loop : goal.invariant-loop
invariant-loop l = Running l.fn.self l.initial.s l.allowance l.u l.s (l.allowance - l.counter)
