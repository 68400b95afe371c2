-- `scrypt::planned` meets its contract: a cost that passed is sound.
use mathlib.Core.Path.{sym, ◌∙◌}
use Rattle.cost.proofs.Goods.{good_sound}
use Rattle.scrypt.proofs.planned.Goals as goal

pub afford-requires : goal.afford-requires
afford-requires c = good_sound c.args.c _ (sym c.check.ensures ∙ c.in_ok-check.was)
