-- `sha256::bytes` meets its contract: the words fill the room.
use Rattle.std.proofs.Common.{refl, ◌∙◌, rules}
use Rattle.lent.specs.Bytes.{zeros}
use Rattle.sha256.proofs.Laws.{bytes_stored}
use Rattle.sha256.proofs.bytes.Goals as goal

pub returns : goal.returns
returns c = c.store.ensures ∙ bytes_stored (zeros 32) c.args.h.now refl (search rules)
