-- What the code makes from two hash values that it keeps: `outer` after the key's block, and `inner` after the first `before` bytes of what is hashed inside,
-- the key's block and the whole blocks of the text, of which s is the rest. The laws join these to RFC 2104 and RFC 8018.
use Rattle.std.specs.Prelude.{List, ◌++◌, ℕ, ◌+◌, length}
use Rattle.lent.specs.Word.{be}
use Rattle.sha256.specs.Sha256.{closed}

unfoldable pub twice : List ℕ → List ℕ → ℕ → List ℕ → List ℕ
twice outer inner before s = closed outer (closed inner s (before + length s)) 96

unfoldable pub piece : List ℕ → List ℕ → ℕ → List ℕ → ℕ → List ℕ
piece outer inner before s i = twice outer inner before (s ++ be 4 i)
