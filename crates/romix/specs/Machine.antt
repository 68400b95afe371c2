-- The machine: one mixing a step over one lent scratch of blocks. Block i lies at byte i·128·r:
-- lanes 0 .. p-1, then X, the block stepped forward, the working block, and the stored blocks V[0], V[k], V[2k] ..
-- Each definition says what the whole scratch is afterwards. Between mixings nothing is asked of the working block, so they speak of the scratch with that block wiped.
use Rattle.std.specs.Prelude.{◌≡◌, ℕ, zero, suc, ◌+◌, ◌*◌, ◌/◌, ◌%◌, ◌^◌, ◌<◌, ◌≤◌, List, ◌==◌, nat_lt}
use Rattle.std.proofs.lemmas.List.Edits.{sets}
use Rattle.lent.specs.Bytes.{part, zeros, xors, pick}
use Rattle.mixing.specs.BlockMix.{block_mix}
use Rattle.romix.specs.declared.State.{State}
use Rattle.romix.specs.ROMix.{place}

-- ---- blocks of the scratch

-- the bytes of a block
abbrev pub block : State → ℕ
block t = 128 * t.r

-- block i as it is, and the scratch with block i written
abbrev pub get : State → ℕ → List ℕ → List ℕ
get t i s = part (i * block t) (block t) s

abbrev pub put : State → ℕ → List ℕ → List ℕ → List ℕ
put t i v s = sets s (i * block t) v

-- which block is X, the one stepped forward, the working block, and stored block q
abbrev pub at_x : State → ℕ
at_x t = t.p

abbrev pub at_step : State → ℕ
at_step t = t.p + 1

abbrev pub at_work : State → ℕ
at_work t = t.p + 2

abbrev pub at_stored : State → ℕ → ℕ
at_stored t q = t.p + 3 + q

-- how many blocks there are
abbrev pub blocks : State → ℕ
blocks t = t.p + 3 + t.w

-- the scratch with its working block wiped
unfoldable pub clean : State → List ℕ → List ℕ
clean t s = put t (at_work t) (zeros (block t)) s

-- the blocks lie within the scratch
pub record Room (t : State) (long : ℕ) : Type 0 where
  pub thin : 0 < t.r
  pub wide : t.r ≤ 64
  pub room : blocks t * block t ≤ long

-- what a state must be for a step on a scratch of that length to be safe, whatever the bytes are
pub record Fit (t : State) (long : ℕ) : Type 0 where
  pub within : Room t long
  pub some : 0 < t.n
  pub small : t.n ≤ 2 ^ 32
  pub word : 2 ^ 32 % t.n ≡ 0
  pub space : 0 < t.k
  pub held : t.n ≤ t.w * t.k
  pub turned : t.pos < 2 * t.n

-- the state before the first mixing
abbrev pub opening : ℕ → ℕ → ℕ → ℕ → ℕ → State
opening n r p k w = record { n = n; r = r; p = p; k = k; w = w; lane = 0; pos = 0; ahead = 0; made = 0 }

-- ---- one step

-- the same costs and places, elsewhere
abbrev pub moved : State → ℕ → ℕ → ℕ → ℕ → State
moved t lane pos ahead made =
    record { n = t.n; r = t.r; p = t.p; k = t.k; w = t.w; lane = lane; pos = pos; ahead = ahead; made = made }

-- the count after one mixing more, and block `to` as block `from` mixed
abbrev pub more : State → ℕ
more t = (t.made + 1) % 2 ^ 64

abbrev pub mixed : State → ℕ → ℕ → List ℕ → List ℕ
mixed t from to s = put t to (block_mix t.r (get t from s)) s

-- X is V[i]: it is stored where k divides i and i is below N
unfoldable pub kept : State → ℕ → List ℕ → List ℕ
kept t i s = pick (i % t.k == 0) (pick (nat_lt i t.n) (put t (at_stored t (i / t.k)) (get t (at_x t) s) s) s) s

-- step 2 of RFC 7914 section 5
unfoldable pub first : State → List ℕ → State × List ℕ
unfolding kept
first t s = (moved t t.lane (t.pos + 1) 0 (more t), kept t (t.pos + 1) (mixed t (at_x t) (at_x t) s))

-- where the block lies that is j - j mod k + ahead mixings from the lane's start
abbrev pub source : State → ℕ → ℕ
source t j = pick (t.ahead == 0) (at_stored t (j / t.k)) (at_step t)

-- towards V[j]
unfoldable pub forward : State → ℕ → List ℕ → State × List ℕ
forward t j s = (moved t t.lane t.pos (t.ahead + 1) (more t), mixed t (source t j) (at_step t) s)

-- the block that was stepped forward is wiped
unfoldable pub settled : State → List ℕ → List ℕ
settled t s = pick (t.ahead == 0) s (put t (at_step t) (zeros (block t)) s)

-- step 3: X xor V[j], mixed
unfoldable pub second : State → ℕ → List ℕ → State × List ℕ
unfolding settled
second t j s =
    (moved t t.lane (t.pos + 1) 0 (more t), settled t (put t (at_x t) (block_mix t.r (xors (get t (at_x t) s) (get t (source t j) s))) s))

-- a lane begins: X and V[0] are its block
unfoldable pub loaded : State → ℕ → List ℕ → List ℕ
loaded t lane s = put t (at_stored t 0) (get t lane s) (put t (at_x t) (get t lane s) s)

-- the lane after a finished one, if there is one, begins on wiped stored blocks
unfoldable pub followed : State → ℕ → List ℕ → List ℕ
unfolding loaded
followed t lane s = pick (nat_lt lane t.p) (loaded t lane (sets s (at_stored t 0 * block t) (zeros (t.w * block t)))) s

-- a lane is finished: X is its block
unfoldable pub finished : State → ℕ → List ℕ → State × List ℕ
unfolding followed
finished t made s = (moved t (t.lane + 1) 0 0 made, followed t (t.lane + 1) (put t t.lane (get t (at_x t) s) s))

-- one mixing
unfoldable pub next : State → List ℕ → State × List ℕ
unfolding first forward second finished
next t s =
    let j = place t.n (get t (at_x t) s) in
    pick (nat_lt t.pos t.n) (first t s)
    (pick (nat_lt t.ahead (j % t.k)) (forward t j s)
    (pick (nat_lt (t.pos + 1) (2 * t.n)) (second t j s) (finished t (more t) (second t j s).1)))

-- that many mixings, or all that are left if fewer
unfoldable pub after : ℕ → State → List ℕ → State × List ℕ
unfolding next
after zero t s = (t, s)
after (suc m) t s = pick (nat_lt t.lane t.p) (after m (next t s).0 (next t s).1) (t, s)
