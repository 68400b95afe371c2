-- The turns of BlockMix in the order in which the code makes them: results laid at their last places at once are the RFC's result.
-- By cases on whether a turn is even; writes at places apart commute.
-- Assumes nothing.
use mathlib.Core.Path.{◌≡◌, refl, sym, ap, ◌∙◌}
use mathlib.Core.List.{List, ◌++◌}
use Prim.Native.Nat.{ℕ, suc, ◌+◌, ◌-◌, ◌*◌, ◌/◌, ◌%◌, ◌≤◌, ◌<◌}
use native.Mathlib.Numerals.{add-one}
use native.Mathlib.Decide.{dec_lt}
use native.Mathlib.Omega.{arith}
use lib.ListN.{length}
use lib.Seq.{sets, length-sets}
use Rattle.lent.specs.Bytes.{part, Apart, xors, Bytes, joined}
use Rattle.lent.proofs.Parts.{part-part, length-part, sets-append, sets_comm}
use Rattle.lent.proofs.Parts.{part-sets_apart}
use Rattle.lent.proofs.Bounds.{below_part}
use Rattle.salsa.specs.Salsa.{salsa, salsa_bytes, words, bytes}
use Rattle.salsa.proofs.Coding.{words-xors}
use Rattle.salsa.proofs.Laws.{words-salsa_bytes}
use Rattle.mixing.specs.BlockMix.{piece, X, Y, block_mix}
use Rattle.mixing.proofs.Laws.{length_pieces, length-Y, Y-bytes}

-- where the result of turn i lies in the block, in pieces
abbrev pub place : ℕ → ℕ → ℕ
place r i = i / 2 + i % 2 * r

-- ---- any pieces f 0, f 1, .. of 64 bytes, laid even places first

module _ (r : ℕ) (s : List ℕ) (to : ℕ) (f : ℕ → List ℕ) where
  -- the first a of the even ones, and the first b of the odd ones
  halves : ℕ → ℕ → List ℕ
  halves a b = sets (sets s to (joined a (λ k. f (2 * k)))) (to + 64 * r) (joined b (λ k. f (2 * k + 1)))

  -- after i turns
  pub laid_out : ℕ → List ℕ
  laid_out i = halves (i - i / 2) (i / 2)

  pub laid_none : laid_out 0 ≡ s
  unfolding halves laid_out joined
  laid_none = refl

  module _ (long : (i : ℕ) → length (f i) ≡ 64) where
    evens : (a : ℕ) → length (joined a (λ k. f (2 * k))) ≡ 64 * a
    evens a = length_pieces a (λ k. f (2 * k)) (λ k. long (2 * k))

    odds : (b : ℕ) → length (joined b (λ k. f (2 * k + 1))) ≡ 64 * b
    odds b = length_pieces b (λ k. f (2 * k + 1)) (λ k. long (2 * k + 1))

    even_more : (a b : ℕ) → a < r → sets (halves a b) (to + 64 * a) (f (2 * a)) ≡ halves (suc a) b
    unfolding halves joined
    even_more a b h =
        let wide : length (f (2 * a)) ≡ 64 = long (2 * a) in
        sym (sets_comm (sets s to (joined a (λ k. f (2 * k)))) (to + 64 * a) (f (2 * a)) (to + 64 * r) (joined b (λ k. f (2 * k + 1))) (omega arith))
        ∙ ap (λ (l : List ℕ). sets l (to + 64 * r) (joined b (λ k. f (2 * k + 1)))) (rw (sets-append s to, evens a))

    odd_more : (a b : ℕ) → sets (halves a b) (to + 64 * (b + r)) (f (2 * b + 1)) ≡ halves a (suc b)
    unfolding halves joined
    odd_more a b =
        let at : to + 64 * (b + r) ≡ to + 64 * r + 64 * b = omega arith in
        rw (at, sets-append, odds b)

    pub laid_more : (i : ℕ) → i < 2 * r → sets (laid_out i) (to + 64 * place r i) (f i) ≡ laid_out (i + 1)
    unfolding laid_out
    laid_more i h =
        elim (dec_lt (i % 2) 1) [ yes even ↦ at_even (omega arith) | no odd ↦ at_odd (omega arith) ]
      where
        at_even : i % 2 ≡ 0 → sets (laid_out i) (to + 64 * place r i) (f i) ≡ laid_out (i + 1)
        at_even z =
            let e : 2 * (i / 2) ≡ i = omega arith in
            let p : i / 2 + 0 * r ≡ i / 2 = omega arith in
            let a : i - i / 2 ≡ i / 2 = omega arith in
            let a' : i + 1 - (i + 1) / 2 ≡ suc (i / 2) = omega arith in
            let b' : (i + 1) / 2 ≡ i / 2 = omega arith in
            rw (a, a', b', z, p) (rw e at (even_more (i / 2) (i / 2) (omega arith)))

        at_odd : i % 2 ≡ 1 → sets (laid_out i) (to + 64 * place r i) (f i) ≡ laid_out (i + 1)
        at_odd z =
            let e : 2 * (i / 2) + 1 ≡ i = omega arith in
            let p : i / 2 + 1 * r ≡ i / 2 + r = omega arith in
            let a' : i + 1 - (i + 1) / 2 ≡ i - i / 2 = omega arith in
            let b' : (i + 1) / 2 ≡ suc (i / 2) = omega arith in
            rw (a', b', z, p) (rw e at (odd_more (i - i / 2) (i / 2)))

    pub laid_all : laid_out (2 * r) ≡ sets s to (joined r (λ k. f (2 * k)) ++ joined r (λ k. f (2 * k + 1)))
    unfolding laid_out halves
    laid_all =
        let half : 2 * r / 2 ≡ r = omega arith in
        let rest : 2 * r - r ≡ r = omega arith in
        rw (half, rest, sets-append, evens r)

    -- what lies apart from the block is not written
    pub laid_apart : (from : ℕ) → Apart (128 * r) from to → (i : ℕ) → i ≤ 2 * r → (at n : ℕ) → (from ≤ at) × (at + n ≤ from + 128 * r) → part at n (laid_out i) ≡ part at n s
    unfolding laid_out halves
    laid_apart from apart i h at n reads =
        let a = evens (i - i / 2) in
        let b = odds (i / 2) in
        part-sets_apart (128 * r) from to _ at n (to + 64 * r) (joined (i / 2) (λ k. f (2 * k + 1))) apart reads (omega arith)
        ∙ part-sets_apart (128 * r) from to s at n to (joined (i - i / 2) (λ k. f (2 * k))) apart reads (omega arith)

-- ---- the chain of cores

-- the block at place `from` of s, and another place apart from it
pub record Blocks (s : List ℕ) (from to r : ℕ) : Type 0 where
  pub some : 1 ≤ r
  pub reads : from + 128 * r ≤ length s
  pub writes : to + 128 * r ≤ length s
  pub apart : Apart (128 * r) from to
  pub bytes : Bytes s

abbrev block : List ℕ → ℕ → ℕ → List ℕ
block s from r = part from (128 * r) s

piece_is : (s : List ℕ) (from r k : ℕ) → k < 2 * r → piece k (block s from r) ≡ part (from + 64 * k) 64 s
unfolding piece
piece_is s from r k h = part-part (64 * k) 64 from (128 * r) s (omega arith)

length-piece : {s : List ℕ} {from to r : ℕ} → Blocks s from to r → (k : ℕ) → k < 2 * r → length (piece k (block s from r)) ≡ 64
length-piece {s} {from} {to} {r} b k h = rw (piece_is s from r k h) (length-part (from + 64 * k) 64 s (omega arith))

piece_bytes : {s : List ℕ} {from to r : ℕ} → Blocks s from to r → (k : ℕ) → Bytes (piece k (block s from r))
unfolding piece
piece_bytes {s} {from} {to} {r} b k = below_part 256 (64 * k) 64 (block s from r) (below_part 256 from (128 * r) s b.bytes)

words-next : {s : List ℕ} {from to r : ℕ} → Blocks s from to r → (k : ℕ) → k < 2 * r → (x : List ℕ) → length x ≡ 64 → Bytes x
    → words 16 (xors x (piece k (block s from r))) ≡ xors (words 16 x) (words 16 (piece k (block s from r)))
words-next b k h x long all = words-xors 16 x _ long (length-piece b k h) all (piece_bytes b k)

-- The invariant of the loop, before turn i: the results so far are laid out, and x is what goes into the next core.
pub record Mixed (s₀ : List ℕ) (from to r : ℕ) (s x : List ℕ) (i : ℕ) : Type 0 where
  pub is : s ≡ laid_out r s₀ to (Y r (block s₀ from r)) i
  pub kept : length s ≡ length s₀
  pub next : i < 2 * r → x ≡ words 16 (xors (X r (block s₀ from r) i) (piece i (block s₀ from r)))
  pub most : i ≤ 2 * r

pub mixed_none : {s x : List ℕ} {from to r : ℕ} → Blocks s from to r → x ≡ xors (words 16 (part (from + 64 * (2 * r - 1)) 64 s)) (words 16 (part from 64 s)) → Mixed s from to r s x 0
unfolding X
mixed_none {s} {x} {from} {to} {r} b e =
    let B = block s from r in
    let one : from + 64 * 0 ≡ from = omega arith in
    let first : 0 < 2 * r = omega arith in
    let last : 2 * r - 1 < 2 * r = omega arith in
    let T = words-next b 0 first (piece (2 * r - 1) B) (length-piece b (2 * r - 1) last) (piece_bytes b (2 * r - 1)) in
    record {
      is = sym (laid_none r s to (Y r B));
      kept = refl;
      next = λ h. e ∙ sym (T ∙ rw (piece_is s from r (2 * r - 1) last, piece_is s from r 0 first, one));
      most = omega arith;
    }

-- a piece is read as it was at entry
read_is : {s₀ s x : List ℕ} {from to r i : ℕ} (k : ℕ) → Blocks s₀ from to r → Mixed s₀ from to r s x i → k < 2 * r → part (from + 64 * k) 64 s ≡ piece k (block s₀ from r)
read_is {s₀} {s} {x} {from} {to} {r} {i} k b was h =
    let B = block s₀ from r in
    rw (was.is, laid_apart r s₀ to (Y r B) (length-Y r B) from b.apart i was.most (from + 64 * k) 64 (omega arith)) (sym (piece_is s₀ from r k h))

-- the words that come out of a core, exclusive or those of the next piece, are what goes into the next core
carried : {s : List ℕ} {from to r : ℕ} → Blocks s from to r → (i : ℕ) → suc i < 2 * r
    → xors (salsa 8 (words 16 (xors (X r (block s from r) i) (piece i (block s from r))))) (words 16 (piece (suc i) (block s from r)))
    ≡ words 16 (xors (X r (block s from r) (suc i)) (piece (suc i) (block s from r)))
unfolding X Y
carried {s} {from} {to} {r} b i h =
    let B = block s from r in
    let T = xors (X r B i) (piece i B) in
    sym
    (words-next b (suc i) h (salsa_bytes 8 T) (length-Y r B i) (Y-bytes r B i)
    ∙ ap (λ (l : List ℕ). xors l (words 16 (piece (suc i) B))) (words-salsa_bytes 8 T))

pub mixed-more :
    {s₀ s x : List ℕ} {from to r i : ℕ} (k : ℕ) → Blocks s₀ from to r → Mixed s₀ from to r s x i → i < 2 * r → (k < 2 * r) × (i + 1 < 2 * r → k ≡ i + 1)
    → Mixed s₀ from to r (sets s (to + 64 * place r i) (bytes (salsa 8 x))) (xors (salsa 8 x) (words 16 (part (from + 64 * k) 64 s))) (i + 1)
unfolding X Y salsa_bytes
mixed-more {s₀} {s} {x} {from} {to} {r} {i} k b was h after =
    let B = block s₀ from r in
    let T = xors (X r B i) (piece i B) in
    let out : salsa 8 x ≡ salsa 8 (words 16 T) = ap (salsa 8) (was.next h) in
    record {
      is = rw (out, was.is) (laid_more r s₀ to (Y r B) (length-Y r B) i h);
      kept = rw length-sets was.kept;
      next = λ more. rw (read_is k b was after.0, after.1 more, out, add-one) (carried b i (omega arith));
      most = omega arith;
    }

pub mixed_all : {s₀ s x : List ℕ} {from to r i : ℕ} → Mixed s₀ from to r s x i → 2 * r ≤ i → s ≡ sets s₀ to (block_mix r (block s₀ from r))
unfolding block_mix
mixed_all {s₀} {s} {x} {from} {to} {r} {i} was h =
    let e : i ≡ 2 * r = omega (arith, was.most) in
    was.is ∙ rw e (laid_all r s₀ to (Y r (block s₀ from r)) (length-Y r (block s₀ from r)))
