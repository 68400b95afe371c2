-- The working block has no part in the machine: each write passes through the wiping of it, and no block that is read is it.
-- Assumes nothing.
use Rattle.std.proofs.Common.{◌≡◌, ℕ, ◌*◌, ◌/◌, ◌%◌, ◌<◌, eqb, ltb, ◌≢◌, List, length, sym, refl, ap, ◌∙◌, ap₂, arith, ltb-true}
use lib.ListN.{length-replicate}
use lib.Seq.{sets, length-sets}
use Rattle.lent.specs.Bytes.{zeros, pick, xors}
use Rattle.lent.proofs.Parts.{sets_comm}
use Rattle.lent.proofs.Picks.{pick_ap, pick_same}
use Rattle.lent.proofs.Tabs.{length-xors}
use Rattle.mixing.specs.BlockMix.{block_mix}
use Rattle.mixing.proofs.Laws.{length-block_mix}
use Rattle.romix.specs.declared.State.{State}
use Rattle.romix.specs.Machine.{Room, block, blocks, get, put, at_x, at_step, at_work, at_stored, clean, mixed, kept, settled, loaded, followed}
use Rattle.romix.proofs.Blocks.{get-put_same, get-put_other, put_over, put_comm, length-get}

pub clean-put : (t : State) (i : ℕ) (v s : List ℕ) → length v ≡ block t → i ≢ at_work t → clean t (put t i v s) ≡ put t i v (clean t s)
unfolding clean
clean-put t i v s e h = put_comm t i (at_work t) v (zeros (block t)) s e (length-replicate (block t) 0) h

pub clean_work : (t : State) (v s : List ℕ) → length v ≡ block t → clean t (put t (at_work t) v s) ≡ clean t s
unfolding clean
clean_work t v s e = put_over t (at_work t) v (zeros (block t)) s e (length-replicate (block t) 0)

pub get-clean : (t : State) (i : ℕ) (s : List ℕ) → i ≢ at_work t → get t i (clean t s) ≡ get t i s
unfolding clean
get-clean t i s h = get-put_other t (at_work t) i (zeros (block t)) s (length-replicate (block t) 0) (λ p. h (sym p))

pub length-clean : (t : State) (s : List ℕ) → length (clean t s) ≡ length s
unfolding clean
length-clean t s = length-sets s (at_work t * block t) (zeros (block t))

-- a block is made in the working block and mixed to its place: of the scratch with that block wiped, only the place has changed
pub clean-mixed : (t : State) (to : ℕ) (v s : List ℕ) → Room t (length s) → length v ≡ block t → length (block_mix t.r v) ≡ block t → to ≢ at_work t
    → clean t (mixed t (at_work t) to (put t (at_work t) v s)) ≡ put t to (block_mix t.r v) (clean t s)
clean-mixed t to v s fits e f h =
    ap (λ (w : List ℕ). clean t (put t to (block_mix t.r w) (put t (at_work t) v s))) (get-put_same (at_work t) v s fits (omega arith) e)
    ∙ clean-put t to (block_mix t.r v) (put t (at_work t) v s) f h
    ∙ ap (put t to (block_mix t.r v)) (clean_work t v s e)

module _ (t : State) (s : List ℕ) (fits : Room t (length s)) where
  -- X, and what is written of it
  clean-X : (i : ℕ) → i ≢ at_work t → clean t (put t i (get t (at_x t) s) s) ≡ put t i (get t (at_x t) (clean t s)) (clean t s)
  clean-X i h =
      clean-put t i (get t (at_x t) s) s (length-get (at_x t) s fits (omega arith)) h
      ∙ ap (λ (v : List ℕ). put t i v (clean t s)) (sym (get-clean t (at_x t) s (omega arith)))

  pub clean-kept : (i : ℕ) → clean t (kept t i s) ≡ kept t i (clean t s)
  unfolding kept
  clean-kept i =
      pick_ap (clean t) (eqb (i % t.k) 0) _ _
      ∙ ap (λ (l : List ℕ). pick (eqb (i % t.k) 0) l (clean t s)) (pick_ap (clean t) (ltb i t.n) _ _ ∙ ap (λ (l : List ℕ). pick (ltb i t.n) l (clean t s)) (clean-X (at_stored t (i / t.k)) (omega arith)))

  pub clean-settled : clean t (settled t s) ≡ settled t (clean t s)
  unfolding settled
  clean-settled =
      pick_ap (clean t) (eqb t.ahead 0) _ _
      ∙ ap (λ (l : List ℕ). pick (eqb t.ahead 0) (clean t s) l) (clean-put t (at_step t) (zeros (block t)) s (length-replicate (block t) 0) (omega arith))

  pub clean-loaded : (lane : ℕ) → lane < t.p → clean t (loaded t lane s) ≡ loaded t lane (clean t s)
  unfolding loaded
  clean-loaded lane h =
      let long = length-get lane s fits (omega arith) in
      clean-put t (at_stored t 0) (get t lane s) (put t (at_x t) (get t lane s) s) long (omega arith)
      ∙ ap (put t (at_stored t 0) (get t lane s)) (clean-put t (at_x t) (get t lane s) s long (omega arith))
      ∙ ap (λ (v : List ℕ). put t (at_stored t 0) v (put t (at_x t) v (clean t s))) (sym (get-clean t lane s (omega arith)))

-- the stored blocks lie past the working block
clean_wiped : (t : State) (s : List ℕ) → clean t (sets s (at_stored t 0 * block t) (zeros (t.w * block t))) ≡ sets (clean t s) (at_stored t 0 * block t) (zeros (t.w * block t))
unfolding clean
clean_wiped t s =
    let long : length (zeros (block t)) ≡ block t = length-replicate (block t) 0 in
    sym (sets_comm s (at_work t * block t) (zeros (block t)) (at_stored t 0 * block t) (zeros (t.w * block t)) (omega arith))

pub clean-followed : (t : State) (s : List ℕ) (lane : ℕ) → Room t (length s) → clean t (followed t lane s) ≡ followed t lane (clean t s)
unfolding followed
clean-followed t s lane fits =
    let s' = sets s (at_stored t 0 * block t) (zeros (t.w * block t)) in
    let wiped = sets (clean t s) (at_stored t 0 * block t) (zeros (t.w * block t)) in
    pick_same (clean t) (ltb lane t.p) (loaded t lane s') s (loaded t lane wiped) (clean t s)
    (λ e. clean-loaded t s' (rw length-sets fits) lane (ltb-true lane t.p e) ∙ ap (loaded t lane) (clean_wiped t s))
    (λ _. refl)

-- ---- what the code makes by way of the working block, said of the scratch with that block wiped

module _ (t : State) (s : List ℕ) (fits : Room t (length s)) where
  room_put : (i : ℕ) (v : List ℕ) → Room t (length (put t i v s))
  room_put i v = rw length-sets fits

  -- block `from`, mixed
  pub made_mixed : (from to : ℕ) → from < blocks t → from ≢ at_work t → to ≢ at_work t
      → clean t (mixed t (at_work t) to (put t (at_work t) (get t from s) s)) ≡ mixed t from to (clean t s)
  made_mixed from to within h k =
      let long = length-get from s fits within in
      clean-mixed t to (get t from s) s fits long (length-block_mix t.r (get t from s)) k
      ∙ ap (λ (v : List ℕ). put t to (block_mix t.r v) (clean t s)) (sym (get-clean t from s h))

  -- X xor block `from`, mixed
  pub made_xored : (from : ℕ) → from < blocks t → from ≢ at_work t
      → clean t (mixed t (at_work t) (at_x t) (put t (at_work t) (xors (get t (at_x t) s) (get t from s)) s))
      ≡ put t (at_x t) (block_mix t.r (xors (get t (at_x t) (clean t s)) (get t from (clean t s)))) (clean t s)
  made_xored from within h =
      let x = get t (at_x t) s in
      let v = get t from s in
      let one = length-get (at_x t) s fits (omega arith) in
      let two = length-get from s fits within in
      let long : length (xors x v) ≡ block t = length-xors x v (one ∙ sym two) ∙ one in
      clean-mixed t (at_x t) (xors x v) s fits long (length-block_mix t.r (xors x v)) (omega arith)
      ∙ ap₂ (λ (a b : List ℕ). put t (at_x t) (block_mix t.r (xors a b)) (clean t s)) (sym (get-clean t (at_x t) s (omega arith))) (sym (get-clean t from s h))
