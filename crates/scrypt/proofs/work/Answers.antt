-- `scrypt::work` meets its contract: the lanes are laid, mixed where they lie, and lent on as the salt of the key; the scratch is wiped whole.
use native.Mathlib.Omega.{arith}
use mathlib.Core.Path.{◌≡◌, ap, ap₂, ◌∙◌}
use Prim.Native.Nat.{ℕ, ◌*◌}
use mathlib.Core.List.{List}
use lib.ListN.{length}
use Rattle.lent.specs.Bytes.{part, zeros, joined}
use Rattle.romix.specs.ROMix.{ro_mix, sum, mixings}
use Rattle.pbkdf2.specs.Pbkdf2.{pbkdf2}
use Rattle.scrypt.specs.Scrypt.{lanes, scrypt}
use Rattle.scrypt.proofs.Ahead.{plan_means, plan_fits, lanes_fit}
use Rattle.scrypt.proofs.Lanes.{lanes_counted, lanes-mixed}
use Rattle.scrypt.proofs.work.Goals as goal

pub overflow_mul-size : goal.overflow_mul-size
overflow_mul-size c =
    let plan = plan_means _ _ _ _ _ _ _ c.requires in
    omega (arith, plan.sound.few_r)

pub overflow_mul-size-2 : goal.overflow_mul-size-2
overflow_mul-size-2 c =
    let small = (lanes_fit (plan_means _ _ _ _ _ _ _ c.requires)).0 in
    omega arith

pub lay_lanes-requires : goal.lay_lanes-requires
lay_lanes-requires c =
    let plan = plan_means _ _ _ _ _ _ _ c.requires in
    let size = lanes_fit plan in
    (plan.short_pass, plan.short_salt, size.0, size.1)

pub mix_lanes-made-requires : goal.mix_lanes-made-requires
mix_lanes-made-requires c =
    let plan = plan_means _ _ _ _ _ _ _ c.requires in
    rw (c.number-n.ensures, c.lay_lanes.auto.scratch) (plan_fits plan, plan.sound.some_p, plan.allowed)

pub take_key-requires : goal.take_key-requires
take_key-requires c =
    let plan = plan_means _ _ _ _ _ _ _ c.requires in
    let size = lanes_fit plan in
    (plan.short_pass, size.0, omega (arith, size.1, c.mix_lanes-made.auto.s, c.lay_lanes.auto.scratch), plan.short_key)

pub returns : goal.returns
unfolding lanes scrypt
returns c =
    let v = c.args in
    let d = v.c in
    let B : ℕ = 128 * d.r in
    let P : List ℕ = v.pass.now in
    let S : List ℕ = v.salt.now in
    let s : List ℕ = v.scratch.now in
    let room = (lanes_fit (plan_means _ _ _ _ _ _ _ c.requires)).1 in
    let n = c.number-n.ensures in
    let laid = c.lay_lanes.ensures in
    let mixed = c.mix_lanes-made in
    let long : length mixed.new.s ≡ length s = mixed.auto.s ∙ c.lay_lanes.auto.scratch in (
      mixed.ensures.0
          ∙ ap₂ (λ (m : ℕ) (l : List ℕ). sum d.p (λ i. mixings v.plan.spacing d.r m (part (i * B) B l))) n laid
          ∙ lanes_counted P S d.r d.p s room v.plan.spacing d.n.0,
      (c.take_key.ensures
          ∙ ap (λ (l : List ℕ). pbkdf2 P l (length v.key.now))
          (mixed.ensures.1
          ∙ ap₂ (λ (m : ℕ) (l : List ℕ). joined d.p (λ i. ro_mix d.r m (part (i * B) B l))) n laid
          ∙ lanes-mixed P S d.r d.p s room d.n.0)),
      c.wipe_all.ensures ∙ ap zeros long,
    )
