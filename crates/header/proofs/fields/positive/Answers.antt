-- `header::fields::positive` meets its contract. Assumes nothing.
use Prim.Native.Nat.{ℕ}
use mathlib.Core.Path.{◌≡◌}
use native.Mathlib.Omega.{arith}
use lib.IntN.{negsuc, pos}
use mir.Syntax.{w64}
use mir.ValLaws.{to_z-of_z}
use Rattle.field.proofs.Signs.{minus_is, plus_is}
use Rattle.header.proofs.fields.positive.Goals as goal

pub overflow_cast-result : goal.overflow_cast-result
overflow_cast-result c =
    let not_below : (n : ℕ) × (c.args.z ≡ pos n) =
    plus_is c.args.z (rw (to_z-of_z w64 c.args.z c.ranges.z) at c.if-z-lt0.false) in
    let e = not_below.1 in
    let f = rw e at c.ranges.z.sfits in
    rw (to_z-of_z w64 c.args.z c.ranges.z, e) (tt, record { fits = omega arith })

pub returns-then-z-lt0 : goal.returns-then-z-lt0
returns-then-z-lt0 c =
    let below : (n : ℕ) × (c.args.z ≡ negsuc n) =
    minus_is c.args.z (rw (to_z-of_z w64 c.args.z c.ranges.z) at c.if-z-lt0.true) in
    rw below.1

pub returns-else-z-lt0 : goal.returns-else-z-lt0
returns-else-z-lt0 c =
    let not_below : (n : ℕ) × (c.args.z ≡ pos n) =
    plus_is c.args.z (rw (to_z-of_z w64 c.args.z c.ranges.z) at c.if-z-lt0.false) in
    rw (to_z-of_z w64 c.args.z c.ranges.z, not_below.1)
