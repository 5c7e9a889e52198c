-- `moment::month_days` meets its contract. Assumes nothing.
use mathlib.Core.Path.{◌≡◌, refl, subst⁻¹}
use mathlib.Core.Bool.{true}
use Prim.Native.Nat.{ℕ, ◌≤◌}
use native.Mathlib.Omega.{arith}
use lib.ListN.{get_or}
use Rattle.moment.specs.Moment.{month_days}
use Rattle.moment.proofs.Days.{lengths, month_common, month_31}
use Rattle.moment.proofs.month_days.Goals as goal
use Rattle.moment.proofs.month_days.Goals.{else-l-via-then-l+else-k-eq1, else-l-via-else-l}

february : month_days true 1 ≡ 29
unfolding month_days
february = refl

pub returns-then-k-eq1 : goal.returns-then-k-eq1
returns-then-k-eq1 c =
    let a = c.args in
    let e : month_days a.l a.k ≡ 29 = rw (c.if-k-eq1.true, c.if-l.true) february in
    (omega arith, omega arith)

pub returns : goal.returns
returns c =
    let a = c.args in
    let e : get_or (lengths 28) a.k 0 ≡ month_days a.l a.k = month_common a.l a.k
    (λ k. elim c.else-l.branch [ else-l-via-then-l+else-k-eq1 w ↦ absurd (w.if-k-eq1.false k) | else-l-via-else-l w ↦ w.if-l.false ]) in
    (e, subst⁻¹ (λ (n : ℕ). n ≤ 31) e (month_31 a.l a.k))
