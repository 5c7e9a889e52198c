-- `line::within::cut_length` meets its contract. Assumes nothing.
use Prim.Native.Nat.{ℕ, ◌+◌, ◌-◌}
use mathlib.Core.Path.{◌≡◌}
use native.Mathlib.Omega.{arith}
use Rattle.line.proofs.Turns.{cut_here, cut_blank}
use Rattle.line.proofs.within.cut_length.Goals as goal

pub returns-then-line-i-ne32 : goal.returns-then-line-i-ne32
returns-then-line-i-ne32 c =
    let i : ℕ = c.loop-i.i in
    let e : i - 1 + 1 ≡ i = omega arith in
    (omega arith, rw e (cut_here c.args.line.now i (omega arith) (omega arith) c.if-line-i-ne32.true c.loop-i.invariant))

pub returns : goal.returns
returns c = let e : c.loop-i.i ≡ 0 = omega arith in (omega arith, cut_blank c.args.line.now (rw e at c.loop-i.invariant))
