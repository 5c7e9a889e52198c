-- `write_field::holds` meets its contract: the table has the powers of 10, and past it the digits are counted. Assumes nothing.
use Prim.Native.Nat.{ℕ}
use mathlib.Core.Path.{ap, ◌∙◌}
use native.Mathlib.Nat.{one-mul}
use native.Mathlib.Omega.{arith}
use lib.Dec.{ltb}
use Rattle.write_field.proofs.Counting.{tens_are, count_holds}
use Rattle.write_field.proofs.holds.Goals as goal

pub returns-then-digits-lt16 : goal.returns-then-digits-lt16
returns-then-digits-lt16 c = let a = c.args in ap (λ (p : ℕ). ltb a.n p) (tens_are 16 1 a.digits c.if-digits-lt16.true ∙ one-mul _)

pub returns : goal.returns
returns c = let a = c.args in count_holds a.n c.count.result a.digits c.count.ensures (omega (arith, c.if-digits-lt16.false))
