-- `find_line::skip_blocks` meets its contract. The invariant: the bytes up to place i are plain. Assumes nothing.
use Prim.Native.Nat.{◌+◌}
use mathlib.Core.Path.{◌≡◌}
use mathlib.Core.Bool.{true}
use Rattle.line.specs.Text.{are_plain}
use Rattle.find_line.specs.Promises.{between}
use native.Mathlib.Omega.{arith}
use Rattle.find_line.proofs.Finding.{between_none, plain_block}
use Rattle.find_line.proofs.skip_blocks.Goals as goal

pub returns-then-text-at : goal.returns-then-text-at
returns-then-text-at c = let a = c.args in record { from = omega arith; plain = rw (between_none a.text.now a.at a.at (omega arith)) }

pub loop-i-init : goal.loop-i-init
loop-i-init c = let a = c.args in (omega arith, omega arith, rw (between_none a.text.now a.at a.at (omega arith)))

pub loop-i-preserved : goal.loop-i-preserved
loop-i-preserved c =
    let a = c.args in
    let i = c.loop-i.i in
    let b : are_plain (between i (i + 16) a.text.now) ≡ true = cc in
    (omega arith, omega arith, plain_block a.text.now a.at i (i + 16) (omega arith) (omega arith) c.loop-i.invariant.2 b)

pub returns : goal.returns
returns c = record { from = c.loop-i.invariant.0; plain = c.loop-i.invariant.2 }
