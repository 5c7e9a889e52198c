-- `line::within::skip_blanks` meets its contract. Assumes nothing.
use lib.Seq.{length-take-le}
use native.Mathlib.Omega.{arith}
use mathlib.Core.Path.{refl}
use mathlib.Core.List.{[], ◌∷◌}
use Rattle.line.proofs.Turns.{ends_blank}
use Rattle.line.proofs.within.skip_blanks.Goals as goal

pub loop-n-preserved : goal.loop-n-preserved
loop-n-preserved c =
    let t = c.loop-n-test.ensures in
    let line = c.args.line.now in
    (omega arith, ends_blank line c.loop-n.n (32 ∷ 32 ∷ 32 ∷ 32 ∷ []) (omega arith) (omega (arith, length-take-le c.loop-n.n line (omega arith), t.bound refl)) refl t.value c.loop-n.invariant.1)
