-- `fill_codes::fill_codes` meets its contract: what is stored, with the lists that are left, ends alike. Assumes nothing.
use Prim.Native.Nat.{◌*◌}
use mathlib.Core.Path.{refl, sym, ◌∙◌}
use native.Mathlib.Omega.{arith}
use Rattle.fill_codes.proofs.Stored.{codes_more, codes_done}
use Rattle.fill_codes.proofs.fill_codes.Goals as goal

pub loop-y-init : goal.loop-y-init
loop-y-init c = refl

pub fill_list-requires : goal.fill_list-requires
fill_list-requires c = omega (arith, c.requires.1.0 c.loop-y.y, c.requires.1.1)

pub loop-y-preserved : goal.loop-y-preserved
loop-y-preserved c =
    let a = c.args in
    codes_more a.lengths a.table.now c.loop-y.codes _ c.loop-y.y (omega (arith, c.requires.0)) c.fill_list.ensures ∙ c.loop-y.invariant

pub returns : goal.returns
returns c =
    let a = c.args in
    sym (codes_done a.lengths a.table.now c.loop-y.codes (64 * c.loop-y.y) c.loop-y.y (omega (arith, c.requires.0))) ∙ c.loop-y.invariant
