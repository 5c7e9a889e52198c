-- `fill_codes::fill_list` meets its contract: what is stored, with the codes that are left, ends alike. Assumes nothing.
use Prim.Native.Nat.{◌+◌, ◌-◌}
use mathlib.Core.Path.{sym, ◌∙◌}
use mathlib.Core.Path.{◌≡◌}
use native.Mathlib.Omega.{arith}
use lib.ListN.{take, drop}
use Rattle.lists.proofs.Stores.{store_more, store_none}
use Rattle.fill_codes.proofs.Stored.{codes_next, codes_none}
use Rattle.fill_codes.proofs.fill_list.Goals as goal

pub loop-i-init : goal.loop-i-init
loop-i-init c = let e : c.args.p + c.args.n - c.args.p ≡ c.args.n = omega arith in rw e

pub loop-i-preserved : goal.loop-i-preserved
loop-i-preserved c =
    let a = c.args in
    let i = c.loop-i.i in
    store_more c.loop-i.codes _ _ _ _ i (i + 1) c.put.ensures (omega arith) (codes_next a.table.now i (a.p + a.n) (omega arith) (omega arith)) ∙ c.loop-i.invariant

pub returns : goal.returns
returns c =
    let a = c.args in
    let i = c.loop-i.i in
    sym (store_none c.loop-i.codes (take (a.p + a.n - i) (drop i a.table.now)) i (codes_none a.table.now i (a.p + a.n) (omega arith))) ∙ c.loop-i.invariant
