-- `columns::put_bytes` meets its contract. Assumes nothing.
use Prim.Native.Nat.{◌+◌, ◌-◌}
use mathlib.Core.Path.{◌≡◌, ap, ◌∙◌}
use native.Mathlib.Omega.{arith}
use lib.ListN.{length}
use lib.Seq.{sets}
use Rattle.lists.proofs.Stores.{part_back}
use Rattle.columns.proofs.put_bytes.Goals as goal

pub returns : goal.returns
returns c =
    let a = c.args in
    let n = a.at + length a.s.now - a.at in
    let e = c.copy_from_slice.ensures.after in
    let k : length c.copy_from_slice.new.self ≡ n = ap length e ∙ omega arith in
    part_back a.out.now c.copy_from_slice.new.self a.at n (omega arith) k ∙ ap (sets a.out.now a.at) e
