-- `code::stands` meets its contract. Assumes nothing.
use Prim.Native.Nat.{◌-◌}
use mathlib.Core.Path.{◌∙◌}
use lib.ListN.{take, drop}
use Rattle.code.proofs.Packed.{in_any}
use Rattle.code.proofs.stands.Goals as goal

pub returns : goal.returns
returns c =
    let a = c.args in
    c.contains.ensures.value ∙ in_any a.code (take (a.to - a.from) (drop a.from a.table.now))
