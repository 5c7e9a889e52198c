-- `code_list::some_list` meets its contract. Assumes nothing.
use Prim.Native.Nat.{ℕ}
use mathlib.Core.Path.{◌∙◌}
use mathlib.Core.Bool.{not}
use lib.Dec.{eqb}
use Rattle.std.proofs.Common.{rules, tests}
use Rattle.std.proofs.lemmas.Iterator.{YieldsList-from_slice}
use Rattle.std.proofs.lemmas.Iterator.Search.{any_from_yields_List}
use Rattle.code_list.proofs.Listed.{some_counted}
use Rattle.code_list.proofs.some_list.Goals as goal

pub returns : goal.returns
returns c =
    let s = c.args.lengths in
    any_from_yields_List (λ (n : ℕ). not (eqb n 0)) _ _ c.any.result c.any.ensures.ran (YieldsList-from_slice s cc) (λ x b q k. search (rules, tests)) ∙ some_counted s
